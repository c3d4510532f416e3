-- A version without epoch, or one after an epoch and a colon.
use Rattle.deb_version.proofs.Common.{ℕ, List, ◌+◌, ◌-◌, length, take, drop, take_rest}
use Rattle.deb_version.proofs.PrefixRuns.{version_run, epoch_run, epoch_before}
use Rattle.deb_version.proofs.CanonicalPrefix.{IsItself}
use Rattle.deb_version.proofs.prefix.canonical_prefix.Goals as goal
use Rattle.deb_version.proofs.prefix.canonical_prefix.Goals.{Else-has_byte_at-2}

pub returns-then-not-has_byte_at-clause-run : goal.returns-then-not-has_byte_at-clause-run
returns-then-not-has_byte_at-clause-run c =
    version_run c.args.text.now c.in_ok-front.front c.in_ok-front.ensures.run (c.has_byte_at.ensures.other c.if-not-has_byte_at.true)

-- what follows the colon
abbrev rest : Else-has_byte_at-2 → List ℕ
rest c = take (length c.args.text.now - (c.in_ok-front.front + 1)) (drop (c.in_ok-front.front + 1) c.args.text.now)

with_epoch : (c : Else-has_byte_at-2) → IsItself (take (c.in_ok-front.front + 1 + c.in_ok-len.len) c.args.text.now)
with_epoch c =
    epoch_before c.args.text.now c.in_ok-front.front (rest c) c.in_ok-len.len (take_rest c.args.text.now (c.in_ok-front.front + 1))
    (c.has_byte_at.ensures.here c.if-not-has_byte_at.false)
    (record { faultless = c.in_ok-front.ensures.faultless; canonical = c.in_ok-front.ensures.canonical })
    (c.are_digits.ensures c.if-not-are_digits.false) (c.has_byte_at-2.ensures.other c.if-has_byte_at.false) c.in_ok-len.ensures.run
    (record { faultless = c.in_ok-len.ensures.faultless; canonical = c.in_ok-len.ensures.canonical })

pub returns-clause-run : goal.returns-clause-run
returns-clause-run c =
    epoch_run c.args.text.now c.in_ok-front.front (rest c) c.in_ok-len.len (take_rest c.args.text.now (c.in_ok-front.front + 1))
    (c.has_byte_at.ensures.here c.if-not-has_byte_at.false) c.in_ok-front.ensures.run c.in_ok-len.ensures.run (c.has_byte_at-3.ensures.other c.if-has_byte_at-2.false)

pub returns-clause-faultless : goal.returns-clause-faultless
returns-clause-faultless c = (with_epoch c).faultless

pub returns-clause-canonical : goal.returns-clause-canonical
returns-clause-canonical c = (with_epoch c).canonical
