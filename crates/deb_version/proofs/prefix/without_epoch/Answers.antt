-- An upstream version, and a revision after a hyphen.
use Rattle.deb_version.proofs.Common.{ℕ, List, ◌+◌, ◌-◌, sym, ◌∙◌, length, take, drop, take_rest}
use Rattle.deb_version.proofs.PrefixRuns.{component, upstream_run, revision_run, revision_behind}
use Rattle.deb_version.proofs.CanonicalPrefix.{IsItself, upstream_itself}
use Rattle.deb_version.proofs.prefix.without_epoch.Goals as goal
use Rattle.deb_version.proofs.prefix.without_epoch.Goals.{Then-not-has_byte_at, Else-has_byte_at}

alone : (c : Then-not-has_byte_at) → IsItself (take c.in_ok-upstream.upstream c.args.text.now)
alone c =
    upstream_itself (take c.in_ok-upstream.upstream c.args.text.now)
    (component c.args.text.now c.in_ok-upstream.upstream c.in_ok-upstream.ensures.run c.in_ok-upstream.ensures.canonical)

pub returns-then-not-has_byte_at : goal.returns-then-not-has_byte_at
returns-then-not-has_byte_at c = record {
  bound = c.in_ok-upstream.ensures.bound;
  run = upstream_run c.args.text.now c.in_ok-upstream.upstream c.in_ok-upstream.ensures.run (c.has_byte_at.ensures.other c.if-not-has_byte_at.true);
  faultless = (alone c).faultless;
  canonical = (alone c).canonical;
}

-- what follows the hyphen
abbrev rest : Else-has_byte_at → List ℕ
rest c = take (length c.args.text.now - (c.in_ok-upstream.upstream + 1)) (drop (c.in_ok-upstream.upstream + 1) c.args.text.now)

with_revision : (c : Else-has_byte_at) → IsItself (take (c.in_ok-upstream.upstream + 1 + c.in_ok-revision.revision) c.args.text.now)
with_revision c =
    revision_behind c.args.text.now c.in_ok-upstream.upstream (rest c) c.in_ok-revision.revision (take_rest c.args.text.now (c.in_ok-upstream.upstream + 1))
    (c.has_byte_at.ensures.here c.if-not-has_byte_at.false)
    (component c.args.text.now c.in_ok-upstream.upstream c.in_ok-upstream.ensures.run c.in_ok-upstream.ensures.canonical)
    (component (rest c) c.in_ok-revision.revision c.in_ok-revision.ensures.run c.in_ok-revision.ensures.canonical)
    (sym c.is_no_revision.ensures ∙ c.if-is_no_revision.false)

pub returns-clause-run : goal.returns-clause-run
returns-clause-run c =
    revision_run c.args.text.now c.in_ok-upstream.upstream (rest c) c.in_ok-revision.revision (take_rest c.args.text.now (c.in_ok-upstream.upstream + 1))
    (c.has_byte_at.ensures.here c.if-not-has_byte_at.false) c.in_ok-upstream.ensures.run c.in_ok-revision.ensures.run
    (c.has_byte_at-else-is_no_revision.ensures.other c.if-has_byte_at.false)

pub returns-clause-faultless : goal.returns-clause-faultless
returns-clause-faultless c = (with_revision c).faultless

pub returns-clause-canonical : goal.returns-clause-canonical
returns-clause-canonical c = (with_revision c).canonical
