use Rattle.deb_version.proofs.Common.{◌≡◌, Some, None, sym, ◌∙◌, arith}
use Rattle.deb_version.proofs.FaultLemmas.{no_fault-from_spells}
use Rattle.deb_version.proofs.ParseLemmas.{allowed, short_spelling, spelling_is, spells, meaning_is}
use Rattle.deb_version.proofs.version.Version.parse.Goals as goal

pub invariant_of-result : goal.invariant_of-result
invariant_of-result c =
    let is = c.in-Ok.ensures.ok in
    record { well_formed = allowed c.args.text.now _ is.0 is.1; short = short_spelling c.args.text.now _ is.0 (omega (arith, c.well_formed.0.1)) }

pub returns-in-Ok-clause-ok : goal.returns-in-Ok-clause-ok
returns-in-Ok-clause-ok c = let is = c.in-Ok.ensures.ok in spells c.args.text.now _ is.0 is.1

pub returns-in-Ok-clause-spelled : goal.returns-in-Ok-clause-spelled
returns-in-Ok-clause-spelled c = spelling_is c.args.text.now _ c.in-Ok.ensures.ok.0

pub returns-in-Ok-clause-accepted : goal.returns-in-Ok-clause-accepted
returns-in-Ok-clause-accepted c = meaning_is c.args.text.now _ c.in-Ok.ensures.ok.0

-- a text with a fault spells nothing
pub returns-in-Err-clause-accepted : goal.returns-in-Err-clause-accepted
returns-in-Err-clause-accepted c = λ m s. absurd (some_none (sym c.in-Err.ensures.refused ∙ no_fault-from_spells c.args.text.now m s))
  where
    some_none : {A : Type 0} {x : A} → Some x ≡ None → ⊥
    some_none e = cc
