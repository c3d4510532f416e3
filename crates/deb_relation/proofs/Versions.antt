-- A version that is parsed is the one that is read.
use Rattle.std.proofs.Common.{◌≡◌, ℕ, List, None, Ok, sym, ap, ◌∙◌, length}
use Rattle.deb_version.specs.Parts.{Meaning}
use Rattle.deb_version.specs.Grammar.{SpellsVersion, meaning_of_components}
use Rattle.deb_version.specs.Places.{components_in}
use Rattle.deb_version.specs.Faults.{first_fault}
use Rattle.deb_version.proofs.FaultLemmas.{no_fault-from_spells}
use Rattle.deb_version.proofs.MeaningLemmas.{spelled_components}
use Rattle.deb_relation.specs.Reading.{Reading, read_version, or_fault, run_of, behind_run, behind_white, is_before}

abbrev read_run : List ℕ → List ℕ → ℕ → Reading Meaning
read_run r b l = or_fault (first_fault r) (meaning_of_components (components_in r)) b l

pub version_in : (text run behind : List ℕ) (m : Meaning) → run ≡ run_of (is_before 41) text → behind ≡ behind_white (behind_run (is_before 41) text) → SpellsVersion run m → read_version text ≡ Ok (m, behind)
unfolding read_version
version_in text run behind m is_run is_behind spells =
    let none : first_fault run ≡ None = no_fault-from_spells run m spells in
    let mean : m ≡ meaning_of_components (components_in run) = (spelled_components run m spells).1 in
    let here : read_run run (behind_white (behind_run (is_before 41) text)) (length text) ≡ Ok (m, behind) = ap (λ f. or_fault f (meaning_of_components (components_in run)) (behind_white (behind_run (is_before 41) text)) (length text)) none ∙ ap (λ v. or_fault None v (behind_white (behind_run (is_before 41) text)) (length text)) (sym mean) ∙ ap (λ b. or_fault None m b (length text)) (sym is_behind) in
    ap (λ r. read_run r (behind_white (behind_run (is_before 41) text)) (length text)) (sym is_run) ∙ here
