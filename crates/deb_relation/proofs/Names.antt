-- Names of packages at the beginning of a text.
use Rattle.std.proofs.Common.{◌≡◌, ◌≤◌, ℕ, Bool, true, false, cond, ◌+◌, List, [], ◌∷◌, length, Ok, IsTrue, refl, ap, ◌∙◌, arith}
use Rattle.std.specs.List.{prefix_len}
use Rattle.std.proofs.lemmas.Bool.{le-leb}
use Rattle.deb_base.specs.PackageNames.{begins_small_or_digit, is_package_byte, is_package_name}
use Rattle.deb_version.proofs.ByteLemmas.{all_pass-test}
use Rattle.deb_relation.specs.Reading.{run_of, behind_run, is_in_name, read_name}
use Rattle.deb_relation.proofs.Runs.{Passes, Stops, run_of-split, run_of-passes}
use Rattle.deb_relation.proofs.SpelledParts.{name_read}

none_stops : (test : ℕ → Bool) (rest : List ℕ) → prefix_len test rest ≡ 0 → Stops test rest
none_stops test [] e = tt
none_stops test (b ∷ bs) e = by_test (test b) refl e
  where
    by_test : (v : Bool) → test b ≡ v → cond v (1 + prefix_len test bs) 0 ≡ 0 → test b ≡ false
    by_test true was e = absurd (omega (arith, e))
    by_test false was e = was

is_name : (name : List ℕ) → 2 ≤ length name → begins_small_or_digit name ≡ true → Passes is_package_byte name → IsTrue (is_package_name name)
is_name name long begin all = rw (le-leb 2 (length name) long, begin, all_pass-test is_package_byte name all) refl

pub name_begun : (text : List ℕ) → 2 ≤ length (run_of is_package_byte text) → begins_small_or_digit (run_of is_package_byte text) ≡ true → prefix_len is_in_name (behind_run is_package_byte text) ≡ 0 → read_name text ≡ Ok (run_of is_package_byte text, behind_run is_package_byte text)
name_begun text long begin none =
    ap read_name (run_of-split is_package_byte text)
    ∙ name_read (run_of is_package_byte text) (behind_run is_package_byte text) (is_name (run_of is_package_byte text) long begin (run_of-passes is_package_byte text)) (none_stops is_in_name (behind_run is_package_byte text) none)
