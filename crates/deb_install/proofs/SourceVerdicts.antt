-- Verdicts on a universe with source packages are true of these.
use Rattle.std.proofs.Common.{◌≡◌, ℕ, zero, suc, ◌+◌, ◌-◌, List, [], ◌∷◌, length, length-append, drop, map, Some, slice_get, sym, ap, ◌∙◌, arith}
use Rattle.std.proofs.lemmas.List.{length-map}
use Rattle.std.proofs.lemmas.Option.{slice_get_past}
use Rattle.deb_control.specs.Documents.{Meaning}
use Rattle.deb_control.specs.Pairs.{Pairwise}
use Rattle.deb_control.proofs.GivenValues.{pairwise-length}
use Rattle.deb_index.specs.Listing.{Lists}
use Rattle.deb_solve.specs.declared.universe.Universe.{Universe}
use Rattle.deb_solve.specs.declared.verdict.Verdict.{Verdict}
use Rattle.deb_install.specs.Building.{AreNumbersOf}
use Rattle.deb_install.specs.SourceAnswers.{AreLastVerdicts, AreSourceVerdicts}
use Rattle.deb_install.specs.SourceRows.{IsUniverseWith, built_in}
use Rattle.deb_install.specs.Universes.{Setting}
use Rattle.deb_install.proofs.SourceRows.{buildable-from, with-buildable}

slice-drop : {X : Type 0} (n : ℕ) (xs : List X) (k : ℕ) → slice_get (drop n xs) k ≡ slice_get xs (n + k)
slice-drop zero xs k = ap (slice_get xs) (omega arith)
slice-drop (suc n) [] k = slice_get_past [] k (omega arith) ∙ sym (slice_get_past [] (suc n + k) (omega arith))
slice-drop (suc n) (x ∷ xs) k =
    let more : suc (n + k) ≡ suc n + k = omega arith in
    slice-drop n xs k ∙ ap (slice_get (x ∷ xs)) more

module _ (s : Setting) (sources : Meaning) (u : Universe) (last : List Verdict) (count : ℕ) (is : IsUniverseWith s sources u) (lists : Pairwise Lists s.values s.packages) (they : AreLastVerdicts u count last) where
  abbrev verdicts : List Verdict
  verdicts = they.verdicts

  -- so many verdicts come before those of source packages
  first-is : length verdicts - length sources ≡ length s.packages + 1
  first-is =
      let rows_long : length (map (built_in s) sources) ≡ length is.rows = pairwise-length (AreNumbersOf u.groups) is.rows (map (built_in s) sources) is.are in
      let mapped : length (map (built_in s) sources) ≡ length sources = length-map sources (built_in s) in
      let same : length s.packages ≡ length s.values = pairwise-length Lists s.values s.packages lists in
      omega (arith, they.are.each, ap length is.needed, length-append is.first_needs is.rows, rows_long, mapped, is.packages.needs_each, same)

  place-of : (k : ℕ) (v : Verdict) → slice_get (drop (length verdicts - length sources) verdicts) k ≡ Some v → slice_get verdicts (length s.packages + 1 + k) ≡ Some v
  place-of k v at = sym (slice-drop (length s.packages + 1) verdicts k) ∙ ap (λ n. slice_get (drop n verdicts) k) (sym first-is) ∙ at

  pub verdicts-of-sources : count ≡ length sources → AreSourceVerdicts s.readings s.terms s.environment s.packages s.values sources last
  verdicts-of-sources counted =
      let same : last ≡ drop (length verdicts - length sources) verdicts = they.is ∙ ap (λ n. drop (length verdicts - n) verdicts) counted in
      record {
        yes = λ k values at verdict. buildable-from s sources u is lists k values at (they.are.are_true.yes (length s.packages + 1 + k) (place-of k _ (ap (λ l. slice_get l k) (sym same) ∙ verdict)));
        no = λ k values at verdict built. they.are.are_true.no (length s.packages + 1 + k) (place-of k _ (ap (λ l. slice_get l k) (sym same) ∙ verdict)) (with-buildable s sources u is lists k values at built);
      }
