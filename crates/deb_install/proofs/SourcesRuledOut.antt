-- A source package that true reasons rule out can't be built.
use Rattle.std.proofs.Common.{◌≡◌, ℕ, ◌+◌, ◌==◌, ◌≤◌, Bool, true, false, not, ◌&&◌, ◌||◌, List, [], length, Some, slice_get, eqb-true, refl, sym, ap, ◌∙◌, subst, arith}
use Rattle.std.specs.List.{Contains, list_all, list_any}
use Rattle.std.proofs.lemmas.Bool.{false≢true, not-true}
use Rattle.deb_relation.specs.Meaning.{Group}
use Rattle.deb_field.specs.Values.{ValueMeaning}
use Rattle.deb_control.specs.Documents.{Meaning}
use Rattle.deb_control.specs.ValueFiles.{ValueEntries}
use Rattle.deb_install.specs.Laws.{SourceReasonsRuleOut}
use Rattle.deb_install.specs.Reasons.{HasValues}
use Rattle.deb_install.specs.Rows.{group_rows}
use Rattle.deb_install.specs.SourceReasons.{BuildExcludesOther, BuildNeedsGroup, IsTrueOfSource, SourceReason, BuildNeeds, BuildExcludes, OfPackage, build_groups, respects_built}
use Rattle.deb_install.specs.SourceRows.{barred_in, built_in}
use Rattle.deb_install.specs.Universes.{Setting}
use Rattle.deb_install.specs.Members.{IsHealthyByRows}
use Rattle.deb_install.proofs.BuildRows.{can-build, may-build}
use Rattle.deb_install.proofs.BuiltGroups.{rows-by-all}
use Rattle.deb_install.proofs.Contained.{all-if-each, contains-flat, contains-head, none-contained}
use Rattle.deb_install.proofs.InstallableRows.{only, only-can, only-healthy, only-listed, only-may, rows_decide}
use Rattle.deb_install.proofs.RuledOut.{are-rows, excludes, needs, respected as respected_of_package}
use Rattle.deb_install.proofs.Smaller.{all-contained}

module _ (s : Setting) (sources : Meaning) (k : ℕ) (values : ValueEntries ValueMeaning) (at : slice_get sources k ≡ Some values) (set : ℕ → Bool)
    (listed : (other : ℕ) → set other ≡ true → (1 ≤ other) × (other ≤ length s.packages)) (healthy : IsHealthyByRows (length s.packages) (needs s) (excludes s) set)
    (abundance : list_all (list_any set) (built_in s values) ≡ true) (peace : list_any set (barred_in s values) ≡ false) where
  the-values : (number : ℕ) (own : ValueEntries ValueMeaning) → number ≡ k + 1 → HasValues sources number own → own ≡ values
  the-values number own is has =
      let counted = has.is in
      let same : has.before ≡ k = omega (arith, is, counted) in
      let both : Some own ≡ Some values = sym has.at ∙ ap (slice_get sources) same ∙ at in
      cc

  row-met : (number : ℕ) (group : Group) (candidates : List ℕ) → BuildNeedsGroup s sources number group candidates → (v : Bool) → (number == k + 1) ≡ v → (not v || list_any set candidates) ≡ true
  row-met number group candidates reason false is = refl
  row-met number group candidates reason true is =
      let rows : Group → List (List ℕ) = group_rows s.readings s.environment s.packages in
      let own = the-values number reason.values (eqb-true number (k + 1) is) reason.has in
      let contained = contains-flat rows (build_groups reason.values) group candidates reason.needed (subst (λ l. Contains l candidates) (sym reason.rows) (contains-head candidates [])) in
      let has : Contains (built_in s values) candidates =
      subst (λ v. Contains (built_in s v) candidates) own
      (subst (λ l. Contains l candidates) (sym (rows-by-all s.readings s.environment s.packages reason.values)) contained) in
      all-contained (list_any set) (built_in s values) candidates abundance has

  excluded-not : (number other : ℕ) → BuildExcludesOther s sources number other → (v : Bool) → (number == k + 1) ≡ v → not (v && set other) ≡ true
  excluded-not number other reason false is = refl
  excluded-not number other reason true is =
      let own = the-values number reason.values (eqb-true number (k + 1) is) reason.has in
      none-contained set (barred_in s values) other peace (subst (λ v. Contains (barred_in s v) other) own reason.excluded)

  respected : (reason : SourceReason) → IsTrueOfSource s sources reason → respects_built (k + 1) set reason ≡ true
  respected (BuildNeeds number group candidates) is = row-met number group candidates is (number == k + 1) refl
  respected (BuildExcludes number other) is = excluded-not number other is (number == k + 1) refl
  respected (OfPackage reason) is = respected_of_package s set listed healthy reason is

pub source_reasons_rule_out : SourceReasonsRuleOut
source_reasons_rule_out s sources reasons k values lists at are_true out given =
    let count = length s.packages in
    let set : ℕ → Bool = only count given.set in
    let decided = rows_decide s.readings s.terms s.environment s.packages s.values (needs s) (excludes s) lists (are-rows s) in
    let healthy = decided.healthy set (only-healthy s.readings s.terms s.environment s.packages s.values values lists given) in
    let abundance = sym (can-build s.readings s.environment set s.packages values) ∙ only-can s.readings s.terms s.environment s.packages s.values values lists given in
    let peace = not-true (list_any set (barred_in s values)) (sym (may-build s.readings s.environment set s.packages values) ∙ only-may s.readings s.terms s.environment s.packages s.values values lists given) in
    let listed = only-listed count given.set in
    let all = all-if-each (respects_built (k + 1) set) reasons (λ reason within. respected s sources k values at set listed healthy abundance peace reason (are_true reason within)) in
    false≢true (sym (out set listed) ∙ all)
