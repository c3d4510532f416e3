-- What a package excludes are numbers of listed packages.
use Rattle.std.proofs.Common.{◌≡◌, ℕ, zero, suc, ◌+◌, ◌-◌, ◌<◌, ◌≤◌, ltb, Bool, true, false, cond, List, [], ◌∷◌, length, Option, None, Some, codes, refl, sym, ap, ◌∙◌, arith}
use Rattle.std.specs.List.{filter, flat_map, list_all, slice_get}
use Rattle.std.specs.Option.{option_map_or}
use Rattle.std.proofs.lemmas.Bool.{and_from, and_parts, lt-ltb}
use Rattle.std.proofs.lemmas.List.Folds.{list_all-append}
use Rattle.deb_relation.specs.Applying.{Environment}
use Rattle.deb_relation.specs.Meaning.{Alternative}
use Rattle.deb_field.specs.Values.{ValueMeaning}
use Rattle.deb_control.specs.Documents.{Meaning}
use Rattle.deb_control.specs.FieldWords.{groups_of, value_under, word_under}
use Rattle.deb_control.specs.ValueFiles.{ValueEntries}
use Rattle.deb_index.specs.Listed.{Listed}
use Rattle.deb_index.specs.Named.{among, numbers_from, numbers_of, package_at}
use Rattle.deb_unmet.specs.Fields.{environment_for}
use Rattle.deb_unmet.specs.Readings.{applies_by}
use Rattle.deb_unmet.specs.declared.asked.Asked.TheVariants.{Packages}
use Rattle.deb_health.specs.Excluding.{excludes as excludes_by}
use Rattle.deb_health.specs.Lines.{negative_fields}
use Rattle.deb_health.specs.Together.{rules_out}
use Rattle.deb_health.proofs.Growing.{all-true}
use Rattle.deb_install.specs.Buildable.{build_excludes, conflict_fields}
use Rattle.deb_install.specs.Rows.{AreRowsOf, excluded_by, excluded_by_fields, excluded_numbers, exclusion_row, later_duplicates}
use Rattle.deb_install.specs.Passing.{counts}
use Rattle.deb_install.specs.Terms.{Terms}
use Rattle.deb_install.specs.declared.readings.Readings.{Readings}
use Rattle.deb_install.proofs.StoredRows.{all-pass, names_one, within-names}
use Rattle.deb_install.proofs.Tests.{all-flat}

names-cond : (test : ℕ → Bool) (v : Bool) (n : ℕ) (numbers : List ℕ) → test n ≡ true → list_all test numbers ≡ true → list_all test (cond v (n ∷ numbers) numbers) ≡ true
names-cond test true n numbers first rest = and_from (test n) (list_all test numbers) first rest
names-cond test false n numbers first rest = rest

numbers-named : (count n : ℕ) (test : Listed → Bool) (packages : List Listed) → 1 ≤ n → n + length packages ≤ count + 1 → list_all (names_one count) (numbers_from n test packages) ≡ true
numbers-named count n test [] some most = refl
numbers-named count n test (p ∷ packages) some most =
    let above : 0 < n = omega (arith, some) in
    let below : n < count + 1 = omega (arith, most) in
    let next : 1 ≤ n + 1 = omega arith in
    let rest : n + 1 + length packages ≤ count + 1 = omega (arith, most) in
    names-cond (names_one count) (test p) n (numbers_from (n + 1) test packages) (and_from (ltb 0 n) (ltb n (count + 1)) (lt-ltb 0 n above) (lt-ltb n (count + 1) below))
    (numbers-named count (n + 1) test packages next rest)

all-kept : (test keep : ℕ → Bool) (numbers : List ℕ) → list_all test numbers ≡ true → list_all test (filter keep numbers) ≡ true
all-kept test keep [] all = refl
all-kept test keep (n ∷ numbers) all =
    let parts = and_parts (test n) (list_all test numbers) all in
    names-cond test (keep n) n (filter keep numbers) parts.0 (all-kept test keep numbers parts.1)

pub numbers-listed : (test : Listed → Bool) (packages : List Listed) → list_all (names_one (length packages)) (numbers_of test packages) ≡ true
numbers-listed test packages =
    let first : 1 ≤ 1 = omega arith in
    let most : 1 + length packages ≤ length packages + 1 = omega arith in
    numbers-named (length packages) 1 test packages first most

module _ (readings : Readings) (t : Terms) (environment : Environment) (packages : List Listed) where
  abbrev named : List ℕ → Bool
  named numbers = list_all (names_one (length packages)) numbers

  all-named : (test : Listed → Bool) → named (numbers_of test packages) ≡ true
  all-named test = numbers-listed test packages

  cond-named : (v : Bool) (test : Listed → Bool) → named (cond v (numbers_of test packages) []) ≡ true
  cond-named true test = all-named test
  cond-named false test = refl

  flat-named : {X : Type 0} (f : X → List ℕ) → ((x : X) → named (f x) ≡ true) → (xs : List X) → named (flat_map f xs) ≡ true
  flat-named f each xs = all-flat (names_one (length packages)) f xs ∙ all-true (λ x. named (f x)) each xs

  pub fields-named : (own : Environment) (target name : List ℕ) (values : ValueEntries ValueMeaning) (fields : List (List ℕ)) → named (excluded_by_fields readings own target name packages values fields) ≡ true
  fields-named own target name values fields =
      let row : Alternative → List ℕ = excluded_by readings own target name packages in
      flat-named (λ field. flat_map (flat_map row) (groups_of (value_under field values)))
      (λ field. flat-named (flat_map row)
      (λ group. flat-named row (λ a. cond-named (counts readings (applies_by own a)) (excludes_by target name a)) group)
      (groups_of (value_under field values))) fields

  excluded-named : (values : ValueEntries ValueMeaning) → named (excluded_numbers readings t.strength environment packages values) ≡ true
  excluded-named values = fields-named (environment_for (Packages t.strength) environment values) environment.native (word_under (codes "Package") values) values negative_fields

  pub barred-listed : (values : ValueEntries ValueMeaning) (other : ℕ) → among other (build_excludes readings environment packages values) ≡ true → (1 ≤ other) × (other ≤ length packages)
  barred-listed values other has =
      within-names (length packages) other
      (all-pass (names_one (length packages)) (build_excludes readings environment packages values) other has (fields-named environment environment.native [] values conflict_fields))

  duplicates-named : (number : ℕ) → named (later_duplicates environment.native packages number) ≡ true
  duplicates-named number = go (package_at number packages)
    where
      go : (o : Option Listed) → named (option_map_or (λ p. filter (λ other. ltb number other) (numbers_of (rules_out environment.native p) packages)) o []) ≡ true
      go None = refl
      go (Some p) = all-kept (names_one (length packages)) (λ other. ltb number other) (numbers_of (rules_out environment.native p) packages) (all-named (rules_out environment.native p))

  pub exclusions-named : (number : ℕ) (values : ValueEntries ValueMeaning) → named (exclusion_row readings t.strength environment packages number values) ≡ true
  exclusions-named number values =
      list_all-append (names_one (length packages)) (excluded_numbers readings t.strength environment packages values) (later_duplicates environment.native packages number)
      ∙ and_from (named (excluded_numbers readings t.strength environment packages values)) (named (later_duplicates environment.native packages number)) (excluded-named values) (duplicates-named number)

  module _ (meaning : Meaning) (needs : ℕ → List (List ℕ)) (excludes : ℕ → List ℕ) (rows : AreRowsOf readings t environment packages meaning needs excludes) where
    found : {X : Type 0} (xs : List X) (k : ℕ) → k < length xs → (x : X) × (slice_get xs k ≡ Some x)
    found [] k less = absurd (omega (arith, less))
    found (x ∷ xs) zero less = (x, refl)
    found (x ∷ xs) (suc k) less = found xs k (omega (arith, less))

    pub exclusions-listed : length meaning ≡ length packages → (number other : ℕ) → 1 ≤ number → number ≤ length packages → among other (excludes number) ≡ true → (1 ≤ other) × (other ≤ length packages)
    exclusions-listed long number other some most has =
        let k = number - 1 in
        let back : k + 1 ≡ number = omega (arith, some) in
        let place : k < length meaning = omega (arith, some, most, long) in
        let at = found meaning k place in
        let row = sym (ap excludes back) ∙ rows.excluded k at.0 at.1 in
        within-names (length packages) other
        (all-pass (names_one (length packages)) (exclusion_row readings t.strength environment packages (k + 1) at.0) other (sym (ap (among other) row) ∙ has) (exclusions-named (k + 1) at.0))
