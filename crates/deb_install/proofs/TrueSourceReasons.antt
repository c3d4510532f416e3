-- The facts of a universe with source packages are true reasons, and what they rule out the reasons
-- rule out.
use Rattle.std.proofs.Common.{◌≡◌, inl, inr, ℕ, zero, suc, ◌+◌, ◌-◌, ◌==◌, ◌<◌, ◌≤◌, eqb, Bool, true, false, not, ◌&&◌, ◌||◌, cond, List, [], ◌∷◌, length, length-append, map, get_or, Some, slice_get, refl, sym, ap, ◌∙◌, subst, arith}
use Rattle.std.specs.List.{Contains, list_all, list_any, slice_index}
use Rattle.std.specs.Option.{option_map}
use Rattle.std.specs.Prelude.{nat_lt}
use Rattle.std.proofs.lemmas.Bool.{and_from, and_parts, eqb-true, false≢true, false_from_ne_true, ltb-true, or_cases, or_right}
use Rattle.std.proofs.lemmas.List.{length-map}
use Rattle.std.proofs.lemmas.List.Elements.{Contains-get_or}
use Rattle.std.proofs.lemmas.Option.{slice_get-get_or, slice_get-map}
use Rattle.deb_relation.specs.Applying.{Environment}
use Rattle.deb_field.specs.Values.{ValueMeaning}
use Rattle.deb_control.specs.Documents.{Meaning}
use Rattle.deb_control.specs.Pairs.{Pairwise}
use Rattle.deb_control.specs.ValueFiles.{ValueEntries}
use Rattle.deb_control.proofs.GivenValues.{pairwise-length}
use Rattle.deb_index.specs.Listed.{Listed}
use Rattle.deb_index.specs.Listing.{Lists}
use Rattle.deb_solve.specs.Health.{row}
use Rattle.deb_solve.specs.Reasons.{AreReasons, excluded, is_fact, needed, respects as respects_fact}
use Rattle.deb_solve.specs.declared.facts.Fact.{Fact}
use Rattle.deb_solve.specs.declared.facts.Fact.TheVariants as facts
use Rattle.deb_solve.specs.declared.universe.Universe.{Universe}
use Rattle.deb_install.specs.Building.{AreNumbersOf}
use Rattle.deb_install.specs.Explaining.{Explain, need_of, reason_of, row_at}
use Rattle.deb_install.specs.Reasons.{Excludes}
use Rattle.deb_install.specs.SourceExplaining.{built_group, source_reason_of}
use Rattle.deb_install.specs.SourceReasons.{AreReasonsOfSource, IsTrueOfSource, RuleOutSource, SourceReason, BuildNeeds, BuildExcludes, OfPackage, respects_built}
use Rattle.deb_install.specs.SourceRows.{IsUniverseWith, barred_in, built_in}
use Rattle.deb_install.specs.Terms.{Terms}
use Rattle.deb_install.specs.Universes.{Setting, excluded_in, setting}
use Rattle.deb_install.specs.declared.readings.Readings.TheVariants.{One}
use Rattle.deb_install.proofs.BuiltGroups.{group-of-row}
use Rattle.deb_install.proofs.Contained.{contains-cases, contains-none}
use Rattle.deb_install.proofs.ListedNumbers.{exclusions-named, fields-named}
use Rattle.deb_install.proofs.Smaller.{all-contained}
use Rattle.deb_install.proofs.SourceRows.{any-with, behind, excludes_long, front, itself, needs_long, row-at as source-row-at, source-excludes, with_one, within}
use Rattle.deb_install.proofs.StoredRows.{names_one, within-names}
use Rattle.deb_install.proofs.TrueReasons.{exclusion-true, need-true, row-at}
use Rattle.deb_install.specs.Buildable.{conflict_fields}

or-out : (v w : Bool) → w ≡ false → (v || w) ≡ v
or-out true w is = refl
or-out false w is = is

or-into : (v w : Bool) → v ≡ false → (v || w) ≡ w
or-into v w is = ap (λ x. x || w) is

-- one that is greater is another number
apart : (p m : ℕ) → p < m → eqb p m ≡ false
apart p m less = false_from_ne_true (eqb p m) (λ same. let is = eqb-true p m same in omega (arith, less, is))

outside : (set : ℕ → Bool) (m p : ℕ) → p < m → with_one set m p ≡ set p
outside set m p less = or-out (set p) (eqb p m) (apart p m less)

or-grows : (v v2 w w2 : Bool) → v2 ≡ v → (w ≡ true → w2 ≡ true) → (not v || w) ≡ true → (not v2 || w2) ≡ true
or-grows true v2 w w2 same grows is = ap (λ x. not x || w2) same ∙ grows is
or-grows false v2 w w2 same grows is = ap (λ x. not x || w2) same

-- a number after so many, and how many it is after them
after : (count member h : ℕ) → count < member → (v : Bool) → (member - count == h) ≡ v → eqb member (count + h) ≡ v
after count member h less true is =
    let same = eqb-true (member - count) h is in
    let there : member ≡ count + h = omega (arith, less, same) in
    subst (λ n. eqb member n ≡ true) there (itself member)
after count member h less false is =
    false_from_ne_true (eqb member (count + h)) (λ v.
    let there = eqb-true member (count + h) v in
    let same : member - count ≡ h = omega (arith, there) in
    false≢true (sym is ∙ ap (λ n. member - count == n) (sym same) ∙ itself (member - count)))

module _ (t : Terms) (environment : Environment) (packages : List Listed) (meaning sources : Meaning) (u : Universe) (is : IsUniverseWith (setting One t environment packages meaning) sources u) (lists : Pairwise Lists meaning packages) where
  abbrev s : Setting
  s = setting One t environment packages meaning

  abbrev count : ℕ
  count = length packages

  -- the universe of the packages alone
  abbrev first : Universe
  first = record { needs = is.first_needs; groups = u.groups; excludes = is.first_excludes }

  long : length is.first_needs ≡ count + 1
  long = needs_long s sources u is lists

  abbrev Listing : (ℕ → Bool) → Type 0
  Listing set = (other : ℕ) → set other ≡ true → (1 ≤ other) × (other ≤ count)

  -- The reason that a fact says is true, and a set that respects it respects the fact once the
  -- source package that is built is in it too.
  record TrueSourceFact (fact : Fact) : Type 0 where
    is_true : IsTrueOfSource s sources (source_reason_of s sources u fact)
    keeps : (set : ℕ → Bool) (h : ℕ) → 1 ≤ h → Listing set → respects_built h set (source_reason_of s sources u fact) ≡ true → respects_fact u (with_one set (count + h)) fact ≡ true

  of-package : (member : ℕ) → member ≤ count → (member - count == 0) ≡ true
  of-package member most =
      let none : member - count ≡ 0 = omega (arith, most) in
      ap (λ n. n == 0) none

  of-source : (member : ℕ) → count < member → (member - count == 0) ≡ false
  of-source member more =
      false_from_ne_true (member - count == 0) (λ none. let is_none = eqb-true (member - count) 0 none in omega (arith, more, is_none))

  package-need : (member at : ℕ) → member ≤ count → at < length (row u.needs member) → TrueSourceFact (facts.Needs member at)
  package-need member at most less =
      let same : row u.needs member ≡ row is.first_needs member = front u.needs is.first_needs is.rows member [] is.needed (omega (arith, most, long)) in
      let it = need-true t environment packages meaning first is.packages member at (omega (arith, most, long)) (subst (λ l. at < length l) same less) in
      let reason : source_reason_of s sources u (facts.Needs member at) ≡ OfPackage (reason_of s first (facts.Needs member at)) =
      ap (λ v. cond v (OfPackage (reason_of s u (facts.Needs member at))) (BuildNeeds (member - count) (built_group s sources (member - count) at) (row u.groups (needed u member at)))) (of-package member most)
      ∙ ap (λ l. OfPackage (need_of member (row_at s member at) (row u.groups (slice_index l at)))) same in
      record {
        is_true = subst (IsTrueOfSource s sources) (sym reason) it.is_true;
        keeps = λ set h some listed respected.
            let kept : respects_fact first set (facts.Needs member at) ≡ true = sym (it.same set) ∙ sym (ap (respects_built h set) reason) ∙ respected in
            or-grows (set member) (with_one set (count + h) member) (list_any set (row u.groups (needed first member at))) (list_any (with_one set (count + h)) (row u.groups (needed u member at)))
            (outside set (count + h) member (omega (arith, most, some)))
            (λ met. ap (λ l. list_any (with_one set (count + h)) (row u.groups (slice_index l at))) same ∙ any-with set (count + h) (row u.groups (needed first member at)) met) kept;
      }

  named : (other : ℕ) (numbers : List ℕ) → list_all (names_one count) numbers ≡ true → Contains numbers other → other ≤ count
  named other numbers all has = (within-names count other (all-contained (names_one count) numbers other all has)).1

  -- a set with the source package contains the same of two packages
  same-both : (set : ℕ → Bool) (h by other : ℕ) → 1 ≤ h → other ≤ count → (v : Bool) → with_one set (count + h) by ≡ v → not (v && set other) ≡ true → not (with_one set (count + h) by && with_one set (count + h) other) ≡ true
  same-both set h by other some most v first_is holds =
      ap (λ x. not (x && with_one set (count + h) other)) first_is
      ∙ ap (λ x. not (v && x)) (outside set (count + h) other (omega (arith, most, some))) ∙ holds

  package-exclusion : (by at : ℕ) → by ≤ count → at < length (row u.excludes by) → TrueSourceFact (facts.Excludes by at)
  package-exclusion by at most less =
      let wide = excludes_long s sources u is lists in
      let same : row u.excludes by ≡ row is.first_excludes by = front u.excludes is.first_excludes (map (barred_in s) sources) by [] is.excluded (omega (arith, most, wide)) in
      let it = exclusion-true t environment packages meaning first is.packages by at (omega (arith, most, long)) (subst (λ l. at < length l) same less) in
      let other = excluded first by at in
      let listed_other : other ≤ count = named other (excluded_in s by it.is_true.values) (exclusions-named One t environment packages by it.is_true.values) it.is_true.excluded in
      let also : excluded u by at ≡ other = ap (λ l. slice_index l at) same in
      let reason : source_reason_of s sources u (facts.Excludes by at) ≡ OfPackage (reason_of s first (facts.Excludes by at)) =
      ap (λ v. cond v (OfPackage (Excludes by (excluded u by at))) (BuildExcludes (by - count) (excluded u by at))) (of-package by most)
      ∙ ap (λ n. OfPackage (Excludes by n)) also in
      record {
        is_true = subst (IsTrueOfSource s sources) (sym reason) it.is_true;
        keeps = λ set h some listed respected.
            let kept : not (set by && set other) ≡ true = sym (ap (respects_built h set) reason) ∙ respected in
            ap (λ n. not (with_one set (count + h) by && with_one set (count + h) n)) also
            ∙ same-both set h by other some listed_other (set by) (outside set (count + h) by (omega (arith, most, some))) kept;
      }

  -- whether a set has a source package
  built-one : (set : ℕ → Bool) (h member : ℕ) → Listing set → count < member → with_one set (count + h) member ≡ (member - count == h)
  built-one set h member listed more =
      or-into (set member) (eqb member (count + h)) (false_from_ne_true (set member) (λ has. let most = (listed member has).1 in omega (arith, more, most)))
      ∙ after count member h more (member - count == h) refl

  module _ (member : ℕ) (more : count < member) (less : member < length u.needs) where
    abbrev k : ℕ
    k = member - count - 1

    place : member ≡ count + 1 + k
    place = omega (arith, more)

    below : k < length sources
    below =
        let rows_long : length (map (built_in s) sources) ≡ length is.rows = pairwise-length (AreNumbersOf u.groups) is.rows (map (built_in s) sources) is.are in
        let mapped : length (map (built_in s) sources) ≡ length sources = length-map sources (built_in s) in
        omega (arith, less, place, long, ap length is.needed, length-append is.first_needs is.rows, rows_long, mapped)

    abbrev values : ValueEntries ValueMeaning
    values = get_or sources k []

    there : slice_get sources k ≡ Some values
    there = slice_get-get_or sources k [] below

    counted : member - count ≡ k + 1
    counted = omega (arith, more)

    source-need : (at : ℕ) → at < length (row u.needs member) → TrueSourceFact (facts.Needs member at)
    source-need at short =
        let numbers = get_or is.rows k [] in
        let same : row u.needs member ≡ numbers = behind u.needs is.first_needs is.rows member k [] is.needed (place ∙ ap (λ n. n + k) (sym long)) in
        let are = source-row-at u.groups is.rows (map (built_in s) sources) k (built_in s values) is.are (slice_get-map (built_in s) sources k ∙ ap (option_map (built_in s)) there) in
        let candidates = row u.groups (slice_index numbers at) in
        let it = group-of-row environment packages values at candidates (row-at u.groups numbers (built_in s values) at are (subst (λ l. at < length l) same short)) in
        let group = built_group s sources (member - count) at in
        let reason : source_reason_of s sources u (facts.Needs member at) ≡ BuildNeeds (member - count) group candidates =
        ap (λ v. cond v (OfPackage (reason_of s u (facts.Needs member at))) (BuildNeeds (member - count) group (row u.groups (needed u member at)))) (of-source member more)
        ∙ ap (λ l. BuildNeeds (member - count) group (row u.groups (slice_index l at))) same in
        record {
          is_true = subst (IsTrueOfSource s sources) (sym reason)
              (record {
                values = values;
                has = record { before = k; is = counted; at = there };
                needed = it.needed;
                rows = it.rows;
              });
          keeps = λ set h some listed respected.
              let kept : (not (member - count == h) || list_any set candidates) ≡ true = sym (ap (respects_built h set) reason) ∙ respected in
              or-grows (member - count == h) (with_one set (count + h) member) (list_any set candidates) (list_any (with_one set (count + h)) (row u.groups (needed u member at)))
              (built-one set h member listed more)
              (λ met. ap (λ l. list_any (with_one set (count + h)) (row u.groups (slice_index l at))) same ∙ any-with set (count + h) candidates met) kept;
        }

    source-exclusion : (at : ℕ) → at < length (row u.excludes member) → TrueSourceFact (facts.Excludes member at)
    source-exclusion at short =
        let same : row u.excludes member ≡ barred_in s values = ap (row u.excludes) place ∙ source-excludes s sources u is lists k values there in
        let other = excluded u member at in
        let contained : Contains (barred_in s values) other = subst (λ l. Contains l other) same (Contains-get_or (row u.excludes member) at 0 short) in
        let listed_other : other ≤ count = named other (barred_in s values) (fields-named One t environment packages environment environment.native [] values conflict_fields) contained in
        let reason : source_reason_of s sources u (facts.Excludes member at) ≡ BuildExcludes (member - count) other =
        ap (λ v. cond v (OfPackage (Excludes member other)) (BuildExcludes (member - count) other)) (of-source member more) in
        record {
          is_true = subst (IsTrueOfSource s sources) (sym reason)
              (record {
                values = values;
                has = record { before = k; is = counted; at = there };
                excluded = contained;
              });
          keeps = λ set h some listed respected.
              let kept : not ((member - count == h) && set other) ≡ true = sym (ap (respects_built h set) reason) ∙ respected in
              same-both set h member other some listed_other (member - count == h) (built-one set h member listed more) kept;
        }

  either-need : (member at n : ℕ) → member - count ≡ n → member < length u.needs → at < length (row u.needs member) → TrueSourceFact (facts.Needs member at)
  either-need member at zero after_them less short = package-need member at (omega (arith, after_them)) short
  either-need member at (suc n) after_them less short = source-need member (omega (arith, after_them)) less at short

  either-exclusion : (by at n : ℕ) → by - count ≡ n → by < length u.needs → at < length (row u.excludes by) → TrueSourceFact (facts.Excludes by at)
  either-exclusion by at zero after_them less short = package-exclusion by at (omega (arith, after_them)) short
  either-exclusion by at (suc n) after_them less short = source-exclusion by (omega (arith, after_them)) less at short

  fact-true : (fact : Fact) → is_fact u fact ≡ true → TrueSourceFact fact
  fact-true (facts.Needs member at) holds =
      let both = and_parts (nat_lt member (length u.needs)) (nat_lt at (length (row u.needs member))) holds in
      either-need member at (member - count) refl (ltb-true member (length u.needs) both.0) (ltb-true at (length (row u.needs member)) both.1)
  fact-true (facts.Excludes by at) holds =
      let both = and_parts (nat_lt by (length u.needs)) (nat_lt at (length (row u.excludes by))) holds in
      either-exclusion by at (by - count) refl (ltb-true by (length u.needs) both.0) (ltb-true at (length (row u.excludes by)) both.1)

  each-true : (found : List Fact) → list_all (is_fact u) found ≡ true → (reason : SourceReason) → Contains (map (source_reason_of s sources u) found) reason → IsTrueOfSource s sources reason
  each-true [] all reason has = absurd (contains-none reason has)
  each-true (fact ∷ found) all reason has =
      let both = and_parts (is_fact u fact) (list_all (is_fact u) found) all in
      elim (contains-cases (source_reason_of s sources u fact) reason (map (source_reason_of s sources u) found) has) [
        | inl here ↦ let it = fact-true fact both.0 in subst (IsTrueOfSource s sources) here it.is_true
        | inr later ↦ each-true found both.1 reason later
      ]

  all-kept : (set : ℕ → Bool) (h : ℕ) → 1 ≤ h → Listing set → (found : List Fact) → list_all (is_fact u) found ≡ true → list_all (respects_built h set) (map (source_reason_of s sources u) found) ≡ true → list_all (respects_fact u (with_one set (count + h))) found ≡ true
  all-kept set h some listed [] all respected = refl
  all-kept set h some listed (fact ∷ found) all respected =
      let both = and_parts (is_fact u fact) (list_all (is_fact u) found) all in
      let parts = and_parts (respects_built h set (source_reason_of s sources u fact)) (list_all (respects_built h set) (map (source_reason_of s sources u) found)) respected in
      let it = fact-true fact both.0 in
      and_from (respects_fact u (with_one set (count + h)) fact) (list_all (respects_fact u (with_one set (count + h))) found) (it.keeps set h some listed parts.0) (all-kept set h some listed found both.1 parts.1)

  out : (n : ℕ) (values : ValueEntries ValueMeaning) (found : List Fact) → slice_get sources n ≡ Some values → AreReasons u (count + (n + 1)) found → RuleOutSource count (map (source_reason_of s sources u) found) (n + 1)
  out n values found at reasons = λ set listed.
      let m = count + (n + 1) in
      let with_it = with_one set m in
      let some : 1 ≤ n + 1 = omega arith in
      let last : count + 1 + n < length u.needs = within s sources u is lists n values at in
      let rows : length u.needs ≡ length is.first_needs + length is.rows = ap length is.needed ∙ length-append is.first_needs is.rows in
      false_from_ne_true (list_all (respects_built (n + 1) set) (map (source_reason_of s sources u) found)) (λ respected.
      let none = reasons.suffice with_it
      (record {
        is_listed = λ p contains. elim (or_cases (set p) (eqb p m) contains) [
          | inl member ↦ let most = (listed p member).1 in omega (arith, most, long, rows)
          | inr same ↦ let here = eqb-true p m same in omega (arith, here, last)
        ];
        each = all-kept set (n + 1) some listed found reasons.are_facts respected;
      }) in
      false≢true (sym none ∙ or_right (set m) (eqb m m) (itself m)))

  some-true : (number : ℕ) (found : List Fact) → Explain u number found → (reason : SourceReason) → Contains (map (source_reason_of s sources u) found) reason → IsTrueOfSource s sources reason
  some-true number [] explain reason has = absurd (contains-none reason has)
  some-true number (fact ∷ found) explain reason has = let reasons = explain (λ none. cc) in each-true (fact ∷ found) reasons.are_facts reason has

  pub true-source-reasons : (n : ℕ) (values : ValueEntries ValueMeaning) (found : List Fact) → slice_get sources n ≡ Some values → Explain u (count + (n + 1)) found → AreReasonsOfSource s sources (n + 1) (map (source_reason_of s sources u) found)
  true-source-reasons n values found at explain = record {
    are_true = some-true (count + (n + 1)) found explain;
    rule_out = λ some. out n values found at (explain (λ none. some (ap (map (source_reason_of s sources u)) none)));
  }
