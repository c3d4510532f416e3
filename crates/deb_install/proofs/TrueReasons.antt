-- The facts of a universe are true reasons, and what they rule out the reasons rule out.
use Rattle.std.proofs.Common.{◌≡◌, inl, inr, ℕ, zero, suc, ◌+◌, ◌-◌, ◌<◌, Bool, not, ◌&&◌, ◌||◌, true, List, [], ◌∷◌, length, map, get_or, Some, slice_get, refl, sym, ap, ◌∙◌, subst, arith}
use Rattle.std.specs.List.{Contains, list_all, list_any, slice_index, slice_index_or}
use Rattle.std.specs.Option.{option_map_or}
use Rattle.std.specs.Prelude.{nat_lt}
use Rattle.std.proofs.lemmas.Bool.{and_parts, ltb-true}
use Rattle.std.proofs.lemmas.List.Elements.{Contains-get_or}
use Rattle.std.proofs.lemmas.Option.{get_or_from_slice_get, slice_get-get_or}
use Rattle.deb_relation.specs.Applying.{Environment}
use Rattle.deb_control.specs.Documents.{Meaning}
use Rattle.deb_control.specs.Pairs.{Pairwise}
use Rattle.deb_control.proofs.GivenValues.{pairwise-length}
use Rattle.deb_index.specs.Listed.{Listed}
use Rattle.deb_index.specs.Listing.{Lists}
use Rattle.deb_solve.specs.Health.{row}
use Rattle.deb_solve.specs.Reasons.{AreReasons, excluded, is_fact, respects as respects_fact}
use Rattle.deb_solve.specs.declared.facts.Fact.{Fact}
use Rattle.deb_solve.specs.declared.facts.Fact.TheVariants as facts
use Rattle.deb_solve.specs.declared.universe.Universe.{Universe}
use Rattle.deb_install.specs.Building.{AreNumbersOf}
use Rattle.deb_install.specs.Explaining.{EmptyRow, Explain, need_of, reason_of, row_at, rows_asked}
use Rattle.deb_install.specs.Reasons.{AreReasonsOf, IsTrueReason, Reason, RuleOut, respects}
use Rattle.deb_install.specs.Terms.{Terms}
use Rattle.deb_install.specs.Universes.{IsUniverseOf, Setting, excluded_in, needed_in, setting}
use Rattle.deb_install.specs.declared.readings.Readings.TheVariants.{One}
use Rattle.deb_install.proofs.Contained.{contains-cases, contains-none}
use Rattle.deb_install.proofs.RowsAsked.{true-need}

-- the row of one of some numbers
pub row-at : (all : List (List ℕ)) (numbers : List ℕ) (rows : List (List ℕ)) (at : ℕ) → AreNumbersOf all numbers rows → at < length numbers → slice_get rows at ≡ Some (slice_index_or all (slice_index numbers at) [])
row-at all [] rows at are within = absurd (omega (arith, within))
row-at all (n ∷ numbers) [] at are within = absurd are
row-at all (n ∷ numbers) (row ∷ rows) zero are within = ap Some (sym (get_or_from_slice_get all n row [] are.0))
row-at all (n ∷ numbers) (row ∷ rows) (suc at) are within = row-at all numbers rows at are.1 (omega (arith, within))

none-of : (row : List ℕ) (at : ℕ) → row ≡ [] → at < length row → ⊥
none-of row at none less = let empty : length row ≡ 0 = ap length none in omega (arith, less, empty)

module _ (t : Terms) (environment : Environment) (packages : List Listed) (meaning : Meaning) (u : Universe) (is : IsUniverseOf (setting One t environment packages meaning) u) where
  abbrev s : Setting
  s = setting One t environment packages meaning

  within : (k : ℕ) → suc k < length u.needs → k < length meaning
  within k less = let long = is.needs_each in omega (arith, less, long)

  -- The reason that a fact says is true, and a set respects it exactly if it respects the fact.
  pub record TrueFact (fact : Fact) : Type 0 where
    pub is_true : IsTrueReason s (reason_of s u fact)
    pub same : (set : ℕ → Bool) → respects set (reason_of s u fact) ≡ respects_fact u set fact

  pub need-true : (member at : ℕ) → member < length u.needs → at < length (row u.needs member) → TrueFact (facts.Needs member at)
  need-true zero at listed less = absurd (none-of (row u.needs 0) at is.none_needed less)
  need-true (suc k) at listed less =
      let number : suc k ≡ k + 1 = omega arith in
      let before : suc k - 1 ≡ k = omega arith in
      let values = get_or meaning k [] in
      let has = slice_get-get_or meaning k [] (within k listed) in
      let numbers = slice_index_or u.needs (k + 1) [] in
      let same : row u.needs (suc k) ≡ numbers = ap (row u.needs) number in
      let candidates = row u.groups (slice_index numbers at) in
      let found = row-at u.groups numbers (needed_in s values) at (is.needed k values has) (subst (λ l. at < length l) same less) in
      let need = true-need t environment packages meaning values (suc k) at candidates (record { before = k; is = number; at = has }) found in
      let rows = rows_asked s values in
      let asked : row_at s (suc k) at ≡ get_or rows at EmptyRow =
      ap (λ b. option_map_or (λ v. get_or (rows_asked s v) at EmptyRow) (slice_get meaning b) EmptyRow) before
      ∙ ap (λ o. option_map_or (λ v. get_or (rows_asked s v) at EmptyRow) o EmptyRow) has in
      let reason : reason_of s u (facts.Needs (suc k) at) ≡ need_of (suc k) (get_or rows at EmptyRow) candidates =
      λ i. need_of (suc k) (asked i) (row u.groups (slice_index (same i) at)) in
      record {
        is_true = subst (IsTrueReason s) (sym reason) need.is_true;
        same = λ set. ap (respects set) reason ∙ need.same set ∙ ap (λ l. not (set (suc k)) || list_any set (row u.groups (slice_index l at))) (sym same);
      }

  pub exclusion-true : (by at : ℕ) → by < length u.needs → at < length (row u.excludes by) → TrueFact (facts.Excludes by at)
  exclusion-true zero at listed less = absurd (none-of (row u.excludes 0) at is.none_excluded less)
  exclusion-true (suc k) at listed less =
      let number : suc k ≡ k + 1 = omega arith in
      let values = get_or meaning k [] in
      let has = slice_get-get_or meaning k [] (within k listed) in
      let same : row u.excludes (suc k) ≡ excluded_in s (suc k) values = ap (row u.excludes) number ∙ is.excluded k values has ∙ ap (λ n. excluded_in s n values) (sym number) in
      record {
        is_true = record {
          values = values;
          has = record { before = k; is = number; at = has };
          excluded = subst (λ l. Contains l (excluded u (suc k) at)) same (Contains-get_or (row u.excludes (suc k)) at 0 less);
        };
        same = λ set. refl;
      }

  fact-true : (fact : Fact) → is_fact u fact ≡ true → TrueFact fact
  fact-true (facts.Needs member at) holds =
      let both = and_parts (nat_lt member (length u.needs)) (nat_lt at (length (row u.needs member))) holds in
      need-true member at (ltb-true member (length u.needs) both.0) (ltb-true at (length (row u.needs member)) both.1)
  fact-true (facts.Excludes by at) holds =
      let both = and_parts (nat_lt by (length u.needs)) (nat_lt at (length (row u.excludes by))) holds in
      exclusion-true by at (ltb-true by (length u.needs) both.0) (ltb-true at (length (row u.excludes by)) both.1)

  each-true : (found : List Fact) → list_all (is_fact u) found ≡ true → (reason : Reason) → Contains (map (reason_of s u) found) reason → IsTrueReason s reason
  each-true [] all reason has = absurd (contains-none reason has)
  each-true (fact ∷ found) all reason has =
      let both = and_parts (is_fact u fact) (list_all (is_fact u) found) all in
      elim (contains-cases (reason_of s u fact) reason (map (reason_of s u) found) has) [
        | inl first ↦ let it = fact-true fact both.0 in subst (IsTrueReason s) first it.is_true
        | inr later ↦ each-true found both.1 reason later
      ]

  all-respected : (set : ℕ → Bool) (found : List Fact) → list_all (is_fact u) found ≡ true → list_all (respects set) (map (reason_of s u) found) ≡ list_all (respects_fact u set) found
  all-respected set [] all = refl
  all-respected set (fact ∷ found) all =
      let both = and_parts (is_fact u fact) (list_all (is_fact u) found) all in
      let it = fact-true fact both.0 in
      let first = it.same set in
      let rest = all-respected set found both.1 in
      λ i. first i && rest i

  out : (number : ℕ) (found : List Fact) → Pairwise Lists meaning packages → AreReasons u number found → RuleOut (length packages) (map (reason_of s u) found) number
  out number found lists reasons = λ set listed respected.
      let long = is.needs_each in
      let same : length packages ≡ length meaning = pairwise-length Lists meaning packages lists in
      reasons.suffice set
      (record {
        is_listed = λ p contains. let most = (listed p contains).1 in omega (arith, most, long, same);
        each = sym (all-respected set found reasons.are_facts) ∙ respected;
      })

  some-true : (number : ℕ) (found : List Fact) → Explain u number found → (reason : Reason) → Contains (map (reason_of s u) found) reason → IsTrueReason s reason
  some-true number [] explain reason has = absurd (contains-none reason has)
  some-true number (fact ∷ found) explain reason has = let reasons = explain (λ none. cc) in each-true (fact ∷ found) reasons.are_facts reason has

  pub true-reasons : Pairwise Lists meaning packages → (number : ℕ) (found : List Fact) → Explain u number found → AreReasonsOf s number (map (reason_of s u) found)
  true-reasons lists number found explain = record {
    are_true = some-true number found explain;
    rule_out = λ some. out number found lists (explain (λ none. some (ap (map (reason_of s u)) none)));
  }
