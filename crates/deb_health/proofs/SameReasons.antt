-- A rearranged set has the same reasons for its lines.
use Rattle.std.proofs.Common.{◌≡◌, ℕ, ◌+◌, Bool, true, false, cond, not, ◌&&◌, ◌||◌, List, [], ◌∷◌, ◌++◌, length, map, is_none, None, Some, IsPermutation, append_assoc, codes, refl, sym, ap, ◌∙◌, arith}
use Rattle.std.specs.List.{filter, flat_map, list_all, list_any}
use Rattle.std.proofs.Math.Bool.{and_comm}
use Rattle.std.proofs.lemmas.List.{length_push}
use Rattle.std.proofs.lemmas.List.Sorted.{IsPermutation-cons, IsPermutation-middle, IsPermutation-refl, IsPermutation-trans, list_any-IsPermutation}
use Rattle.deb_relation.specs.Applying.{Environment}
use Rattle.deb_relation.specs.Meaning.{Alternative, Group}
use Rattle.deb_relation.specs.Texts.{group_text}
use Rattle.deb_version.specs.Canonical.{version_text}
use Rattle.deb_field.specs.Values.{ValueMeaning}
use Rattle.deb_control.specs.Documents.{Meaning}
use Rattle.deb_control.specs.FieldWords.{groups_of, value_under, word_under}
use Rattle.deb_control.specs.ValueFiles.{ValueEntries}
use Rattle.deb_index.specs.Listed.{Listed}
use Rattle.deb_index.specs.Meeting.{effective, meets, multi_arch_or_no}
use Rattle.deb_index.specs.Named.{numbers_from, package_at}
use Rattle.deb_index.proofs.Lookups.{same_bytes}
use Rattle.deb_index.proofs.Numbered.{at-front}
use Rattle.deb_unmet.specs.Asked.{fields_asked, fields_with}
use Rattle.deb_unmet.specs.Fields.{environment_for, heading, paragraph_lines}
use Rattle.deb_unmet.specs.Readings.{applies_by, may, surely}
use Rattle.deb_unmet.specs.Scopes.{plain}
use Rattle.deb_unmet.specs.Troubles.{can_be_otherwise, can_be_unmet, is_met, trouble, trouble_line}
use Rattle.deb_unmet.specs.declared.asked.Asked.TheVariants.{Packages}
use Rattle.deb_unmet.specs.declared.asked.Strength.{Strength}
use Rattle.deb_health.specs.Changes.{HaveSameReasons, RearrangingChangesNoReason}
use Rattle.deb_health.specs.Excluding.{excludes}
use Rattle.deb_health.specs.Health.{are_apart, is_abundant, is_healthy, is_peaceful}
use Rattle.deb_health.specs.Lines.{negative_fields}
use Rattle.deb_health.specs.Together.{are_together, is_same, rules_out}
use Rattle.deb_health.proofs.Rearranged.{by_exchanges, filter-permutation, list_all-permutation}

-- of two packages each rules out the other, or neither does
are_together-both_ways : (target : List ℕ) (p q : Listed) → are_together target p q ≡ are_together target q p
are_together-both_ways target p q =
    let same = and_comm (is_same (multi_arch_or_no p.multi_arch)) (is_same (multi_arch_or_no q.multi_arch)) in
    let architectures = same_bytes (effective target p.architecture) (effective target q.architecture) in
    let versions = same_bytes (version_text p.version) (version_text q.version) in
    λ i. same i && (not (architectures i) && versions i)

pub rules_out-both_ways : (target : List ℕ) (p q : Listed) → rules_out target p q ≡ rules_out target q p
rules_out-both_ways target p q =
    let names = same_bytes q.name p.name in
    let together = are_together-both_ways target p q in
    λ i. names i && not (together i)

-- whether any two can be installed together
module _ (target : List ℕ) where
  pub record ApartAlike (packages others : List Listed) : Type 0 where
    pub moved : IsPermutation packages others
    pub apart : are_apart target packages ≡ are_apart target others

  exchanged : (v a b rest : Bool) → (not (v || a) && (not b && rest)) ≡ (not (v || b) && (not a && rest))
  exchanged true a b rest = refl
  exchanged false true true rest = refl
  exchanged false true false rest = refl
  exchanged false false true rest = refl
  exchanged false false false rest = refl

  under : (p : Listed) (packages others : List Listed) → ApartAlike packages others → ApartAlike (p ∷ packages) (p ∷ others)
  under p packages others alike = record {
    moved = IsPermutation-cons p packages others alike.moved;
    apart = λ i. not (list_any-IsPermutation (rules_out target p) packages others alike.moved i) && alike.apart i;
  }

  flipped : (p q : Listed) (packages : List Listed) → ApartAlike (p ∷ q ∷ packages) (q ∷ p ∷ packages)
  flipped p q packages = record {
    moved = IsPermutation-middle (p ∷ []) q packages;
    apart = exchanged (rules_out target p q) (list_any (rules_out target p) packages) (list_any (rules_out target q) packages) (are_apart target packages)
        ∙ ap (λ v. not (v || list_any (rules_out target q) packages) && (not (list_any (rules_out target p) packages) && are_apart target packages)) (rules_out-both_ways target p q);
  }

  pub apart-rearranged : (packages others : List Listed) → IsPermutation packages others → are_apart target packages ≡ are_apart target others
  apart-rearranged packages others moved =
      (by_exchanges ApartAlike
      (λ packages. record { moved = IsPermutation-refl packages; apart = refl })
      under flipped
      (λ packages others more first second. record {
        moved = IsPermutation-trans packages others more first.moved second.moved;
        apart = first.apart ∙ second.apart;
      })
      packages others moved).apart

-- the packages of the numbers of those that pass a test
map-cond : {X Y : Type 0} (f : X → Y) (v : Bool) (x : X) (xs : List X) → map f (cond v (x ∷ xs) xs) ≡ cond v (f x ∷ map f xs) (map f xs)
map-cond f true x xs = refl
map-cond f false x xs = refl

named-from : (test : Listed → Bool) (front rest : List Listed) (n : ℕ) → n ≡ length front + 1 → map (λ k. package_at k (front ++ rest)) (numbers_from n test rest) ≡ map (λ p. Some p) (filter test rest)
named-from test front [] n is = refl
named-from test front (p ∷ rest) n is =
    let all = front ++ p ∷ rest in
    let found = map (λ k. package_at k all) (numbers_from (n + 1) test rest) in
    let long = length_push front p in
    let more = ap (λ l. map (λ k. package_at k l) (numbers_from (n + 1) test rest)) (sym (append_assoc front (p ∷ []) rest)) ∙ named-from test (front ++ p ∷ []) rest (n + 1) (omega (arith, is, long)) in
    map-cond (λ k. package_at k all) (test p) n (numbers_from (n + 1) test rest)
    ∙ ap (λ o. cond (test p) (o ∷ found) found) (at-front front p rest n is)
    ∙ ap (λ l. cond (test p) (Some p ∷ l) l) more
    ∙ sym (map-cond (λ q. Some q) (test p) p (filter test rest))

same-choice : {X : Type 0} (a b : X) (u v o w : Bool) → u ≡ v → o ≡ w → cond u (cond o (Some a) (Some b)) None ≡ cond v (cond w (Some a) (Some b)) None
same-choice a b u v o w us os = ap (λ t. cond t (cond o (Some a) (Some b)) None) us ∙ ap (λ t. cond v (cond t (Some a) (Some b)) None) os

-- What follows for a list of packages in another order.
module _ (packages others : List Listed) (moved : IsPermutation packages others) where
  met-rearranged : (environment : Environment) (a : Alternative) → is_met environment packages a ≡ is_met environment others a
  met-rearranged environment a = list_any-IsPermutation (meets environment a) packages others moved

  unmet-rearranged : (environment : Environment) (group : Group) → can_be_unmet environment packages group ≡ can_be_unmet environment others group
  unmet-rearranged environment group = λ i. not (list_any (λ a. surely (applies_by environment a) && met-rearranged environment a i) group) && list_any (λ a. may (applies_by environment a) && not (met-rearranged environment a i)) group

  pub otherwise-rearranged : (environment : Environment) (group : Group) → can_be_otherwise environment packages group ≡ can_be_otherwise environment others group
  otherwise-rearranged environment group = λ i. list_any (λ a. may (applies_by environment a) && met-rearranged environment a i) group || not (list_any (λ a. surely (applies_by environment a)) group)

  pub troubles-rearranged : (environment : Environment) (group : Group) → trouble environment packages group ≡ trouble environment others group
  troubles-rearranged environment group = same-choice _ _ _ _ _ _ (unmet-rearranged environment group) (otherwise-rearranged environment group)

  module _ (strength : Strength) (environment : Environment) (values : ValueEntries ValueMeaning) where
    abbrev own : Environment
    own = environment_for (Packages strength) environment values

    lines-rearranged : (number : ℕ) (version : List ℕ) → paragraph_lines (Packages strength) environment (plain packages) number version values ≡ paragraph_lines (Packages strength) environment (plain others) number version values
    lines-rearranged number version = λ i. flat_map
        (λ field. flat_map (λ group. trouble_line (troubles-rearranged own group i) (heading (Packages strength) number version values) field (group_text group)) (groups_of (value_under field values)))
        (fields_asked (Packages strength))

    abundant-rearranged : is_abundant strength environment packages values ≡ is_abundant strength environment others values
    abundant-rearranged = λ i. list_all (λ field. list_all (λ group. is_none (troubles-rearranged own group i)) (groups_of (value_under field values))) (fields_with strength)

    peaceful-rearranged : is_peaceful strength environment packages values ≡ is_peaceful strength environment others values
    peaceful-rearranged = λ i. list_all (λ field. list_all (λ group. list_all
        (λ a. not (may (applies_by own a) && list_any-IsPermutation (excludes environment.native (word_under (codes "Package") values) a) packages others moved i)) group)
        (groups_of (value_under field values))) negative_fields

  pub healthy-rearranged : (strength : Strength) (environment : Environment) (meaning other : Meaning) → IsPermutation meaning other → is_healthy strength environment packages meaning ≡ is_healthy strength environment others other
  healthy-rearranged strength environment meaning other moved_too =
      let good : ValueEntries ValueMeaning → Bool = λ values. is_abundant strength environment packages values && is_peaceful strength environment packages values in
      ap (λ v. v && are_apart environment.native packages) (list_all-permutation good meaning other moved_too)
      ∙ (λ i. list_all (λ values. abundant-rearranged strength environment values i && peaceful-rearranged strength environment values i) other && apart-rearranged environment.native packages others moved i)

  have_same_reasons : HaveSameReasons packages others
  have_same_reasons = record {
    same_troubles = λ environment group. sym (troubles-rearranged environment group);
    same_unmet_lines = λ strength environment number version values. sym (lines-rearranged strength environment values number version);
    excludes_the_same = λ target name a. filter-permutation (excludes target name a) packages others moved;
    rules_out_the_same = λ target p. filter-permutation (rules_out target p) packages others moved;
    healthy_alike = λ strength environment meaning other moved_too. sym (healthy-rearranged strength environment meaning other moved_too);
  }

pub rearranging : RearrangingChangesNoReason
rearranging = record {
  same_reasons = have_same_reasons;
  numbers_name_passing = λ test packages. named-from test [] packages 1 refl;
  rules_out_both_ways = rules_out-both_ways;
}
