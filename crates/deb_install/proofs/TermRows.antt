-- A set is healthy and as the terms ask exactly if it is healthy by the rows of its packages.
use Rattle.std.proofs.Common.{◌≡◌, ℕ, zero, suc, ◌+◌, ◌-◌, ◌<◌, ◌≤◌, Bool, true, false, cond, not, ◌&&◌, ◌||◌, List, [], ◌∷◌, length, Some, codes, refl, sym, ap, ◌∙◌, arith}
use Rattle.std.specs.List.{list_all, list_any, slice_get}
use Rattle.std.specs.Option.{option_map_or}
use Rattle.std.specs.Str.{bytes_eq}
use Rattle.std.proofs.lemmas.Bool.{and_from, and_parts}
use Rattle.std.proofs.lemmas.List.Folds.{list_all-append, list_all-map}
use Rattle.std.proofs.lemmas.Option.{slice_get_within}
use Rattle.deb_relation.specs.Applying.{Environment, is_among}
use Rattle.deb_field.specs.Values.{ValueMeaning}
use Rattle.deb_control.specs.Documents.{Meaning}
use Rattle.deb_control.specs.FieldWords.{word_of, word_under}
use Rattle.deb_control.specs.Pairs.{Pairwise}
use Rattle.deb_control.specs.ValueFiles.{ValueEntries}
use Rattle.deb_index.specs.Listed.{Listed}
use Rattle.deb_index.specs.Listing.{Lists}
use Rattle.deb_index.specs.Named.{has_name, numbers_of}
use Rattle.deb_index.proofs.Lookups.{same_bytes}
use Rattle.deb_health.proofs.Growing.{all-true}
use Rattle.deb_install.specs.Installable.{is_healthy_by_terms, is_healthy_in}
use Rattle.deb_install.specs.Members.{IsHealthyByRows, members_from, members_of}
use Rattle.deb_install.specs.Rows.{AreRowsOf, needed_rows}
use Rattle.deb_install.specs.Terms.{Terms, essential_names, essential_rows, has_each, has_none, is_allowed, left_out_rows, term_rows}
use Rattle.deb_install.specs.declared.readings.Readings.{Readings}
use Rattle.deb_install.proofs.HealthyRows.{AreFieldRows, healthy_by_rows, healthy_from_rows}
use Rattle.deb_install.proofs.Sets.{any-members}
use Rattle.deb_install.proofs.Smaller.{member-at}

-- no x has a y exactly if no y has an x
module _ {X Y : Type 0} (has : X → Y → Bool) (is_of : Y → X → Bool) (same : (x : X) (y : Y) → has x y ≡ is_of y x) where
  four : (a b rest others : Bool) → (not (a || rest) && (not b && others)) ≡ (not (a || b) && (not rest && others))
  four true b rest others = refl
  four false true true others = refl
  four false true false others = refl
  four false false rest others = refl

  one-more : (q : Y → Bool) (x : X) (ys : List Y) → (not (list_any (has x) ys) && list_all (λ y. not (q y)) ys) ≡ list_all (λ y. not (is_of y x || q y)) ys
  one-more q x [] = refl
  one-more q x (y ∷ ys) =
      four (has x y) (q y) (list_any (has x) ys) (list_all (λ z. not (q z)) ys)
      ∙ (λ i. not (same x y i || q y) && one-more q x ys i)

  pub none-exchanged : (xs : List X) (ys : List Y) → list_all (λ x. not (list_any (has x) ys)) xs ≡ list_all (λ y. not (list_any (is_of y) xs)) ys
  none-exchanged [] ys = sym (all-true (λ y. true) (λ y. refl) ys)
  none-exchanged (x ∷ xs) ys = ap (λ b. not (list_any (has x) ys) && b) (none-exchanged xs ys) ∙ one-more (λ y. list_any (is_of y) xs) x ys

-- no member has one of these names exactly if the name of no member is among them
pub none-left : (without : List (List ℕ)) (members : List Listed) → has_none without members ≡ list_all (λ p. not (is_among p.name without)) members
none-left without members = none-exchanged has_name (λ p name. bytes_eq name p.name) (λ name p. same_bytes p.name name) without members

-- members pass if each element whose number is in the set does
pub members-all : {X : Type 0} (set : ℕ → Bool) (test : X → Bool) (n : ℕ) (xs : List X) → ((k : ℕ) (x : X) → slice_get xs k ≡ Some x → set (n + k) ≡ true → test x ≡ true) → list_all test (members_from set n xs) ≡ true
members-all set test n [] each = refl
members-all set test n (x ∷ xs) each =
    let here : n ≡ n + zero = omega arith in
    go (set n) (λ contains. each zero x refl (ap set (sym here) ∙ contains))
    (members-all set test (n + 1) xs (λ k y is contains.
    let there : n + suc k ≡ (n + 1) + k = omega arith in
    each (suc k) y is (ap set there ∙ contains)))
  where
    go : (v : Bool) → (v ≡ true → test x ≡ true) → list_all test (members_from set (n + 1) xs) ≡ true → list_all test (cond v (x ∷ members_from set (n + 1) xs) (members_from set (n + 1) xs)) ≡ true
    go true first rest = and_from (test x) (list_all test (members_from set (n + 1) xs)) (first refl) rest
    go false first rest = rest

-- a package that is left out has the row without a number
pub left-out : (set : ℕ → Bool) (without : List (List ℕ)) (name : List ℕ) → list_all (list_any set) (left_out_rows without name) ≡ not (is_among name without)
left-out set without name = go (is_among name without)
  where
    go : (v : Bool) → list_all (list_any set) (cond v ([] ∷ []) []) ≡ not v
    go true = refl
    go false = refl

pub each-essential : (set : ℕ → Bool) (t : Terms) (target : List ℕ) (packages : List Listed) (meaning : Meaning) → has_each (essential_names t target meaning) (members_of set packages) ≡ list_all (list_any set) (essential_rows t target packages meaning)
each-essential set t target packages meaning =
    let names = essential_names t target meaning in
    (λ i. list_all (λ name. any-members set (has_name name) 1 packages i) names)
    ∙ sym (list_all-map (list_any set) (λ name. numbers_of (has_name name) packages) names)

-- the values and the package of a number
pub record MemberAt (meaning : Meaning) (packages : List Listed) (k : ℕ) : Type 0 where
  pub values : ValueEntries ValueMeaning
  pub p : Listed
  pub at_values : slice_get meaning k ≡ Some values
  pub at_package : slice_get packages k ≡ Some p
  pub lists : Lists values p

pub member-of : (meaning : Meaning) (packages : List Listed) (k : ℕ) → Pairwise Lists meaning packages → k < length packages → MemberAt meaning packages k
member-of [] [] k lists within = absurd (omega (arith, within))
member-of [] (p ∷ packages) k lists within = absurd lists
member-of (v ∷ meaning) [] k lists within = absurd lists
member-of (v ∷ meaning) (p ∷ packages) zero lists within = record { values = v; p = p; at_values = refl; at_package = refl; lists = lists.0 }
member-of (v ∷ meaning) (p ∷ packages) (suc k) lists within =
    let rest = member-of meaning packages k lists.1 (omega (arith, within)) in
    record { values = rest.values; p = rest.p; at_values = rest.at_values; at_package = rest.at_package; lists = rest.lists }

name-listed : (values : ValueEntries ValueMeaning) (p : Listed) → Lists values p → word_under (codes "Package") values ≡ p.name
name-listed values p lists = ap word_of lists.name

module _ (readings : Readings) (t : Terms) (environment : Environment) (packages : List Listed) (meaning : Meaning) (needs : ℕ → List (List ℕ)) (excludes : ℕ → List ℕ) (rows : AreRowsOf readings t environment packages meaning needs excludes) (set : ℕ → Bool) (lists : Pairwise Lists meaning packages) where
  abbrev count : ℕ
  count = length packages

  abbrev native : List ℕ
  native = environment.native

  abbrev needed_of : ValueEntries ValueMeaning → List (List ℕ)
  needed_of = needed_rows readings t.strength environment packages

  -- the rows of the groups alone
  abbrev bare : ℕ → List (List ℕ)
  bare number = option_map_or needed_of (slice_get meaning (number - 1)) []

  bare-rows : AreFieldRows readings t.strength environment packages meaning bare excludes
  bare-rows = record {
    needed = λ k values is.
        let less : k + 1 - 1 ≡ k = omega arith in
        ap (λ m. option_map_or needed_of (slice_get meaning m) []) less ∙ ap (λ o. option_map_or needed_of o []) is;
    excluded = rows.excluded;
  }

  abbrev met : List (List ℕ) → Bool
  met = list_all (list_any set)

  -- the rows of a number in three parts
  parts : (number : ℕ) → 1 ≤ number → (m : MemberAt meaning packages (number - 1)) → met (needs number) ≡ (met (bare number) && (not (is_among m.p.name t.without) && met (essential_rows t native packages meaning)))
  parts number some m =
      let back : number ≡ number - 1 + 1 = omega (arith, some) in
      let name = word_under (codes "Package") m.values in
      ap (λ n. met (needs n)) back
      ∙ ap met (rows.needed (number - 1) m.values m.at_values)
      ∙ list_all-append (list_any set) (needed_of m.values) (term_rows t native packages meaning name)
      ∙ ap (λ b. met (needed_of m.values) && b) (list_all-append (list_any set) (left_out_rows t.without name) (essential_rows t native packages meaning))
      ∙ ap (λ b. met (needed_of m.values) && (b && met (essential_rows t native packages meaning))) (left-out set t.without name ∙ ap (λ n. not (is_among n t.without)) (name-listed m.values m.p m.lists))
      ∙ ap (λ o. met (option_map_or needed_of o []) && (not (is_among m.p.name t.without) && met (essential_rows t native packages meaning))) (sym m.at_values)

  within : (number : ℕ) → 1 ≤ number → number ≤ count → number - 1 < count
  within number some most = omega (arith, some, most)

  pub terms_by_rows : is_healthy_by_terms readings t environment packages meaning set ≡ true → IsHealthyByRows count needs excludes set
  terms_by_rows is =
      let members = members_of set packages in
      let both = and_parts (is_allowed t native meaning members) (is_healthy_in readings t.strength environment members (members_of set meaning)) is in
      let allowed = and_parts (has_none t.without members) (has_each (essential_names t native meaning) members) both.0 in
      let healthy = healthy_by_rows readings t.strength environment packages meaning bare excludes bare-rows set lists both.1 in
      let none = sym (none-left t.without members) ∙ allowed.0 in
      let each = sym (each-essential set t native packages meaning) ∙ allowed.1 in
      record {
        abundance = λ number some most contains.
            let m = member-of meaning packages (number - 1) lists (within number some most) in
            let back : 1 + (number - 1) ≡ number = omega (arith, some) in
            let out = member-at set (λ p. not (is_among p.name t.without)) 1 packages (number - 1) m.p none m.at_package (ap set back ∙ contains) in
            parts number some m
            ∙ and_from (met (bare number)) (not (is_among m.p.name t.without) && met (essential_rows t native packages meaning)) (healthy.abundance number some most contains)
            (and_from (not (is_among m.p.name t.without)) (met (essential_rows t native packages meaning)) out each);
        peace = healthy.peace;
      }

  module _ (healthy : IsHealthyByRows count needs excludes set) where
    three : (number : ℕ) (some : 1 ≤ number) (most : number ≤ count) → set number ≡ true → (m : MemberAt meaning packages (number - 1)) → (met (bare number) ≡ true) × ((not (is_among m.p.name t.without) ≡ true) × (met (essential_rows t native packages meaning) ≡ true))
    three number some most contains m =
        let two = and_parts (met (bare number)) (not (is_among m.p.name t.without) && met (essential_rows t native packages meaning)) (sym (parts number some m) ∙ healthy.abundance number some most contains) in
        (two.0, and_parts (not (is_among m.p.name t.without)) (met (essential_rows t native packages meaning)) two.1)

    bare-healthy : IsHealthyByRows count bare excludes set
    bare-healthy = record {
      abundance = λ number some most contains. (three number some most contains (member-of meaning packages (number - 1) lists (within number some most))).0;
      peace = healthy.peace;
    }

    none-out : (k : ℕ) (p : Listed) → slice_get packages k ≡ Some p → set (1 + k) ≡ true → not (is_among p.name t.without) ≡ true
    none-out k p is contains =
        let less = slice_get_within packages k p is in
        let some : 1 ≤ 1 + k = omega arith in
        let most : 1 + k ≤ count = omega (arith, less) in
        let m = member-of meaning packages (1 + k - 1) lists (within (1 + k) some most) in
        let back : 1 + k - 1 ≡ k = omega arith in
        let same : m.p ≡ p = just (sym m.at_package ∙ ap (slice_get packages) back ∙ is) in
        ap (λ q. not (is_among q.name t.without)) (sym same) ∙ (three (1 + k) some most contains m).1.0
      where
        just : {X : Type 0} {x y : X} → Some x ≡ Some y → x ≡ y
        just e = cc

    pub terms_from_rows : (number : ℕ) → 1 ≤ number → number ≤ count → set number ≡ true → is_healthy_by_terms readings t environment packages meaning set ≡ true
    terms_from_rows number some most contains =
        let members = members_of set packages in
        let m = member-of meaning packages (number - 1) lists (within number some most) in
        let none = none-left t.without members ∙ members-all set (λ p. not (is_among p.name t.without)) 1 packages none-out in
        let each = each-essential set t native packages meaning ∙ (three number some most contains m).1.1 in
        and_from (is_allowed t native meaning members) (is_healthy_in readings t.strength environment members (members_of set meaning))
        (and_from (has_none t.without members) (has_each (essential_names t native meaning) members) none each)
        (healthy_from_rows readings t.strength environment packages meaning bare excludes bare-rows set lists bare-healthy)
