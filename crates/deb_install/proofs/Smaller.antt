-- What a set has, the whole list has.
use Rattle.std.proofs.Common.{◌≡◌, ℕ, zero, suc, ◌+◌, Bool, true, false, cond, not, ◌&&◌, is_none, List, [], ◌∷◌, None, Some, refl, sym, ap, ◌∙◌, arith}
use Rattle.std.specs.List.{Contains, list_all, list_any, slice_get}
use Rattle.std.proofs.lemmas.Bool.{and_parts, false≢true, or_right, true_from_ne_false}
use Rattle.std.proofs.lemmas.List.Folds.{list_all_at}
use Rattle.deb_relation.specs.Applying.{Environment}
use Rattle.deb_relation.specs.Meaning.{Alternative, Group}
use Rattle.deb_index.specs.Listed.{Listed}
use Rattle.deb_index.specs.Meeting.{meets}
use Rattle.deb_unmet.specs.Readings.{applies_by, may, surely}
use Rattle.deb_unmet.specs.Troubles.{can_be_otherwise, can_be_unmet, is_met}
use Rattle.deb_health.proofs.Growing.{and-grows, any-grows, not-grows, or-grows}
use Rattle.deb_install.specs.Members.{members_from, members_of}
use Rattle.deb_install.specs.Passing.{group_passes}
use Rattle.deb_install.specs.declared.readings.Readings.{Readings}
use Rattle.deb_install.specs.declared.readings.Readings.TheVariants.{Every, One}

pub all-contained : {X : Type 0} (test : X → Bool) (xs : List X) (x : X) → list_all test xs ≡ true → Contains xs x → test x ≡ true
all-contained test xs x all has =
    true_from_ne_false (test x) (λ fails. false≢true (sym (list_all_at test xs has.0 x has.1 (ap test has.2 ∙ fails)) ∙ all))

-- an element whose number is in the set is a member
pub member-at : {X : Type 0} (set : ℕ → Bool) (test : X → Bool) (n : ℕ) (xs : List X) (k : ℕ) (x : X) → list_all test (members_from set n xs) ≡ true → slice_get xs k ≡ Some x → set (n + k) ≡ true → test x ≡ true
member-at set test n [] k x all is contains = absurd cc
member-at set test n (y ∷ ys) zero x all is contains =
    let here : n + zero ≡ n = omega arith in
    let same : y ≡ x = cc in
    sym (ap test same) ∙ (and_parts (test y) (list_all test (members_from set (n + 1) ys)) (sym (ap (λ v. list_all test (cond v (y ∷ members_from set (n + 1) ys) (members_from set (n + 1) ys))) (sym (ap set here) ∙ contains)) ∙ all)).0
member-at set test n (y ∷ ys) (suc k) x all is contains =
    let there : n + suc k ≡ (n + 1) + k = omega arith in
    member-at set test (n + 1) ys k x (rest (set n) all) is (sym (ap set there) ∙ contains)
  where
    rest : (v : Bool) → list_all test (cond v (y ∷ members_from set (n + 1) ys) (members_from set (n + 1) ys)) ≡ true → list_all test (members_from set (n + 1) ys) ≡ true
    rest true are = (and_parts (test y) (list_all test (members_from set (n + 1) ys)) are).1
    rest false are = are

more-if : (v : Bool) (test : Listed → Bool) (p : Listed) (members packages : List Listed) → (list_any test members ≡ true → list_any test packages ≡ true) → list_any test (cond v (p ∷ members) members) ≡ true → list_any test (p ∷ packages) ≡ true
more-if true test p members packages more is = or-grows (test p) (test p) (list_any test members) (list_any test packages) (λ e. e) more is
more-if false test p members packages more is = or_right (test p) (list_any test packages) (more is)

some-member : (set : ℕ → Bool) (test : Listed → Bool) (n : ℕ) (packages : List Listed) → list_any test (members_from set n packages) ≡ true → list_any test packages ≡ true
some-member set test n [] is = is
some-member set test n (p ∷ packages) is = more-if (set n) test p (members_from set (n + 1) packages) packages (some-member set test (n + 1) packages) is

none-if-less : {X : Type 0} (a b : X) (unmet less other more : Bool) → (less ≡ true → unmet ≡ true) → is_none (cond unmet (cond other (Some a) (Some b)) None) ≡ true → is_none (cond less (cond more (Some a) (Some b)) None) ≡ true
none-if-less a b unmet false other more back is = refl
none-if-less a b true true true more back is = absurd (false≢true is)
none-if-less a b true true false more back is = absurd (false≢true is)
none-if-less a b false true other more back is = absurd (false≢true (back refl))

module _ (set : ℕ → Bool) (packages : List Listed) (environment : Environment) where
  abbrev members : List Listed
  members = members_of set packages

  met-more : (a : Alternative) → is_met environment members a ≡ true → is_met environment packages a ≡ true
  met-more a = some-member set (meets environment a) 1 packages

  unmet-less : (group : Group) → can_be_unmet environment packages group ≡ true → can_be_unmet environment members group ≡ true
  unmet-less group =
      let sure : Alternative → Bool = λ a. surely (applies_by environment a) in
      let some : Alternative → Bool = λ a. may (applies_by environment a) in
      let met = is_met environment members in
      let more = is_met environment packages in
      and-grows (not (list_any (λ a. sure a && more a) group)) (not (list_any (λ a. sure a && met a) group)) (list_any (λ a. some a && not (more a)) group) (list_any (λ a. some a && not (met a)) group)
      (not-grows (list_any (λ a. sure a && more a) group) (list_any (λ a. sure a && met a) group)
      (any-grows (λ a. sure a && met a) (λ a. sure a && more a) (λ a. and-grows (sure a) (sure a) (met a) (more a) (λ e. e) (met-more a)) group))
      (any-grows (λ a. some a && not (more a)) (λ a. some a && not (met a)) (λ a. and-grows (some a) (some a) (not (more a)) (not (met a)) (λ e. e) (not-grows (more a) (met a) (met-more a))) group)

  otherwise-more : (group : Group) → can_be_otherwise environment members group ≡ true → can_be_otherwise environment packages group ≡ true
  otherwise-more group =
      let some : Alternative → Bool = λ a. may (applies_by environment a) in
      let met = is_met environment members in
      let more = is_met environment packages in
      let none = not (list_any (λ a. surely (applies_by environment a)) group) in
      or-grows (list_any (λ a. some a && met a) group) (list_any (λ a. some a && more a) group) none none
      (any-grows (λ a. some a && met a) (λ a. some a && more a) (λ a. and-grows (some a) (some a) (met a) (more a) (λ e. e) (met-more a)) group)
      (λ e. e)

  -- a group that passes with the members passes with all packages
  pub passes-more : (readings : Readings) (group : Group) → group_passes readings environment members group ≡ true → group_passes readings environment packages group ≡ true
  passes-more Every group = none-if-less _ _ (can_be_unmet environment members group) (can_be_unmet environment packages group) (can_be_otherwise environment members group) (can_be_otherwise environment packages group) (unmet-less group)
  passes-more One group = otherwise-more group
