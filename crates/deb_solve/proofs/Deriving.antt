-- How lists of packages follow from one another.
use Rattle.std.proofs.Common.{◌≡◌, ℕ, ◌+◌, ◌<◌, Bool, true, false, List, [], ◌∷◌, ◌++◌, length, get_or, set, take, refl, sym, subst, ap, ◌∙◌, eqb, inl, inr, ◌≤◌, Some, drop, arith}
use Rattle.std.specs.List.{list_all, list_any}
use Rattle.std.proofs.lemmas.Bool.{and_from, and_parts, cases_eq, not-true, or_cases, or_from, eq-eqb, eqb-true, false≢true, false_from_ne_true, true_from_ne_false}
use Rattle.std.proofs.lemmas.List.Folds.{list_all-append, list_all_more, list_all_at}
use Rattle.std.proofs.lemmas.Map.Keys.{any_passes_from_place}
use Rattle.std.proofs.lemmas.Option.{slice_get_within, get_or_from_slice_get}
use Rattle.std.specs.List.{slice_get}
use Rattle.std.proofs.lemmas.List.{at_drop_more, at_drop_all, get_or-set_other}
use Rattle.deb_solve.specs.Refuting.{AddsOthers, IsNogood, IsOut, IsUnmet, Leads, RulesOut}
use Rattle.deb_solve.specs.Health.{fits, is_among, is_met, row}
use Rattle.deb_solve.specs.Marks.{marked}
use Rattle.deb_solve.specs.declared.universe.Universe.{Universe}

-- nothing is added of no list
pub AddsOthers-none : (xs : List ℕ) (c : ℕ) → AddsOthers xs xs [] c
AddsOthers-none xs c = record { keeps = λ set all. all; covers = λ set all is. refl }

-- the candidate itself isn't added
pub AddsOthers-candidate : (xs : List ℕ) (n c : ℕ) → n ≡ c → AddsOthers xs xs (n ∷ []) c
AddsOthers-candidate xs n c same =
    record { keeps = λ set all. all; covers = λ set all is. and_from _ _ (ap set same ∙ is) refl }

-- one more element of the other list
pub AddsOthers-more : (old mid new other : List ℕ) (i n c : ℕ) → i < length other → n ≡ get_or other i n → AddsOthers old mid (take i other) c → AddsOthers mid new (n ∷ []) c → AddsOthers old new (take (i + 1) other) c
AddsOthers-more old mid new other i n c within at first second = record {
  keeps = λ set all. first.keeps set (second.keeps set all);
  covers = λ set all is.
      list_all_more set other i n within
      ∙ and_from _ _ (first.covers set (second.keeps set all) is)
      (ap set (sym at) ∙ (and_parts _ _ (second.covers set all is)).0);
}

-- a number that a list has is in a set that has all of the list
in_all : (set : ℕ → Bool) (xs : List ℕ) (n : ℕ) → list_any (λ y. eqb y n) xs ≡ true → list_all set xs ≡ true → set n ≡ true
in_all set [] n has all = absurd (false≢true has)
in_all set (x ∷ xs) n has all =
    elim (or_cases _ _ has) [ inl same ↦ ap set (sym (eqb-true x n same)) ∙ (and_parts _ _ all).0 | inr later ↦ in_all set xs n later (and_parts _ _ all).1 ]

-- it isn't added again
pub AddsOthers-contained : (xs : List ℕ) (n c : ℕ) → list_any (λ y. eqb y n) xs ≡ true → AddsOthers xs xs (n ∷ []) c
AddsOthers-contained xs n c has =
    record { keeps = λ set all. all; covers = λ set all is. and_from _ _ (in_all set xs n has all) refl }

pub AddsOthers-push : (xs ys : List ℕ) (n c : ℕ) → ys ≡ xs ++ n ∷ [] → AddsOthers xs ys (n ∷ []) c
AddsOthers-push xs ys n c is = record {
  keeps = λ set all. (and_parts _ _ (sym (ap (list_all set) is ∙ list_all-append set xs (n ∷ [])) ∙ all)).0;
  covers = λ set all _. (and_parts _ _ (sym (ap (list_all set) is ∙ list_all-append set xs (n ∷ [])) ∙ all)).1;
}

-- A list that has the others of a nogood rules the candidate out.
pub RulesOut-nogood : (u : Universe) (old new nogood : List ℕ) (c : ℕ) → IsNogood u nogood → AddsOthers old new nogood c → RulesOut u old new c
RulesOut-nogood u old new nogood c none adds = record {
  keeps = λ set healthy all. adds.keeps set all;
  excludes = λ set healthy all.
      false_from_ne_true _ (λ is. false≢true (sym (none set healthy) ∙ adds.covers set all is));
}

pub RulesOut-out : (u : Universe) (list : List ℕ) (c : ℕ) → IsOut u c → RulesOut u list list c
RulesOut-out u list c out =
    record { keeps = λ set healthy all. all; excludes = λ set healthy all. out set healthy }

-- what a package that fits a set says
abundance : (u : Universe) (set : ℕ → Bool) (p : ℕ) → fits u set p ≡ true → list_all (is_met u set) (row u.needs p) ≡ true
abundance u set p fit = (and_parts _ _ (and_parts _ _ fit).1).0

peace : (u : Universe) (set : ℕ → Bool) (p : ℕ) → fits u set p ≡ true → list_any set (row u.excludes p) ≡ false
peace u set p fit = not-true _ (and_parts _ _ (and_parts _ _ fit).1).1

-- two packages of which the one excludes the other
pub IsNogood-excluded : (u : Universe) (by at other : ℕ) → slice_get (row u.excludes by) at ≡ Some other → IsNogood u (by ∷ other ∷ [])
IsNogood-excluded u by at other is set healthy =
    false_from_ne_true _ (λ both.
    let parts = and_parts _ _ both in
    false≢true (sym (peace u set by (healthy by parts.0))
    ∙ any_passes_from_place set (row u.excludes by) at other is (and_parts _ _ parts.1).0))

-- a member's groups are met
pub Leads-need : (u : Universe) (member at group : ℕ) → slice_get (row u.needs member) at ≡ Some group → Leads u (member ∷ []) (row u.groups group)
Leads-need u member at group is set healthy all =
    true_from_ne_false _ (λ unmet.
    let groups = row u.needs member in
    false≢true (sym (list_all_at (is_met u set) groups at group (slice_get_within groups at group is) (ap (is_met u set) (get_or_from_slice_get groups at group group is) ∙ unmet))
    ∙ abundance u set member (healthy member (and_parts _ _ all).0)))

-- these by the rows that the code reads
pub IsNogood-read : (u : Universe) (by at other : ℕ) (others : List ℕ) → others ≡ row u.excludes by → slice_get others at ≡ Some other → IsNogood u (by ∷ other ∷ [])
IsNogood-read u by at other others is found =
    IsNogood-excluded u by at other (sym (ap (λ xs. slice_get xs at) is) ∙ found)

pub Leads-read : (u : Universe) (member at group : ℕ) (groups candidates : List ℕ) → groups ≡ row u.needs member → slice_get groups at ≡ Some group → candidates ≡ row u.groups group → Leads u (member ∷ []) candidates
Leads-read u member at group groups candidates is found are set healthy all =
    ap (list_any set) are
    ∙ Leads-need u member at group (sym (ap (λ xs. slice_get xs at) is) ∙ found) set healthy all

-- one candidate less
pub Leads-ruled_out : (u : Universe) (old new candidates : List ℕ) (i c : ℕ) → i < length candidates → c ≡ get_or candidates i c → Leads u old (drop i candidates) → RulesOut u old new c → Leads u new (drop (i + 1) candidates)
Leads-ruled_out u old new candidates i c within at leads rules set healthy all =
    elim (or_cases _ _ (sym (at_drop_more (list_any set) candidates i c within) ∙ leads set healthy (rules.keeps set healthy all))) [
      | inl is ↦ absurd (false≢true (sym (rules.excludes set healthy all) ∙ ap set at ∙ is))
      | inr later ↦ later
    ]

-- no candidate is left
pub IsNogood-led : (u : Universe) (list candidates : List ℕ) (i : ℕ) → length candidates ≤ i → Leads u list (drop i candidates) → IsNogood u list
IsNogood-led u list candidates i past leads set healthy =
    false_from_ne_true _ (λ all. false≢true (sym (at_drop_all (list_any set) candidates i past) ∙ leads set healthy all))

-- a list of one that no healthy set has
pub IsOut-alone : (u : Universe) (list : List ℕ) → IsNogood u list → length list ≡ 1 → IsOut u (get_or list 0 0)
IsOut-alone u [] none one set healthy = absurd (omega (arith, one))
IsOut-alone u (x ∷ []) none one set healthy =
    false_from_ne_true _ (λ is. false≢true (sym (none set healthy) ∙ and_from _ _ is refl))
IsOut-alone u (x ∷ (y ∷ ys)) none one set healthy = absurd (omega (arith, one))

-- one more mark of a number for which a fact holds
marks_more : (Fact : ℕ → Type 0) (marks : List Bool) (n : ℕ) → ((p : ℕ) → marked marks p ≡ true → Fact p) → Fact n
    → (p : ℕ) → marked (set marks n true) p ≡ true → Fact p
marks_more Fact marks n are is p mark = elim (cases_eq p n) [
  | inl same ↦ subst Fact (sym same) is
  | inr other ↦ are p (sym (get_or-set_other marks n p true false other) ∙ mark)
]

pub outs_more : (u : Universe) (out : List Bool) (n : ℕ) → ((p : ℕ) → marked out p ≡ true → IsOut u p) → IsOut u n
    → (p : ℕ) → marked (set out n true) p ≡ true → IsOut u p
outs_more u out n are is = marks_more (IsOut u) out n are is

pub unmet_more : (u : Universe) (unmet : List Bool) (n : ℕ) → ((g : ℕ) → marked unmet g ≡ true → IsUnmet u g) → IsUnmet u n
    → (g : ℕ) → marked (set unmet n true) g ≡ true → IsUnmet u g
unmet_more u unmet n are is = marks_more (IsUnmet u) unmet n are is

-- two packages, the second of which is added to the first if it's another one
pub IsNogood-pair : (u : Universe) (one other : ℕ) (list : List ℕ) → IsNogood u (one ∷ other ∷ []) → AddsOthers (one ∷ []) list (other ∷ []) one → IsNogood u list
IsNogood-pair u one other list none adds healthy_set healthy =
    false_from_ne_true _ (λ all.
    let first = (and_parts _ _ (adds.keeps healthy_set all)).0 in
    false≢true (sym (none healthy_set healthy) ∙ and_from _ _ first (adds.covers healthy_set all first)))

-- a group of which all candidates are out
pub IsUnmet-all : (u : Universe) (out : List Bool) (group : ℕ) (candidates : List ℕ) → ((q : ℕ) → marked out q ≡ true → IsOut u q)
    → candidates ≡ row u.groups group → list_all (marked out) candidates ≡ true → IsUnmet u group
IsUnmet-all u out group candidates are is all set healthy =
    sym (ap (list_any set) is) ∙ none_of candidates all
  where
    none_of : (cs : List ℕ) → list_all (marked out) cs ≡ true → list_any set cs ≡ false
    none_of [] all = refl
    none_of (c ∷ cs) all =
        or_from _ _ (are c (and_parts _ _ all).0 set healthy) (none_of cs (and_parts _ _ all).1)

-- a package that needs a group that no healthy set meets
pub IsOut-unmet : (u : Universe) (member at group : ℕ) (groups : List ℕ) → groups ≡ row u.needs member → slice_get groups at ≡ Some group → IsUnmet u group → IsOut u member
IsOut-unmet u member at group groups are found unmet set healthy =
    false_from_ne_true _ (λ is.
    false≢true (sym (unmet set healthy)
    ∙ Leads-need u member at group (sym (ap (λ xs. slice_get xs at) are) ∙ found) set healthy (and_from _ _ is refl)))

-- a number that a list has at a place
pub is_among_at : (list : List ℕ) (at found number : ℕ) → slice_get list at ≡ Some found → found ≡ number → is_among list number ≡ true
is_among_at list at found number is same =
    any_passes_from_place (λ y. eqb y number) list at found is (eq-eqb found number same)
