-- A universe of facts: its healthy sets, and the sets that respect the facts.
use Rattle.std.proofs.Common.{◌≡◌, ℕ, ◌+◌, ◌<◌, ◌≤◌, ◌&&◌, ◌||◌, not, Bool, true, false, suc, zero, List, [], ◌∷◌, ◌++◌, length, get_or, take, Some, slice_get, refl, sym, subst, ap, ◌∙◌, arith, inl, inr}
use Rattle.std.specs.List.{All, list_all, list_any}
use Rattle.std.proofs.lemmas.Bool.{and_from, and_parts, false≢true, lt-ltb, or_cases, or_from, or_left, or_right}
use Rattle.std.proofs.lemmas.List.{take_more}
use Rattle.std.proofs.lemmas.List.Folds.{list_any-append, list_any_more}
use Rattle.std.proofs.lemmas.Option.{get_or_from_slice_get, slice_get_within}
use Rattle.deb_solve.specs.Health.{IsHealthy, is_met, row}
use Rattle.deb_solve.specs.Parts.{AddsCandidate, Covers, IsExclusion, IsNeed, IsPart, Pairwise, candidates, renumbered}
use Rattle.deb_solve.specs.Reasons.{AreReasons, Respects, excluded, is_fact, needed, respects}
use Rattle.deb_solve.specs.Refuting.{IsOut}
use Rattle.deb_solve.specs.declared.facts.Fact.{Fact}
use Rattle.deb_solve.specs.declared.facts.Fact.TheVariants.{Needs, Excludes}
use Rattle.deb_solve.specs.declared.universe.Universe.{Universe}

-- the first element of a list
first_is : {A : Type 0} (x : A) (xs : List A) (y : A) → slice_get (x ∷ xs) 0 ≡ Some y → x ≡ y
first_is x xs y at = get_or_from_slice_get (x ∷ xs) 0 y x at

-- ---- lists that are related element by element

Pairwise-append : {A B : Type 0} (R : A → B → Type 0) (xs : List A) (ys : List B) (x : A) (y : B)
    → Pairwise R xs ys → R x y → Pairwise R (xs ++ x ∷ []) (ys ++ y ∷ [])
Pairwise-append R [] [] x y all is = (is, tt)
Pairwise-append R [] (z ∷ ys) x y all is = absurd all
Pairwise-append R (w ∷ xs) [] x y all is = absurd all
Pairwise-append R (w ∷ xs) (z ∷ ys) x y all is = (all.0, Pairwise-append R xs ys x y all.1 is)

Pairwise-length : {A B : Type 0} (R : A → B → Type 0) (xs : List A) (ys : List B) → Pairwise R xs ys
    → length ys ≡ length xs
Pairwise-length R [] [] all = refl
Pairwise-length R [] (y ∷ ys) all = absurd all
Pairwise-length R (x ∷ xs) [] all = absurd all
Pairwise-length R (x ∷ xs) (y ∷ ys) all = ap suc (Pairwise-length R xs ys all.1)

-- the row with the number of an element is related to it
Pairwise-at : {A : Type 0} (R : A → List ℕ → Type 0) (xs : List A) (rows : List (List ℕ)) (i : ℕ)
    (x : A)
    → Pairwise R xs rows → slice_get xs i ≡ Some x → R x (row rows i)
Pairwise-at R [] rows i x all at = absurd (omega (arith, slice_get_within [] i x at))
Pairwise-at R (y ∷ xs) [] i x all at = absurd all
Pairwise-at R (y ∷ xs) (ys ∷ rows) zero x all at =
    subst (λ z. R z ys) (first_is y xs x at) all.0
Pairwise-at R (y ∷ xs) (ys ∷ rows) (suc i) x all at = Pairwise-at R xs rows i x all.1 at

-- one more row
pub Pairwise-more : {A : Type 0} (R : A → List ℕ → Type 0) (xs : List A) (old new : List (List ℕ))
    (i : ℕ) (d : A) (numbers : List ℕ)
    → i < length xs → new ≡ old ++ numbers ∷ [] → Pairwise R (take i xs) old
    → R (get_or xs i d) numbers → Pairwise R (take (i + 1) xs) new
Pairwise-more R xs old new i d numbers within pushed all is =
    subst (λ zs. Pairwise R zs new) (sym (take_more xs i d within))
    (subst (λ rows. Pairwise R (take i xs ++ get_or xs i d ∷ []) rows) (sym pushed)
    (Pairwise-append R (take i xs) old (get_or xs i d) numbers all is))

-- ---- new numbers

-- the set of new numbers contains that of a package if the set contains the package
renumbered_at : (ids : List ℕ) (set : ℕ → Bool) (i id : ℕ) → slice_get ids i ≡ Some id
    → renumbered ids set i ≡ set id
renumbered_at [] set i id at = absurd (omega (arith, slice_get_within [] i id at))
renumbered_at (x ∷ ids) set zero id at = ap set (first_is x ids id at)
renumbered_at (x ∷ ids) set (suc i) id at = renumbered_at ids set i id at

record HasId (ids : List ℕ) (set : ℕ → Bool) (i : ℕ) : Type 0 where
  id : ℕ
  at : slice_get ids i ≡ Some id
  inside : set id ≡ true

has_id : (ids : List ℕ) (set : ℕ → Bool) (i : ℕ) → renumbered ids set i ≡ true → HasId ids set i
has_id [] set i is = absurd (false≢true is)
has_id (x ∷ ids) set zero is = record { id = x; at = refl; inside = is }
has_id (x ∷ ids) set (suc i) is =
    let later = has_id ids set i is in
    record { id = later.id; at = later.at; inside = later.inside }

-- ---- a row of candidates

pub Covers-none : (u : Universe) (ids numbers : List ℕ) → Covers u ids [] numbers
Covers-none u ids numbers set listed is = absurd (false≢true is)

pub AddsCandidate-unlisted : (u : Universe) (ids numbers : List ℕ) (c : ℕ) → length u.needs ≤ c
    → AddsCandidate u ids numbers numbers c
AddsCandidate-unlisted u ids numbers c past = record {
  keeps = λ set is. is;
  covers = λ set listed is. let below = listed c is in absurd (omega (arith, below, past));
}

pub AddsCandidate-push : (u : Universe) (ids old new : List ℕ) (c i : ℕ) → new ≡ old ++ i ∷ []
    → slice_get ids i ≡ Some c → AddsCandidate u ids old new c
AddsCandidate-push u ids old new c i pushed at = record {
  keeps = λ set is. parts set ∙ or_left _ _ is;
  covers = λ set listed is. parts set ∙ or_right _ _ (or_left _ _
      (renumbered_at ids set i c at ∙ is));
}
  where
    parts : (set : ℕ → Bool) → list_any (renumbered ids set) new ≡
        (list_any (renumbered ids set) old || list_any (renumbered ids set) (i ∷ []))
    parts set = ap (list_any (renumbered ids set)) pushed ∙ list_any-append (renumbered ids set) old
        (i ∷ [])

pub Covers-more : (u : Universe) (ids cs old new : List ℕ) (i c : ℕ) → i < length cs
    → c ≡ get_or cs i c
    → Covers u ids (take i cs) old → AddsCandidate u ids old new c
    → Covers u ids (take (i + 1) cs) new
Covers-more u ids cs old new i c within at covers adds set listed is =
    elim (or_cases _ _ (sym (list_any_more set cs i c within) ∙ is)) [
      | inl earlier ↦ adds.keeps set (covers set listed earlier)
      | inr last ↦ adds.covers set listed (ap set at ∙ last)
    ]

-- ---- the theorem

holds_at : (test : Fact → Bool) (facts : List Fact) (i : ℕ) (fact : Fact)
    → list_all test facts ≡ true → slice_get facts i ≡ Some fact → test fact ≡ true
holds_at test [] i fact all at = absurd (omega (arith, slice_get_within [] i fact at))
holds_at test (f ∷ facts) zero fact all at =
    ap test (sym (first_is f facts fact at)) ∙ (and_parts _ _ all).0
holds_at test (f ∷ facts) (suc i) fact all at = holds_at test facts i fact (and_parts _ _ all).1 at

if_inside : (a b : Bool) → (not a || b) ≡ true → a ≡ true → b ≡ true
if_inside true b either is = either
if_inside false b either is = absurd (false≢true is)

not_both : (a b : Bool) → not (a && b) ≡ true → a ≡ true → b ≡ false
not_both true true both is = absurd (false≢true both)
not_both true false both is = refl
not_both false b both is = absurd (false≢true is)

-- a group that a fact needs is met
met_one : (u v : Universe) (p : ℕ) (facts : List Fact) (ids : List ℕ) (set : ℕ → Bool)
    → IsPart u p facts ids v → Respects u facts set
    → (id g : ℕ) → set id ≡ true → IsNeed facts id g → is_met v (renumbered ids set) g ≡ true
met_one u v p facts ids set part respecting id g inside need =
    let fact : Fact = Needs id need.at in
    Pairwise-at (λ f. Covers u ids (candidates u f)) facts v.groups g fact part.groups need.is set
    respecting.is_listed
    (if_inside (set id) (is_met u set (needed u id need.at))
    (holds_at (respects u set) facts g fact respecting.each need.is) inside)

met_all : (u v : Universe) (p : ℕ) (facts : List Fact) (ids : List ℕ) (set : ℕ → Bool)
    → IsPart u p facts ids v → Respects u facts set
    → (id : ℕ) → set id ≡ true → (groups : List ℕ) → All (IsNeed facts id) groups
    → list_all (is_met v (renumbered ids set)) groups ≡ true
met_all u v p facts ids set part respecting id inside [] needs = refl
met_all u v p facts ids set part respecting id inside (g ∷ groups) needs =
    and_from _ _ (met_one u v p facts ids set part respecting id g inside (needs 0 0 (omega arith)))
    (met_all u v p facts ids set part respecting id inside groups
    (λ k d below. needs (suc k) d (omega (arith, below))))

-- what a package excludes by the facts isn't in the set
excluded_one : (u : Universe) (facts : List Fact) (ids : List ℕ) (set : ℕ → Bool)
    → Respects u facts set
    → (id other : ℕ) → set id ≡ true → IsExclusion u facts ids id other
    → renumbered ids set other ≡ false
excluded_one u facts ids set respecting id other inside is =
    renumbered_at ids set other (excluded u id is.at) is.other
    ∙ not_both (set id) (set (excluded u id is.at)) (holds_at (respects u set) facts is.fact
    (Excludes id is.at) respecting.each is.is) inside

excluded_all : (u : Universe) (facts : List Fact) (ids : List ℕ) (set : ℕ → Bool)
    → Respects u facts set
    → (id : ℕ) → set id ≡ true → (others : List ℕ) → All (IsExclusion u facts ids id) others
    → list_any (renumbered ids set) others ≡ false
excluded_all u facts ids set respecting id inside [] all = refl
excluded_all u facts ids set respecting id inside (other ∷ others) all =
    or_from _ _ (excluded_one u facts ids set respecting id other inside (all 0 0 (omega arith)))
    (excluded_all u facts ids set respecting id inside others
    (λ k d below. all (suc k) d (omega (arith, below))))

-- The renumbered set of one that respects the facts is healthy in the universe of the facts.
healthy : (u v : Universe) (p : ℕ) (facts : List Fact) (ids : List ℕ) (set : ℕ → Bool)
    → IsPart u p facts ids v → Respects u facts set → IsHealthy v (renumbered ids set)
healthy u v p facts ids set part respecting i is =
    let here = has_id ids set i is in
    let within = slice_get_within ids i here.id here.at in
    let size = Pairwise-length (λ id. All (IsNeed facts id)) ids v.needs part.needs in
    let below : i < length v.needs = omega (arith, within, size) in
    and_from _ _ (lt-ltb i (length v.needs) below)
    (and_from _ _ (met_all u v p facts ids set part respecting here.id here.inside (row v.needs i)
    (Pairwise-at (λ id. All (IsNeed facts id)) ids v.needs i here.id part.needs here.at))
    (ap not (excluded_all u facts ids set respecting here.id here.inside (row v.excludes i)
    (Pairwise-at (λ id. All (IsExclusion u facts ids id)) ids v.excludes i here.id part.excludes
    here.at))))

pub AreReasons-out : (u v : Universe) (p : ℕ) (facts : List Fact) (ids : List ℕ)
    → list_all (is_fact u) facts ≡ true → IsPart u p facts ids v → IsOut v 0 → AreReasons u p facts
AreReasons-out u v p facts ids are part out = record {
  are_facts = are;
  suffice = λ set respecting.
      sym (renumbered_at ids set 0 p part.first) ∙ out (renumbered ids set)
      (healthy u v p facts ids set part respecting);
}
