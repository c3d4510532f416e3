-- The paragraphs that win are the best ones of their packages.
use Rattle.std.proofs.Common.{◌≡◌, ℕ, ◌+◌, ◌<◌, ◌≤◌, Bool, true, false, ◌&&◌, ◌||◌, not, cond, eqb, List, [], ◌∷◌, ◌++◌, map, Option, None, Some, refl, sym, ap, ◌∙◌, inl, inr, subst, arith, append-nil, append_assoc}
use Rattle.std.specs.List.{AllByRecursion, filter, fold, list_any}
use Rattle.std.specs.Str.{bytes_eq}
use Rattle.std.proofs.lemmas.Bool.{cases_Bool, eqb-true, false≢true}
use Rattle.std.proofs.lemmas.Slice.Eq.{bytes_eq-Decides}
use Rattle.deb_version.specs.Parts.{Meaning as Version}
use Rattle.deb_latest.specs.BestOf.{AreNumbered, best_in, best_with}
use Rattle.deb_latest.specs.Members.{Member}
use Rattle.deb_latest.specs.Winning.{Entry, beats, is_better, is_considered, winners, wins}
use Rattle.deb_latest.proofs.BestOf.{HoldsBest, IsBest, member-none, one-more}
use Rattle.deb_latest.proofs.Ordered.{same-number}

abbrev UpTo : ℕ → List Entry → Type 0
UpTo n entries = AllByRecursion (λ e. e.number ≤ n) entries

up_more : (n : ℕ) (xs : List Entry) (e : Entry) → UpTo n xs → e.number ≡ n + 1 → UpTo (n + 1) (xs ++ e ∷ [])
up_more n [] e all is = (omega (arith, is), tt)
up_more n (x ∷ xs) e all is = (omega (arith, all.0), up_more n xs e all.1 is)

below : (n : ℕ) (xs : List Entry) (e : Entry) → UpTo n xs → e.number ≡ n + 1 → AllByRecursion (λ x. x.number < e.number) xs
below n [] e all is = tt
below n (x ∷ xs) e all is = (omega (arith, all.0, is), below n xs e all.1 is)

module _ (limit : Option Version) where
  fold-holds : (key : List ℕ) (n : ℕ) (done rest : List Entry) (o : Option Entry) → UpTo n done → AreNumbered n rest → HoldsBest limit key done o → HoldsBest limit key (done ++ rest) (fold (best_with limit key) o rest)
  fold-holds key n done [] o up numbered holds = subst (λ l. HoldsBest limit key l o) (sym (append-nil done)) holds
  fold-holds key n done (e ∷ rest) o up numbered holds =
      subst (λ l. HoldsBest limit key l (fold (best_with limit key) (best_with limit key o e) rest)) (append_assoc done (e ∷ []) rest)
      (fold-holds key (n + 1) (done ++ e ∷ []) rest (best_with limit key o e) (up_more n done e up numbered.0) numbered.1 (one-more limit key done e o (below n done e up numbered.0) holds))

  pub best-of : (key : List ℕ) (n : ℕ) (entries : List Entry) → AreNumbered n entries → HoldsBest limit key entries (best_in limit key entries)
  best-of key n entries numbered = fold-holds key n [] entries None tt numbered refl

  pub best-holds : (key : List ℕ) (entries : List Entry) → AreNumbered 0 entries → HoldsBest limit key entries (best_in limit key entries)
  best-holds key entries numbered = best-of key 0 entries numbered

  -- one that passes a test is a member
  pub any-member : (f : Entry → Bool) (xs : List Entry) → list_any f xs ≡ true → (e : Entry) × Member e xs × (f e ≡ true)
  any-member f [] some = absurd (false≢true some)
  any-member f (x ∷ xs) some = elim (cases_Bool (f x)) [
    | inl passes ↦ (x, inl refl, passes)
    | inr fails ↦ let more = any-member f xs (sym (ap (λ v. v || list_any f xs) fails) ∙ some) in (more.0, inr more.1, more.2)
  ]

  pub member-any : (f : Entry → Bool) (e : Entry) (xs : List Entry) → Member e xs → f e ≡ true → list_any f xs ≡ true
  member-any f e [] in_it passes = absurd in_it
  member-any f e (x ∷ xs) (inl is) passes = ap (λ v. v || list_any f xs) (ap f is ∙ passes)
  member-any f e (x ∷ xs) (inr more) passes = or-true (f x) (list_any f xs) (member-any f e xs more passes)
    where
      or-true : (a b : Bool) → b ≡ true → (a || b) ≡ true
      or-true true b h = refl
      or-true false b h = h

  -- a number is among those of the elements that pass a test
  among-filter : (k : ℕ) (p : Entry → Bool) (xs : List Entry) → list_any (eqb k) (map (λ e. e.number) (filter p xs)) ≡ list_any (λ e. eqb k e.number && p e) xs
  among-filter k p [] = refl
  among-filter k p (x ∷ xs) = go (p x) ∙ ap (λ v. (eqb k x.number && p x) || v) (among-filter k p xs)
    where
      go : (v : Bool) → list_any (eqb k) (map (λ e. e.number) (cond v (x ∷ filter p xs) (filter p xs))) ≡ ((eqb k x.number && v) || list_any (eqb k) (map (λ e. e.number) (filter p xs)))
      go true = ap (λ v. v || list_any (eqb k) (map (λ e. e.number) (filter p xs))) (sym (and-true (eqb k x.number)))
        where
          and-true : (a : Bool) → (a && true) ≡ a
          and-true true = refl
          and-true false = refl
      go false = ap (λ v. v || list_any (eqb k) (map (λ e. e.number) (filter p xs))) (sym (and-false (eqb k x.number)))
        where
          and-false : (a : Bool) → (a && false) ≡ false
          and-false true = refl
          and-false false = refl

  pub and-parts : (a b : Bool) → (a && b) ≡ true → (a ≡ true) × (b ≡ true)
  and-parts true b h = (refl, h)
  and-parts false b h = absurd (false≢true h)

  pub not-true : (a : Bool) → not a ≡ true → a ≡ false
  not-true true h = absurd (false≢true h)
  not-true false h = refl

  -- what wins is the best of its package, by its number
  pub win-best : (entries : List Entry) → AreNumbered 0 entries → (f : Entry) → Member f entries → wins limit entries f ≡ true → (b : Entry) × (best_in limit f.key entries ≡ Some b) × (b.number ≡ f.number)
  win-best entries numbered f in_it winning = go (best_in limit f.key entries) refl (best-holds f.key entries numbered)
    where
      parts : (is_considered limit f ≡ true) × (not (list_any (λ e. beats limit e f) entries) ≡ true)
      parts = and-parts (is_considered limit f) (not (list_any (λ e. beats limit e f) entries)) winning

      same_key : (k l : List ℕ) → k ≡ l → bytes_eq k l ≡ true
      same_key k l is = (bytes_eq-Decides k l).1 is

      third : (a c d : Bool) → (a && (c && d)) ≡ false → a ≡ true → c ≡ true → d ≡ false
      third true true d h s t = h
      third true false d h s t = absurd (false≢true t)
      third false c d h s t = absurd (false≢true s)

      of_it : (a c : Bool) → (a && c) ≡ false → a ≡ true → c ≡ true → ⊥
      of_it true true h s t = false≢true (sym h)
      of_it true false h s t = false≢true t
      of_it false c h s t = false≢true s

      go : (o : Option Entry) → best_in limit f.key entries ≡ o → HoldsBest limit f.key entries o → (b : Entry) × (best_in limit f.key entries ≡ Some b) × (b.number ≡ f.number)
      go None is none = absurd (of_it (bytes_eq f.key f.key) (is_considered limit f) (member-none (λ e. bytes_eq e.key f.key && is_considered limit e) f entries none in_it) (same_key f.key f.key refl) parts.0)
      go (Some b) is best = (
        b,
        is,
        same-number b f
            (third (bytes_eq b.key f.key) (is_considered limit b) (is_better b f) (member-none (λ e. beats limit e f) b entries (not-true _ parts.1) best.member) (same_key b.key f.key best.of) best.considered)
            (third (bytes_eq f.key b.key) (is_considered limit f) (is_better f b) (member-none (λ e. beats limit e b) f entries best.unbeaten in_it) (same_key f.key b.key (sym best.of)) parts.0),
      )

  pub among-best : (k : ℕ) (entries : List Entry) → AreNumbered 0 entries → list_any (eqb k) (winners limit entries) ≡ true → (key : List ℕ) × (b : Entry) × (best_in limit key entries ≡ Some b) × (b.number ≡ k)
  among-best k entries numbered among =
      let found = any-member (λ e. eqb k e.number && wins limit entries e) entries (sym (among-filter k (wins limit entries) entries) ∙ among) in
      let passes = and-parts (eqb k found.0.number) (wins limit entries found.0) found.2 in
      let best = win-best entries numbered found.0 found.1 passes.1 in
      let is : found.0.number ≡ k = sym (eqb-true k found.0.number passes.0) in
      (found.0.key, best.0, best.1, best.2 ∙ is)

  pub best-among : (k : ℕ) (key : List ℕ) (b : Entry) (entries : List Entry) → AreNumbered 0 entries → best_in limit key entries ≡ Some b → b.number ≡ k → list_any (eqb k) (winners limit entries) ≡ true
  best-among k key b entries numbered is number =
      let best : IsBest limit key entries b = subst (HoldsBest limit key entries) is (best-holds key entries numbered) in
      among-filter k (wins limit entries) entries
      ∙ member-any (λ e. eqb k e.number && wins limit entries e) b entries best.member
      (both (eqb k b.number) (is_considered limit b) (list_any (λ e. beats limit e b) entries) (eqb-is k b.number number) best.considered best.unbeaten)
    where
      eqb-is : (j m : ℕ) → m ≡ j → eqb j m ≡ true
      eqb-is j m is = grind (arith, is)

      both : (a c d : Bool) → a ≡ true → c ≡ true → d ≡ false → (a && (c && not d)) ≡ true
      both true true d s t u = ap not u
      both true false d s t u = absurd (false≢true t)
      both false c d s t u = absurd (false≢true s)
