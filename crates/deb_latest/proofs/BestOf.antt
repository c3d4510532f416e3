-- The best paragraph of a package is the one that wins.
use Rattle.std.proofs.Common.{◌≡◌, ℕ, ◌<◌, Bool, true, false, ◌&&◌, ◌||◌, cond, List, [], ◌∷◌, ◌++◌, Option, None, Some, refl, sym, ap, ◌∙◌, inl, inr, subst}
use Rattle.std.specs.List.{AllByRecursion, list_any}
use Rattle.std.specs.Ordering.{is_gt}
use Rattle.std.specs.Str.{bytes_eq}
use Rattle.std.proofs.lemmas.Bool.{cases_Bool, false≢true}
use Rattle.std.proofs.lemmas.List.Folds.{list_any-append}
use Rattle.std.proofs.lemmas.Slice.Eq.{bytes_eq-Decides}
use Rattle.deb_version.specs.Order.{version_cmp}
use Rattle.deb_version.specs.Parts.{Meaning as Version}
use Rattle.deb_latest.specs.BestOf.{best_with, later_of}
use Rattle.deb_latest.specs.Members.{Member}
use Rattle.deb_latest.specs.Winning.{Entry, beats, is_better, is_considered}
use Rattle.deb_latest.proofs.Ordered.{later-number, not-better, not-itself}

pub member-append : (e : Entry) (xs ys : List Entry) → Member e xs → Member e (xs ++ ys)
member-append e [] ys in_it = absurd in_it
member-append e (x ∷ xs) ys (inl is) = inl is
member-append e (x ∷ xs) ys (inr more) = inr (member-append e xs ys more)

pub member-last : (e : Entry) (xs : List Entry) → Member e (xs ++ e ∷ [])
member-last e [] = inl refl
member-last e (x ∷ xs) = inr (member-last e xs)

pub member-all : (P : Entry → Type 0) (e : Entry) (xs : List Entry) → AllByRecursion P xs → Member e xs → P e
member-all P e [] all in_it = absurd in_it
member-all P e (x ∷ xs) all (inl is) = subst P is all.0
member-all P e (x ∷ xs) all (inr more) = member-all P e xs all.1 more

pub member-none : (f : Entry → Bool) (e : Entry) (xs : List Entry) → list_any f xs ≡ false → Member e xs → f e ≡ false
member-none f e [] none in_it = absurd in_it
member-none f e (x ∷ xs) none (inl is) = ap f (sym is) ∙ or-first (f x) (list_any f xs) none
  where
    or-first : (a b : Bool) → (a || b) ≡ false → a ≡ false
    or-first true b h = h
    or-first false b h = refl
member-none f e (x ∷ xs) none (inr more) = member-none f e xs (or-second (f x) (list_any f xs) none) more
  where
    or-second : (a b : Bool) → (a || b) ≡ false → b ≡ false
    or-second true b h = absurd (false≢true (sym h))
    or-second false b h = h

-- where no element passes one test, none passes another that asks more
any-weaker : (f g : Entry → Bool) → ((x : Entry) → f x ≡ false → g x ≡ false) → (xs : List Entry) → list_any f xs ≡ false → list_any g xs ≡ false
any-weaker f g weaker [] none = refl
any-weaker f g weaker (x ∷ xs) none = both (f x) (list_any f xs) (g x) (list_any g xs) none (weaker x) (any-weaker f g weaker xs)
  where
    both : (a b c d : Bool) → (a || b) ≡ false → (a ≡ false → c ≡ false) → (b ≡ false → d ≡ false) → (c || d) ≡ false
    both true b c d h s t = absurd (false≢true (sym h))
    both false b c d h s t = ap (λ v. v || d) (s refl) ∙ t h

-- of this package, and considered
abbrev is_of : Option Version → List ℕ → Entry → Bool
is_of limit key e = bytes_eq e.key key && is_considered limit e

-- The best of a list: if there is none, none is considered of this package; else it is one of the list, of this package, is considered, and none of the list beats it.
pub record IsBest (limit : Option Version) (key : List ℕ) (entries : List Entry) (b : Entry) : Type 0 where
  pub member : Member b entries
  pub of : b.key ≡ key
  pub considered : is_considered limit b ≡ true
  pub unbeaten : list_any (λ e. beats limit e b) entries ≡ false

abbrev pub HoldsBest : Option Version → List ℕ → List Entry → Option Entry → Type 0
HoldsBest limit key entries None = list_any (is_of limit key) entries ≡ false
HoldsBest limit key entries (Some b) = IsBest limit key entries b

none-more : (f : Entry → Bool) (xs : List Entry) (e : Entry) → list_any f xs ≡ false → f e ≡ false → list_any f (xs ++ e ∷ []) ≡ false
none-more f xs e none one = list_any-append f xs (e ∷ []) ∙ ap (λ v. v || (f e || false)) none ∙ ap (λ v. v || false) one

and-first : (a b : Bool) → (a && b) ≡ true → a ≡ true
and-first true b h = refl
and-first false b h = h

and-second : (a b : Bool) → (a && b) ≡ true → b ≡ true
and-second true b h = h
and-second false b h = absurd (false≢true h)

module _ (limit : Option Version) (key : List ℕ) (entries : List Entry) (e : Entry) where
  -- one that isn't of this package, or isn't considered, changes nothing
  other : (o : Option Entry) → is_of limit key e ≡ false → HoldsBest limit key entries o → HoldsBest limit key (entries ++ e ∷ []) o
  other None apart none = none-more (is_of limit key) entries e none apart
  other (Some b) apart best =
      record {
        member = member-append b entries (e ∷ []) best.member;
        of = best.of;
        considered = best.considered;
        unbeaten = none-more (λ x. beats limit x b) entries e best.unbeaten (ap (λ k. bytes_eq e.key k && (is_considered limit e && is_better e b)) best.of ∙ go (bytes_eq e.key key) (is_considered limit e) (is_better e b) apart);
      }
    where
      go : (a c d : Bool) → (a && c) ≡ false → (a && (c && d)) ≡ false
      go true true d h = absurd (false≢true (sym h))
      go true false d h = refl
      go false c d h = refl

  of_key : is_of limit key e ≡ true → e.key ≡ key
  of_key is = (bytes_eq-Decides e.key key).0 (and-first _ _ is)

  -- it is the first, or its version is later than that of the best so far
  replaced : is_of limit key e ≡ true → list_any (λ x. beats limit x e) entries ≡ false → IsBest limit key (entries ++ e ∷ []) e
  replaced is none =
      record {
        member = member-last e entries;
        of = of_key is;
        considered = and-second (bytes_eq e.key key) _ is;
        unbeaten = none-more (λ x. beats limit x e) entries e none (go (bytes_eq e.key e.key) (is_considered limit e) (is_better e e) (not-itself e));
      }
    where
      go : (a c d : Bool) → d ≡ false → (a && (c && d)) ≡ false
      go true true d h = h
      go true false d h = refl
      go false c d h = refl

  first : is_of limit key e ≡ true → list_any (is_of limit key) entries ≡ false → list_any (λ x. beats limit x e) entries ≡ false
  first is none = any-weaker (is_of limit key) (λ x. beats limit x e) (λ x h. ap (λ k. bytes_eq x.key k && (is_considered limit x && is_better x e)) (of_key is) ∙ go (bytes_eq x.key key) (is_considered limit x) (is_better x e) h) entries none
    where
      go : (a c d : Bool) → (a && c) ≡ false → (a && (c && d)) ≡ false
      go true true d h = absurd (false≢true (sym h))
      go true false d h = refl
      go false c d h = refl

  later : (b : Entry) → is_of limit key e ≡ true → IsBest limit key entries b → is_gt (version_cmp e.version b.version) ≡ true → list_any (λ x. beats limit x e) entries ≡ false
  later b is best gt =
      any-weaker (λ x. beats limit x b) (λ x. beats limit x e)
      (λ x h. ap (λ k. bytes_eq x.key k && (is_considered limit x && is_better x e)) (of_key is ∙ sym best.of) ∙ go (bytes_eq x.key b.key) (is_considered limit x) (is_better x b) (is_better x e) h (λ isnt. not-better x b e isnt gt))
      entries best.unbeaten
    where
      go : (a c p q : Bool) → (a && (c && p)) ≡ false → (p ≡ false → q ≡ false) → (a && (c && q)) ≡ false
      go true true p q h s = s h
      go true false p q h s = refl
      go false c p q h s = refl

  -- else the best stays
  kept : (b : Entry) → IsBest limit key entries b → b.number < e.number → is_gt (version_cmp e.version b.version) ≡ false → IsBest limit key (entries ++ e ∷ []) b
  kept b best below isnt =
      record {
        member = member-append b entries (e ∷ []) best.member;
        of = best.of;
        considered = best.considered;
        unbeaten = none-more (λ x. beats limit x b) entries e best.unbeaten (go (bytes_eq e.key b.key) (is_considered limit e) (is_better e b) (later-number e b below isnt));
      }
    where
      go : (a c d : Bool) → d ≡ false → (a && (c && d)) ≡ false
      go true true d h = h
      go true false d h = refl
      go false c d h = refl

  -- one more paragraph, with a greater number than all before
  pub one-more : (o : Option Entry) → AllByRecursion (λ x. x.number < e.number) entries → HoldsBest limit key entries o → HoldsBest limit key (entries ++ e ∷ []) (best_with limit key o e)
  one-more o below holds = elim (cases_Bool (is_of limit key e)) [
    | inl is ↦ subst (HoldsBest limit key (entries ++ e ∷ [])) (sym (ap (λ v. cond v (Some (later_of o e)) o) is)) (taken o holds is)
    | inr apart ↦ subst (HoldsBest limit key (entries ++ e ∷ [])) (sym (ap (λ v. cond v (Some (later_of o e)) o) apart)) (other o apart holds)
  ]
    where
      taken : (o : Option Entry) → HoldsBest limit key entries o → is_of limit key e ≡ true → IsBest limit key (entries ++ e ∷ []) (later_of o e)
      taken None none is = replaced is (first is none)
      taken (Some b) best is = elim (cases_Bool (is_gt (version_cmp e.version b.version))) [
        | inl gt ↦ subst (IsBest limit key (entries ++ e ∷ [])) (sym (ap (λ v. cond v e b) gt)) (replaced is (later b is best gt))
        | inr isnt ↦ subst (IsBest limit key (entries ++ e ∷ [])) (sym (ap (λ v. cond v e b) isnt)) (kept b best (member-all (λ x. x.number < e.number) b entries below best.member) isnt)
      ]
