-- What is appended for each item of a list in turn.
use Rattle.std.proofs.Common.{◌≡◌, ℕ, ◌+◌, ◌<◌, List, [], ◌∷◌, ◌++◌, get_or, length, map, take, Result, OnOk, subst, refl, sym, ap, ◌∙◌, append_assoc, append-nil}
use Rattle.std.proofs.lemmas.List.{map-append}
use Rattle.std.specs.List.{flat_map}
use Rattle.deb_select.proofs.Collected.{one_more_taken}

flat_map-push : {Y T : Type 0} (f : Y → List T) (ys : List Y) (y : Y) → flat_map f (ys ++ y ∷ []) ≡ flat_map f ys ++ f y
flat_map-push f [] y = append-nil (f y)
flat_map-push f (first ∷ ys) y = ap (λ l. f first ++ l) (flat_map-push f ys y) ∙ sym (append_assoc (f first) (flat_map f ys) (f y))

-- some after others
pub more_after : {T : Type 0} (start old new first rest : List T) → old ≡ start ++ first → new ≡ old ++ rest → new ≡ start ++ (first ++ rest)
more_after start old new first rest before is = is ∙ ap (λ l. l ++ rest) before ∙ append_assoc start first rest

pub last_after : {T R E : Type 0} (r : Result R E) (start old new first rest : List T) → old ≡ start ++ first → OnOk r (new ≡ old ++ rest) → OnOk r (new ≡ start ++ (first ++ rest))
last_after r start old new first rest before is = subst (λ l. OnOk r (new ≡ l)) (ap (λ l. l ++ rest) before ∙ append_assoc start first rest) is

pub map-fused : {X Y Z : Type 0} (f : Y → Z) (g : X → Y) (xs : List X) → map (λ x. f (g x)) xs ≡ map f (map g xs)
map-fused f g [] = refl
map-fused f g (x ∷ xs) = ap (λ l. f (g x) ∷ l) (map-fused f g xs)

module _ {X Y T : Type 0} (f : Y → List T) (h : X → Y) where
  pub one_pushed : (start old new : List T) (xs : List X) (i : ℕ) (x : X) → new ≡ old ++ f (h x) → i < length xs → x ≡ get_or xs i x → old ≡ start ++ flat_map f (map h (take i xs)) → new ≡ start ++ flat_map f (map h (take (i + 1) xs))
  one_pushed start old new xs i x is below item so_far =
      is ∙ ap (λ l. l ++ f (h x)) so_far ∙ append_assoc start (flat_map f (map h (take i xs))) (f (h x))
      ∙ ap (λ l. start ++ l)
      (sym (flat_map-push f (map h (take i xs)) (h x))
      ∙ ap (flat_map f) (sym (map-append h (take i xs) (x ∷ [])) ∙ ap (map h) (sym (one_more_taken xs i x below item))))
