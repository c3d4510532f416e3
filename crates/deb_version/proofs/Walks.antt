-- One step of a walk over the cuts of a component, or of two components at once.
use Rattle.deb_version.proofs.Common.{◌≡◌, ℕ, List, [], ◌∷◌, true, false, refl, ap, ◌∙◌, is_ne, ordering_then, Ordering, Less, Equal, Greater, cuts_after, component_cmp, empty_part, part_cmp, Cut, Part, cuts_of, part_of, parts_of, parts_of_cuts}

-- no parts compare as one empty part
left_end : (ps : List Part) → component_cmp [] ps ≡ component_cmp (empty_part ∷ []) ps
left_end [] = refl
left_end (p ∷ ps) = refl

right_end : (ps : List Part) → component_cmp ps [] ≡ component_cmp ps (empty_part ∷ [])
right_end [] = refl
right_end (p ∷ ps) = refl

rests : (a b : List ℕ) → component_cmp (parts_of_cuts (cuts_after a)) (parts_of_cuts (cuts_after b)) ≡ component_cmp (parts_of a) (parts_of b)
rests [] [] = refl
rests [] (y ∷ b) = left_end (parts_of (y ∷ b))
rests (x ∷ a) [] = right_end (parts_of (x ∷ a))
rests (x ∷ a) (y ∷ b) = refl

-- The first cuts decide, and else what follows them.
pub component_cmp-step : (a b after_a after_b : List ℕ) (x y : Cut) → cuts_of a ≡ x ∷ cuts_after after_a → cuts_of b ≡ y ∷ cuts_after after_b
    → component_cmp (parts_of a) (parts_of b) ≡ ordering_then (part_cmp (part_of x) (part_of y)) (component_cmp (parts_of after_a) (parts_of after_b))
component_cmp-step a b after_a after_b x y is_a is_b =
    ap (λ l. component_cmp (parts_of_cuts l) (parts_of b)) is_a ∙ ap (λ l. component_cmp (parts_of_cuts (x ∷ cuts_after after_a)) (parts_of_cuts l)) is_b
    ∙ ap (ordering_then (part_cmp (part_of x) (part_of y))) (rests after_a after_b)

pub then-ne : (o p : Ordering) → is_ne o ≡ true → ordering_then o p ≡ o
then-ne Less p e = refl
then-ne Equal p e = cc e
then-ne Greater p e = refl

pub then-eq : (o p : Ordering) → is_ne o ≡ false → ordering_then o p ≡ p
then-eq Less p e = cc e
then-eq Equal p e = refl
then-eq Greater p e = cc e

pub not_ne : (o : Ordering) → is_ne o ≡ false → o ≡ Equal
not_ne Less e = cc e
not_ne Equal e = refl
not_ne Greater e = cc e
