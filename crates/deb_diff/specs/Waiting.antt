-- The numbers of elements that aren't paired yet, under their keys.
use Rattle.std.specs.Prelude.{◌≡◌, ℕ, List, [], ◌∷◌, length, map, Option, None, Some, codes, refl}
use Rattle.std.proofs.Common.{ap, ◌∙◌}
use Rattle.std.specs.Map.{lookup}
use Rattle.std.specs.Option.{option_map_or}
use Rattle.std.specs.BTreeMap.{BTreeMap, get_by, is_at}
use Rattle.std.specs.Borrow.{Bor}
use Rattle.std.specs.Cmp.Lexicographic.{slice_cmp}
use Rattle.std.specs.Ordering.{nat_cmp}
use Rattle.std.specs.declared.collections.VecDeque.{VecDeque}
use Rattle.deb_diff.specs.declared.waiting.Waiting.{Waiting}
use Rattle.deb_base.specs.Literals.{lent}
use Rattle.std.specs.declared.alloc.Global.{Global}

-- those under a key, of a map with keys of one length
abbrev pub numbers_in : {B : Type 0} → BTreeMap (Bor (List ℕ)) (VecDeque ℕ B) → List ℕ → List ℕ
numbers_in numbers key =
    option_map_or (λ v. v.items) (get_by (λ k. slice_cmp nat_cmp key k.now) numbers) []

abbrev pub numbers_under : Waiting → List ℕ → List ℕ
numbers_under waiting key =
    option_map_or (λ numbers. numbers_in numbers key)
    (get_by (nat_cmp (length key)) waiting.lengths) []

abbrev pub first_of : {X : Type 0} → List X → Option X
first_of [] = None
first_of (x ∷ xs) = Some x

abbrev pub rest_of : {X : Type 0} → List X → List X
rest_of [] = []
rest_of (x ∷ xs) = xs

worked-parts : (first_of {X = ℕ} (1 ∷ 2 ∷ []) ≡ Some 1)
    × (rest_of {X = ℕ} (1 ∷ 2 ∷ []) ≡ 2 ∷ [])
    × (first_of {X = ℕ} [] ≡ None) × (rest_of {X = ℕ} [] ≡ [])
worked-parts = (refl, refl, refl, refl)

-- the numbers under a key among a map's entries
abbrev found : {B : Type 0} → List (Bor (List ℕ) × VecDeque ℕ B) → List ℕ → List ℕ
found entries key =
    option_map_or (λ v. v.items) (lookup (is_at (λ k. slice_cmp nat_cmp key k.now)) entries) []

-- those under a key, and none under another of its length or of another length
worked-numbers_under : (waiting : Waiting) (numbers : BTreeMap (Bor (List ℕ)) (VecDeque ℕ Global))
    (v : VecDeque ℕ Global) → waiting.lengths.entries ≡ (1, numbers) ∷ []
    → numbers.entries ≡ (lent (codes "a"), v) ∷ [] → v.items ≡ 4 ∷ 7 ∷ []
    → map (numbers_under waiting) (codes "a" ∷ codes "b" ∷ codes "aa" ∷ [])
    ≡ (4 ∷ 7 ∷ []) ∷ [] ∷ [] ∷ []
worked-numbers_under waiting numbers v lengths entries items =
    ap (λ l. map (λ key. option_map_or (λ numbers. numbers_in numbers key)
    (lookup (is_at (nat_cmp (length key))) l) [])
    (codes "a" ∷ codes "b" ∷ codes "aa" ∷ [])) lengths
    ∙ ap (λ l. found l (codes "a") ∷ found l (codes "b") ∷ [] ∷ []) entries
    ∙ ap (λ l. l ∷ [] ∷ [] ∷ []) items
