-- The partners of elements in a pool.
use Rattle.std.specs.Prelude.{◌≡◌, ℕ, ◌+◌, List, [], ◌∷◌, map, Option, None, Some, codes, refl}
use Rattle.std.specs.Option.{option_map}
use Rattle.deb_diff.specs.Items.{Item}
use Rattle.deb_diff.specs.Pairing.{all_but, earliest}
use Rattle.deb_diff.specs.Pools.{IsPoolOf, left_in}
use Rattle.deb_diff.specs.declared.pool.Pool.{Pool}

-- the numbers of the partners of keys, each the earliest that has the key and isn't taken
abbrev pub partners_of : (Item → List ℕ) → List (List ℕ) → List (ℕ × Item) → List (Option ℕ)
partners_of key [] left = []
partners_of key (wanted ∷ keys) left =
    option_map (λ e. e.0) (earliest (λ e. key e.1) wanted left)
    ∷ partners_of key keys (all_but (λ e. key e.1) wanted left)

-- and what is left of them
abbrev pub after_keys : (Item → List ℕ) → List (List ℕ) → List (ℕ × Item) → List (ℕ × Item)
after_keys key [] left = left
after_keys key (wanted ∷ keys) left = after_keys key keys (all_but (λ e. key e.1) wanted left)

-- These are the partners of the keys, and they were taken away.
pub record Pairs (items : List Item) (key : Item → List ℕ) (keys : List (List ℕ)) (old : Pool)
    (found : List (Option ℕ)) (new : Pool) : Type 0 where
  pub partners : found ≡ partners_of key keys (left_in items old)
  pub left : left_in items new ≡ after_keys key keys (left_in items old)
  pub is_pool : IsPoolOf (map key items) new

-- Below, two paragraphs with the name x have the numbers 4 and 6 in their pool.
abbrev named : ℕ → List ℕ → ℕ × Item
named number name = (
  number,
  record {
    number = number + 1;
    name = name;
    version = codes "1";
    spelled = codes "1";
    architecture = codes "all";
    bodies = [];
  },
)

abbrev left : List (ℕ × Item)
left = named 4 (codes "x") ∷ named 5 (codes "y") ∷ named 6 (codes "x") ∷ []

-- three of a key where two are left, and a key that none has
worked-partners : (partners_of (λ item. item.name)
    (codes "x" ∷ codes "z" ∷ codes "x" ∷ codes "x" ∷ []) left
    ≡ Some 4 ∷ None ∷ Some 6 ∷ None ∷ [])
    × (after_keys (λ item. item.name)
    (codes "x" ∷ codes "z" ∷ codes "x" ∷ codes "x" ∷ []) left
    ≡ named 5 (codes "y") ∷ [])
    × (after_keys (λ item. item.name) [] left ≡ left)
worked-partners = (refl, refl, refl)
