-- What became of old paragraphs, by the numbers of new ones.
use Rattle.std.specs.Prelude.{◌≡◌, ℕ, ◌+◌, cond, is_some, List, [], ◌∷◌, map, Option, Some, None, codes, refl}
use Rattle.std.specs.Option.{option_map}
use Rattle.deb_diff.specs.Items.{Item}
use Rattle.deb_diff.specs.Pairing.{all_but, earliest}
use Rattle.deb_diff.specs.Pools.{IsPoolOf, left_in}
use Rattle.deb_diff.specs.declared.pool.Pool.{Pool}
use Rattle.deb_diff.specs.declared.became.Became.{Became}
use Rattle.deb_diff.specs.declared.became.Became.TheVariants as became

abbrev pub became_of : Option ℕ → Option ℕ → Became
became_of (Some number) near = became.Changed number
became_of None (Some number) = became.Upgraded number
became_of None None = became.Nothing

-- what is left of those that can be upgraded to
abbrev pub left_after : (Item → List ℕ) → Option ℕ → List ℕ → List (ℕ × Item) → List (ℕ × Item)
left_after key partner wanted left =
    cond (is_some partner) left (all_but (λ e. key e.1) wanted left)

abbrev pub near_of : (Item → List ℕ) → List ℕ → List (ℕ × Item) → Option ℕ
near_of key wanted left = option_map (λ e. e.0) (earliest (λ e. key e.1) wanted left)

abbrev pub all_of : (Item → List ℕ) → List (Option ℕ) → List (List ℕ) → List (ℕ × Item)
    → List Became
all_of key [] keys left = []
all_of key (partner ∷ partners) [] left = []
all_of key (partner ∷ partners) (wanted ∷ keys) left =
    became_of partner (near_of key wanted left)
    ∷ all_of key partners keys (left_after key partner wanted left)

abbrev pub left_after_all : (Item → List ℕ) → List (Option ℕ) → List (List ℕ)
    → List (ℕ × Item) → List (ℕ × Item)
left_after_all key [] keys left = left
left_after_all key (partner ∷ partners) [] left = left
left_after_all key (partner ∷ partners) (wanted ∷ keys) left =
    left_after_all key partners keys (left_after key partner wanted left)

pub record BecomesOne (items : List Item) (key : Item → List ℕ) (partner : Option ℕ)
    (wanted : List ℕ) (old : Pool) (made : Became) (new : Pool) : Type 0 where
  pub became : made ≡ became_of partner (near_of key wanted (left_in items old))
  pub left : left_in items new ≡ left_after key partner wanted (left_in items old)
  pub is_pool : IsPoolOf (map key items) new

pub record Becomes (items : List Item) (key : Item → List ℕ) (partners : List (Option ℕ))
    (keys : List (List ℕ)) (old : Pool) (made : List Became) (new : Pool) : Type 0 where
  pub became : made ≡ all_of key partners keys (left_in items old)
  pub left : left_in items new ≡ left_after_all key partners keys (left_in items old)
  pub is_pool : IsPoolOf (map key items) new

-- Below, two new paragraphs with the name x have the numbers 4 and 6 in their pool.
abbrev named : ℕ → List ℕ → ℕ × Item
named number name = (
  number,
  record {
    number = number + 1;
    name = name;
    version = codes "1";
    spelled = codes "1";
    architecture = codes "all";
    bodies = [];
  },
)

abbrev left : List (ℕ × Item)
left = named 4 (codes "x") ∷ named 5 (codes "y") ∷ named 6 (codes "x") ∷ []

worked-became : (became_of (Some 3) (Some 4) ≡ became.Changed 3)
    × (became_of (Some 3) None ≡ became.Changed 3)
    × (became_of None (Some 4) ≡ became.Upgraded 4) × (became_of None None ≡ became.Nothing)
worked-became = (refl, refl, refl, refl)

worked-near : (near_of (λ item. item.name) (codes "x") left ≡ Some 4)
    × (near_of (λ item. item.name) (codes "z") left ≡ None)
worked-near = (refl, refl)

-- one with a partner takes none, and one without takes the earliest
worked-left_after : (left_after (λ item. item.name) (Some 3) (codes "x") left ≡ left)
    × (left_after (λ item. item.name) None (codes "x") left
    ≡ named 5 (codes "y") ∷ named 6 (codes "x") ∷ [])
    × (left_after (λ item. item.name) None (codes "z") left ≡ left)
worked-left_after = (refl, refl, refl)

-- four of a name, of which the second has a partner, and one of another name
worked-all : (all_of (λ item. item.name) (None ∷ Some 3 ∷ None ∷ None ∷ None ∷ [])
    (codes "x" ∷ codes "x" ∷ codes "z" ∷ codes "x" ∷ codes "x" ∷ []) left
    ≡ became.Upgraded 4 ∷ became.Changed 3 ∷ became.Nothing ∷ became.Upgraded 6
    ∷ became.Nothing ∷ [])
    × (left_after_all (λ item. item.name) (None ∷ Some 3 ∷ None ∷ None ∷ None ∷ [])
    (codes "x" ∷ codes "x" ∷ codes "z" ∷ codes "x" ∷ codes "x" ∷ []) left
    ≡ named 5 (codes "y") ∷ [])
worked-all = (refl, refl)
