-- Which elements of a list aren't paired yet.
use Rattle.std.specs.Prelude.{◌≡◌, ℕ, ◌+◌, Bool, true, false, cond, List, [], ◌∷◌, length, map, Option, codes, refl}
use Rattle.std.specs.List.{filter}
use Rattle.std.specs.Option.{option_map}
use Rattle.std.specs.Str.{bytes_eq}
use Rattle.deb_diff.specs.Items.{Item}
use Rattle.deb_diff.specs.Pairing.{all_but, earliest}
use Rattle.deb_diff.specs.Waiting.{numbers_under}
use Rattle.deb_diff.specs.declared.pool.Pool.{Pool}

-- the elements that wait, each with its number, where the first has number n
abbrev pub pick : {X : Type 0} → ℕ → List X → List Bool → List (ℕ × X)
pick n [] flags = []
pick n (x ∷ xs) [] = []
pick n (x ∷ xs) (waits ∷ flags) =
    cond waits ((n, x) ∷ pick (n + 1) xs flags) (pick (n + 1) xs flags)

-- the elements that wait
abbrev pub waiting_in : {X : Type 0} → List X → List Bool → List X
waiting_in xs flags = map (λ e. e.1) (pick 0 xs flags)

abbrev pub left_in : {X : Type 0} → List X → Pool → List (ℕ × X)
left_in xs pool = pick 0 xs pool.waits.items

-- the numbers of the keys that are this one
abbrev pub numbers_of : List ℕ → List (ℕ × List ℕ) → List ℕ
numbers_of key left = map (λ e. e.0) (filter (λ e. bytes_eq e.1 key) left)

-- The pool is one of elements with these keys.
pub record IsPoolOf (keys : List (List ℕ)) (pool : Pool) : Type 0 where
  pub length_is : length pool.waits.items ≡ length keys
  pub numbers : (key : List ℕ) →
      numbers_under pool.waiting key ≡ numbers_of key (left_in keys pool)

-- The earliest with a key was taken away, and this is its number.
pub record Takes (items : List Item) (key : Item → List ℕ) (wanted : List ℕ) (old : Pool)
    (number : Option ℕ) (new : Pool) : Type 0 where
  pub found : number ≡ option_map (λ e. e.0) (earliest (λ e. key e.1) wanted (left_in items old))
  pub left : left_in items new ≡ all_but (λ e. key e.1) wanted (left_in items old)
  pub is_pool : IsPoolOf (map key items) new

worked-pick : pick 3 (codes "a" ∷ codes "b" ∷ codes "c" ∷ []) (true ∷ false ∷ true ∷ [])
    ≡ (3, codes "a") ∷ (5, codes "c") ∷ []
worked-pick = refl

worked-waiting_in : waiting_in (codes "a" ∷ codes "b" ∷ codes "c" ∷ []) (true ∷ false ∷ true ∷ [])
    ≡ codes "a" ∷ codes "c" ∷ []
worked-waiting_in = refl

-- several, one and none
worked-numbers_of : map
    (λ key. numbers_of key ((0, codes "a") ∷ (2, codes "b") ∷ (5, codes "a") ∷ []))
    (codes "a" ∷ codes "b" ∷ codes "c" ∷ []) ≡ (0 ∷ 5 ∷ []) ∷ (2 ∷ []) ∷ [] ∷ []
worked-numbers_of = refl
