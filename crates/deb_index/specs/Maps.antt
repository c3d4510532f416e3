-- The numbers of packages under a name, as maps from names to numbers have them.
use Rattle.std.specs.Prelude.{◌≡◌, ℕ, ◌-◌, ◌==◌, ◌&&◌, nat_lt, Bool, true, false, cond, length, List, [], ◌∷◌, ◌++◌, map, Option, None, Some, Vec, refl}
use Rattle.std.specs.List.{slice_index}
use Rattle.std.specs.Option.{option_map}
use Rattle.std.specs.Str.{bytes_eq}
use Rattle.indexmap.specs.IndexMap.{IndexMap, get_by}
use Rattle.deb_index.specs.declared.names.Names.{Names}

-- the last number under a name, and the list under it, which only a name with several numbers has
abbrev pub last_under : Names → List ℕ → Option ℕ
last_under names name = get_by (λ k. bytes_eq name k.items) names.last

abbrev pub list_under : {A B S : Type 0} → IndexMap (Vec ℕ A) (Vec ℕ B) S → List ℕ
    → Option (List ℕ)
list_under lists name = option_map (λ v. v.items) (get_by (λ k. bytes_eq name k.items) lists)

-- the numbers of a list, or else the last number alone, or none
abbrev pub numbers_with : Option (List ℕ) → Option ℕ → List ℕ
numbers_with (Some list) last = list
numbers_with None (Some n) = n ∷ []
numbers_with None None = []

-- the numbers under a name
abbrev pub numbers_under : Names → List ℕ → List ℕ
numbers_under names name = numbers_with (list_under names.lists name) (last_under names name)

-- a number is the last of a list
abbrev pub is_last : ℕ → List ℕ → Bool
is_last n xs = nat_lt 0 (length xs) && (slice_index xs (length xs - 1) == n)

-- a number after others, unless it is the last of them
abbrev pub put_last : ℕ → List ℕ → List ℕ
put_last n xs = cond (is_last n xs) xs (xs ++ n ∷ [])

-- a list ends in the last number; where there is no list, nothing is asked
abbrev pub ends_in_last : Option (List ℕ) → Option ℕ → Bool
ends_in_last None last = true
ends_in_last (Some list) None = false
ends_in_last (Some list) (Some n) = is_last n list

-- the list under each name ends in the last number under it
abbrev pub EndInLast : Names → Type 0
EndInLast names =
    (name : List ℕ) → ends_in_last (list_under names.lists name) (last_under names name) ≡ true

-- A number was put after those under a name, unless it is the last of them, and other names stay.
pub record PutsLast (name : List ℕ) (n : ℕ) (old new : Names) : Type 0 where
  pub lists : EndInLast new
  pub numbers : (other : List ℕ) → numbers_under new other
      ≡ cond (bytes_eq name other) (put_last n (numbers_under old other)) (numbers_under old other)

worked-put : (put_last 1 [] ≡ 1 ∷ []) × (put_last 2 (1 ∷ []) ≡ 1 ∷ 2 ∷ [])
    × (put_last 2 (1 ∷ 2 ∷ []) ≡ 1 ∷ 2 ∷ [])
worked-put = (refl, refl, refl)

-- no number, one, and a list
worked-with : (numbers_with None None ≡ []) × (numbers_with None (Some 3) ≡ 3 ∷ [])
    × (numbers_with (Some (1 ∷ 3 ∷ [])) (Some 3) ≡ 1 ∷ 3 ∷ [])
worked-with = (refl, refl, refl)

-- no list, a list of no number, one that ends in the last number, and one that doesn't
worked-ends : map (λ list. ends_in_last list (Some 3))
    (None ∷ Some (1 ∷ 3 ∷ []) ∷ Some (3 ∷ 4 ∷ []) ∷ [])
    ≡ true ∷ true ∷ false ∷ []
worked-ends = refl

worked-no-last : ends_in_last (Some (1 ∷ 3 ∷ [])) None ≡ false
worked-no-last = refl
