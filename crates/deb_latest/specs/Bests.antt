-- What a map from packages has of the best paragraph of each.
use Rattle.std.specs.Prelude.{◌≡◌, ℕ, Bool, true, false, cond, List, [], ◌∷◌, Option, None, Some, Vec, refl}
use Rattle.std.specs.Option.{option_map}
use Rattle.std.specs.Ordering.{is_gt}
use Rattle.std.specs.Str.{bytes_eq}
use Rattle.indexmap.specs.IndexMap.{IndexMap, get_by}
use Rattle.deb_version.specs.Keys.{byte_order, version_key}
use Rattle.deb_version.specs.Parts.{Meaning as Version}
use Rattle.deb_latest.specs.BestOf.{best_in}
use Rattle.deb_latest.specs.Winning.{Entry}
use Rattle.deb_latest.specs.declared.bests.Best.{Best}

-- what is kept of a paragraph: the key of its version, and its number
abbrev pub kept_of : Entry → List ℕ × ℕ
kept_of e = (version_key e.version, e.number)

-- what a map has under a package
abbrev pub best_kept : Best → List ℕ × ℕ
best_kept best = (best.version.items, best.number)

abbrev pub best_under : {A S : Type 0} → IndexMap (Vec ℕ A) Best S → List ℕ
    → Option (List ℕ × ℕ)
best_under bests key = option_map best_kept (get_by (λ k. bytes_eq key k.items) bests)

-- The map has the best of each package, and of no other.
abbrev pub AreBests : {A S : Type 0} → Option Version → List Entry
    → IndexMap (Vec ℕ A) Best S → Type 0
AreBests limit entries bests =
    (key : List ℕ) → best_under bests key ≡ option_map kept_of (best_in limit key entries)

-- whether a version comes after what is kept, if there is anything
abbrev pub is_later_kept : Option (List ℕ × ℕ) → List ℕ → Bool
is_later_kept None version = true
is_later_kept (Some best) version = is_gt (byte_order version best.0)

-- after one more is put: the one with the later version
abbrev pub later_kept : Option (List ℕ × ℕ) → List ℕ × ℕ → List ℕ × ℕ
later_kept None kept = kept
later_kept (Some best) kept = cond (is_gt (byte_order kept.0 best.0)) kept best

-- whether a key of a version comes before that of the limit, if there is one
abbrev pub is_before_kept : Option (List ℕ) → List ℕ → Bool
is_before_kept None version = true
is_before_kept (Some limit) version = is_gt (byte_order limit version)

worked-before : (is_before_kept None (2 ∷ []) ≡ true)
    × (is_before_kept (Some (2 ∷ [])) (2 ∷ []) ≡ false)
    × (is_before_kept (Some (2 ∷ [])) (1 ∷ []) ≡ true)
worked-before = (refl, refl, refl)

worked-later : (is_later_kept None [] ≡ true)
    × (is_later_kept (Some (1 ∷ [], 4)) (1 ∷ []) ≡ false)
    × (is_later_kept (Some (1 ∷ [], 4)) (2 ∷ []) ≡ true)
worked-later = (refl, refl, refl)

worked-kept : (later_kept None (1 ∷ [], 2) ≡ (1 ∷ [], 2))
    × (later_kept (Some (1 ∷ [], 1)) (1 ∷ [], 2) ≡ (1 ∷ [], 1))
    × (later_kept (Some (1 ∷ [], 1)) (1 ∷ 0 ∷ [], 2) ≡ (1 ∷ 0 ∷ [], 2))
worked-kept = (refl, refl, refl)
