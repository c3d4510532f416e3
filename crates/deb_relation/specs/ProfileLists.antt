-- Restriction lists whose items name profiles, and their texts from an item on.
use Rattle.std.specs.Prelude.{◌≡◌, ℕ, Bool, true, false, not, ◌&&◌, List, [], ◌∷◌, ◌++◌, codes, refl}
use Rattle.std.specs.List.{list_all}
use Rattle.deb_base.specs.PackageNames.{is_profile_name}
use Rattle.deb_relation.specs.Meaning.{Restrictions}
use Rattle.deb_relation.specs.Reading.{is_empty_list}
use Rattle.deb_relation.specs.Texts.{item_text}

-- whether there are items, and all of them name a profile
abbrev pub are_profiles : Restrictions → Bool
are_profiles items = not (is_empty_list items) && list_all (λ item. is_profile_name item.1) items

-- the first byte of a text and a byte after it
abbrev pub first_of : List ℕ → ℕ → ℕ
first_of [] end = end
first_of (b ∷ bs) end = b

-- the byte after an item, by the items that follow: a space, or `>`
abbrev pub end_before : Restrictions → ℕ
end_before [] = 62
end_before (item ∷ items) = 32

-- the text of a list without its `<`, and what is left of it from an item on
abbrev pub ended_text : Restrictions → List ℕ
ended_text [] = []
ended_text (item ∷ items) = item_text item ++ end_before items ∷ ended_text items

worked-profiles : (are_profiles [] ≡ false)
    × (are_profiles ((true, codes "b") ∷ (false, codes "a") ∷ []) ≡ true)
    × (are_profiles ((true, codes "b") ∷ (false, codes "a b") ∷ []) ≡ false)
worked-profiles = (refl, refl, refl)

worked-first : (first_of (codes "ab") 62 ≡ 97) × (first_of [] 62 ≡ 62)
worked-first = (refl, refl)

worked-end : (end_before [] ≡ 62) × (end_before ((false, codes "a") ∷ []) ≡ 32)
worked-end = (refl, refl)

worked-ended : ended_text ((true, codes "b") ∷ (false, codes "a") ∷ []) ≡ codes "!b a>"
worked-ended = refl
