-- What changed between two files (this project's own).
use Rattle.std.specs.Prelude.{◌≡◌, ℕ, Bool, true, false, cond, is_some, List, [], ◌∷◌, map, Option, Some, None, codes, refl}
use Rattle.std.specs.Fmt.{decimal, digits}
use Rattle.std.specs.List.{concat, filter}
use Rattle.deb_version.specs.Faults.{first_fault}
use Rattle.deb_diff.specs.Items.{Item, release, whole}
use Rattle.deb_diff.specs.Pairing.{all_but, earliest, without, without_keys}
use Rattle.deb_diff.specs.Ranks.{Placing, rank, version_of}

-- What became of a paragraph of the old file that the new one doesn't have: nothing; one of the
-- same name, version and architecture; or one of another version, later or earlier.
pub data Fate : Type 0 where
  Removed : Fate
  Changed : Item → Fate
  Upgraded : Item → Fate

abbrev pub fate_of : Option Item → Option Item → Fate
fate_of (Some same) near = Changed same
fate_of None (Some near) = Upgraded near
fate_of None None = Removed

abbrev pub placing_of : Item → Placing
placing_of item =
    record {
      name = item.name;
      architecture = item.architecture;
      version = version_of item.version;
      number = item.number;
    }

-- The place of a paragraph among these: its name, its architecture, and how many of these have
-- both and a later version, or an equal one and a lower number.
abbrev pub place : List Item → Item → List ℕ
place items item =
    concat (item.name ∷ codes " " ∷ item.architecture ∷ codes " "
    ∷ decimal (rank (map placing_of items) (placing_of item)) ∷ [])

-- The fates of old paragraphs, in their order. Each is changed to the earliest new one of its name,
-- version and architecture that isn't taken; if there is none, it is upgraded to the one of those
-- that no old one was changed to which has its place.
abbrev pub fates : (Item → List ℕ) → (Item → List ℕ) → List Item → List Item → List Item
    → List (Item × Fate)
fates place_of new_place [] same near = []
fates place_of new_place (x ∷ xs) same near =
    (x, fate_of (earliest release (release x) same) (earliest new_place (place_of x) near))
    ∷ fates place_of new_place xs (all_but release (release x) same)
    (cond (is_some (earliest release (release x) same)) near
    (all_but new_place (place_of x) near))

pub record Difference : Type 0 where
  pub fates : List (Item × Fate)
  pub added : List Item

-- The difference of paragraphs of which none is in both files, given also those of either file
-- whose name, version and architecture aren't left in the other one.
abbrev pub difference_by_place : List Item → List Item → List Item → List Item → Difference
difference_by_place old new old_left new_left =
    record {
      fates = fates (place old_left) (place new_left) old new new_left;
      added = without_keys (place new_left) new_left (map (place old_left) old_left);
    }

abbrev pub difference_of_others : List Item → List Item → Difference
difference_of_others old new =
    difference_by_place old new (without release old new) (without release new old)

-- Equal paragraphs are taken away in pairs, the earliest first on both sides; of the others this is
-- what became of the old ones, and the new ones that no old one became.
abbrev pub difference : List Item → List Item → Difference
difference old new = difference_of_others (without whole old new) (without whole new old)

abbrev pub is_removed : Item × Fate → Bool
is_removed (item, Removed) = true
is_removed (item, Changed other) = false
is_removed (item, Upgraded other) = false

-- the old paragraphs that were removed
abbrev pub removed : Difference → List Item
removed difference = map (λ fate. fate.0) (filter is_removed difference.fates)

-- For the worked cases: a paragraph by its number, name, version and one field.
abbrev item : ℕ → List ℕ → List ℕ → List ℕ → Item
item number name version body =
    record {
      number = number;
      name = name;
      version = version;
      spelled = version;
      architecture = codes "all";
      bodies =
          (codes "Depends", body) ∷ (codes "Package", name) ∷ (codes "Version", version) ∷ [];
    }

abbrev fate_numbers : Item × Fate → ℕ × Option (Bool × ℕ)
fate_numbers (old, Removed) = (old.number, None)
fate_numbers (old, Changed new) = (old.number, Some (true, new.number))
fate_numbers (old, Upgraded new) = (old.number, Some (false, new.number))

-- The numbers of the old paragraphs with those that they were changed (true) or upgraded (false)
-- to, and the numbers of the added ones.
abbrev numbers : Difference → List (ℕ × Option (Bool × ℕ)) × List ℕ
numbers difference =
    (map fate_numbers difference.fates, map (λ added. added.number) difference.added)

abbrev x : Item
x = item 1 (codes "x") (codes "1") []

abbrev y : Item
y = item 2 (codes "y") (codes "1") []

-- moved paragraphs; nothing in common; one file empty
worked-moved : (numbers (difference (x ∷ y ∷ [])
    (item 1 (codes "y") (codes "1") [] ∷ item 2 (codes "x") (codes "1") [] ∷ [])) ≡ ([], []))
    × (numbers (difference (x ∷ []) (y ∷ [])) ≡ ((1, None) ∷ [], 2 ∷ []))
    × (numbers (difference (x ∷ y ∷ []) []) ≡ ((1, None) ∷ (2, None) ∷ [], []))
    × (numbers (difference [] (x ∷ y ∷ [])) ≡ ([], 1 ∷ 2 ∷ []))
unfolding digits first_fault
worked-moved = (refl, refl, refl, refl)

-- another field of the same version, and another version
worked-changed : (numbers (difference (x ∷ []) (item 5 (codes "x") (codes "1") (codes "y") ∷ []))
    ≡ ((1, Some (true, 5)) ∷ [], []))
    × (numbers (difference (x ∷ []) (item 5 (codes "x") (codes "2") [] ∷ []))
    ≡ ((1, Some (false, 5)) ∷ [], []))
unfolding digits first_fault
worked-changed = (refl, refl)

-- Two and three of one key. Equal ones are taken away first, whatever their order: of a, b and b,
-- c, a it is b, not a, that is changed to b's successor.
abbrev of_x : ℕ → List ℕ → Item
of_x number body = item number (codes "x") (codes "1") body

worked-duplicates : (numbers (difference
    (of_x 1 (codes "a") ∷ of_x 2 (codes "b") ∷ [])
    (of_x 1 (codes "b") ∷ of_x 2 (codes "c") ∷ of_x 3 (codes "d") ∷ []))
    ≡ ((1, Some (true, 2)) ∷ [], 3 ∷ []))
    × (numbers (difference
    (of_x 1 (codes "a") ∷ of_x 2 (codes "b") ∷ [])
    (of_x 1 (codes "c") ∷ of_x 2 (codes "a") ∷ []))
    ≡ ((2, Some (true, 1)) ∷ [], []))
    × (numbers (difference
    (of_x 1 (codes "a") ∷ of_x 2 (codes "a") ∷ of_x 3 (codes "a") ∷ [])
    (of_x 1 (codes "a") ∷ of_x 2 (codes "a") ∷ []))
    ≡ ((3, None) ∷ [], []))
    × (numbers (difference
    (of_x 1 (codes "a") ∷ of_x 2 (codes "a") ∷ [])
    (of_x 1 (codes "a") ∷ of_x 2 (codes "a") ∷ of_x 3 (codes "a") ∷ []))
    ≡ ([], 3 ∷ []))
    × (numbers (difference
    (of_x 1 (codes "a") ∷ of_x 2 (codes "b") ∷ of_x 3 (codes "c") ∷ [])
    (of_x 1 (codes "d") ∷ of_x 2 (codes "e") ∷ []))
    ≡ ((1, Some (true, 1)) ∷ (2, Some (true, 2)) ∷ (3, None) ∷ [], []))
unfolding digits first_fault
worked-duplicates = (refl, refl, refl, refl, refl)

-- A version of its own goes before another one: the second is changed to 3, so that the first is
-- upgraded to 4.
worked-versions : numbers (difference
    (item 1 (codes "x") (codes "1") [] ∷ item 2 (codes "x") (codes "2") [] ∷ [])
    (item 3 (codes "x") (codes "2") (codes "y") ∷ item 4 (codes "x") (codes "3") [] ∷ []))
    ≡ ((1, Some (false, 4)) ∷ (2, Some (true, 3)) ∷ [], [])
unfolding digits first_fault
worked-versions = refl

-- 1 is changed to 4, and doesn't take 3 away too, so that 2 is upgraded to it.
worked-changed_first : numbers (difference
    (item 1 (codes "x") (codes "2") [] ∷ item 2 (codes "x") (codes "1") [] ∷ [])
    (item 3 (codes "x") (codes "3") [] ∷ item 4 (codes "x") (codes "2") (codes "y") ∷ []))
    ≡ ((1, Some (true, 4)) ∷ (2, Some (false, 3)) ∷ [], [])
unfolding digits first_fault
worked-changed_first = refl

-- The latest old version is paired with the latest new one, whatever their order, and the next one
-- with the next one; of 1.9 and 1.10 it is 1.9 that is removed, and of 2 and 3 it is 2 that is
-- added.
abbrev of_version : ℕ → List ℕ → Item
of_version number version = item number (codes "x") version []

worked-latest : (numbers (difference
    (of_version 1 (codes "1.9") ∷ of_version 2 (codes "1.10") ∷ [])
    (of_version 1 (codes "1.10-1") ∷ [])) ≡ ((1, None) ∷ (2, Some (false, 1)) ∷ [], []))
    × (numbers (difference
    (of_version 1 (codes "1.10") ∷ of_version 2 (codes "1.9") ∷ [])
    (of_version 1 (codes "2") ∷ of_version 2 (codes "3") ∷ []))
    ≡ ((1, Some (false, 2)) ∷ (2, Some (false, 1)) ∷ [], []))
    × (numbers (difference (of_version 1 (codes "4") ∷ [])
    (of_version 1 (codes "2") ∷ of_version 2 (codes "3") ∷ []))
    ≡ ((1, Some (false, 2)) ∷ [], 1 ∷ []))
unfolding digits first_fault
worked-latest = (refl, refl, refl)

-- Of equal versions the earlier paragraph is paired first. One of another name or architecture is
-- paired for itself.
worked-equal_versions : (numbers (difference
    (of_x 1 (codes "a") ∷ of_x 2 (codes "b") ∷ []) (of_version 1 (codes "2") ∷ []))
    ≡ ((1, Some (false, 1)) ∷ (2, None) ∷ [], []))
    × (numbers (difference (of_version 1 (codes "2") ∷ [])
    (of_x 1 (codes "a") ∷ of_x 2 (codes "b") ∷ []))
    ≡ ((1, Some (false, 1)) ∷ [], 2 ∷ []))
    × (numbers (difference
    (item 1 (codes "y") (codes "1") [] ∷ of_version 2 (codes "1") ∷ [])
    (of_version 1 (codes "2") ∷ item 2 (codes "y") (codes "2") [] ∷ []))
    ≡ ((1, Some (false, 2)) ∷ (2, Some (false, 1)) ∷ [], []))
unfolding digits first_fault
worked-equal_versions = (refl, refl, refl)

-- 1 is changed to 2, so that 3 is added: also if its version is later.
worked-added : (numbers (difference (of_x 1 (codes "a") ∷ [])
    (of_x 2 (codes "b") ∷ of_version 3 (codes "3") ∷ []))
    ≡ ((1, Some (true, 2)) ∷ [], 3 ∷ []))
    × (numbers (difference (of_x 1 (codes "a") ∷ [])
    (of_x 2 (codes "b") ∷ of_x 3 (codes "c") ∷ []))
    ≡ ((1, Some (true, 2)) ∷ [], 3 ∷ []))
unfolding digits first_fault
worked-added = (refl, refl)

worked-place : (place (x ∷ []) x ≡ codes "x all 0")
    × (place (of_version 7 (codes "2") ∷ []) x ≡ codes "x all 1")
    × (place (y ∷ []) x ≡ codes "x all 0")
unfolding digits first_fault
worked-place = (refl, refl, refl)

worked-removed : map (λ old. old.number) (removed (difference
    (x ∷ item 2 (codes "z") (codes "1") [] ∷ y ∷ [])
    (item 1 (codes "x") (codes "2") [] ∷ []))) ≡ 2 ∷ 2 ∷ []
unfolding digits first_fault
worked-removed = refl

worked-fates : (fate_of (Some x) (Some y) ≡ Changed x) × (fate_of (Some x) None ≡ Changed x)
    × (fate_of None (Some y) ≡ Upgraded y) × (fate_of None None ≡ Removed)
worked-fates = (refl, refl, refl, refl)
