-- Which paragraphs have the latest version of their package. deb-version(7), "Sorting algorithm";
-- which of equal versions is taken is this project's own.
use Rattle.std.specs.Prelude.{◌≡◌, ℕ, ◌&&◌, ◌||◌, Bool, true, false, not, nat_lt, List, [], ◌∷◌, map, Option, None, Some, codes, refl}
use Rattle.std.specs.List.{filter, list_any}
use Rattle.std.specs.Ordering.{is_eq, is_gt, is_lt}
use Rattle.std.specs.Str.{bytes_eq}
use Rattle.deb_version.specs.Order.{version_cmp}
use Rattle.deb_version.specs.Parts.{Meaning as Version}
use Rattle.deb_version.specs.Places.{version_in}

-- a paragraph: its number, what tells its package from others, and its version
pub record Entry : Type 0 where
  pub number : ℕ
  pub key : List ℕ
  pub version : Version

-- A paragraph is considered: its version is earlier than the limit, if there is one.
abbrev pub is_considered : Option Version → Entry → Bool
is_considered None e = true
is_considered (Some limit) e = is_lt (version_cmp e.version limit)

-- One paragraph comes before another of the same package: its version is later, or the versions are
-- equal and it stands earlier.
abbrev pub is_better : Entry → Entry → Bool
is_better e f =
    is_gt (version_cmp e.version f.version)
    || (is_eq (version_cmp e.version f.version) && nat_lt e.number f.number)

-- A considered paragraph beats another.
abbrev pub beats : Option Version → Entry → Entry → Bool
beats limit e f = bytes_eq e.key f.key && (is_considered limit e && is_better e f)

-- A paragraph wins among others: it is considered, and none of them beats it.
abbrev pub wins : Option Version → List Entry → Entry → Bool
wins limit entries f = is_considered limit f && not (list_any (λ e. beats limit e f) entries)

-- the paragraphs that win, in their order, and their numbers
abbrev pub winners_in : Option Version → List Entry → List Entry
winners_in limit entries = filter (wins limit entries) entries

abbrev pub winners : Option Version → List Entry → List ℕ
winners limit entries = map (λ e. e.number) (winners_in limit entries)

abbrev entry : ℕ → List ℕ → List ℕ → Entry
entry number key version =
    record { number = number; key = key; version = version_in version }

-- aa in 1.0, 1.0-1 and again 1.0-1; bb in 2~rc1, then 1:0, then 2; cc twice in spellings of one
-- version
abbrev some : List Entry
some =
    entry 1 (codes "aa") (codes "1.0")
    ∷ entry 2 (codes "bb") (codes "2~rc1")
    ∷ entry 3 (codes "aa") (codes "1.0-1")
    ∷ entry 4 (codes "bb") (codes "1:0")
    ∷ entry 5 (codes "aa") (codes "1.0-1")
    ∷ entry 6 (codes "bb") (codes "2")
    ∷ entry 7 (codes "cc") (codes "0:1.0-0")
    ∷ entry 8 (codes "cc") (codes "1.00") ∷ []

worked-winners : winners None some ≡ 3 ∷ 4 ∷ 7 ∷ []
worked-winners = refl

-- before 1:0 bb wins in 2; before 2 it wins in 2~rc1, since the limit itself isn't considered;
-- before 1.0 none is left
worked-before : (winners (Some (version_in (codes "1:0"))) some ≡ 3 ∷ 6 ∷ 7 ∷ [])
    × (winners (Some (version_in (codes "2"))) some ≡ 2 ∷ 3 ∷ 7 ∷ [])
    × (winners (Some (version_in (codes "1.0-1"))) some ≡ 1 ∷ 7 ∷ [])
    × (winners (Some (version_in (codes "1.0"))) some ≡ [])
worked-before = (refl, refl, refl, refl)

-- nothing wins of nothing; the order of the list doesn't matter, the numbers do
worked-order : (winners None [] ≡ [])
    × (winners None (entry 2 (codes "aa") (codes "1") ∷ entry 1 (codes "aa") (codes "1") ∷ [])
    ≡ 1 ∷ [])
worked-order = (refl, refl)

worked-beats : (beats None (entry 1 (codes "aa") (codes "2")) (entry 2 (codes "aa") (codes "1"))
    ≡ true)
    × (beats None (entry 1 (codes "aa") (codes "2")) (entry 2 (codes "bb") (codes "1")) ≡ false)
    × (beats (Some (version_in (codes "2"))) (entry 1 (codes "aa") (codes "2"))
    (entry 2 (codes "aa") (codes "1")) ≡ false)
    × (is_better (entry 1 (codes "aa") (codes "1")) (entry 1 (codes "aa") (codes "1")) ≡ false)
worked-beats = (refl, refl, refl, refl)
