-- The best paragraph of a package, as paragraphs come one after another.
use Rattle.std.specs.Prelude.{◌≡◌, ℕ, ◌+◌, ◌&&◌, cond, List, [], ◌∷◌, map, Option, None, Some, codes, refl}
use Rattle.std.specs.List.{fold}
use Rattle.std.specs.Option.{option_map}
use Rattle.std.specs.Ordering.{is_gt}
use Rattle.std.specs.Str.{bytes_eq}
use Rattle.deb_version.specs.Order.{version_cmp}
use Rattle.deb_version.specs.Parts.{Meaning as Version}
use Rattle.deb_version.specs.Places.{version_in}
use Rattle.deb_latest.specs.Winning.{Entry, is_considered}

-- of two paragraphs of a package, where there is a first, the second if its version is later
abbrev pub later_of : Option Entry → Entry → Entry
later_of None e = e
later_of (Some best) e = cond (is_gt (version_cmp e.version best.version)) e best

-- the best paragraph of a package after one more paragraph
abbrev pub best_with : Option Version → List ℕ → Option Entry → Entry → Option Entry
best_with limit key best e =
    cond (bytes_eq e.key key && is_considered limit e) (Some (later_of best e)) best

-- the best of a list
abbrev pub best_in : Option Version → List ℕ → List Entry → Option Entry
best_in limit key entries = fold (best_with limit key) None entries

-- the paragraphs are numbered one after another, after so many
abbrev pub AreNumbered : ℕ → List Entry → Type 0
AreNumbered n [] = Unit {0}
AreNumbered n (e ∷ entries) = (e.number ≡ n + 1) × AreNumbered (n + 1) entries

abbrev entry : ℕ → List ℕ → List ℕ → Entry
entry number key version =
    record { number = number; key = key; version = version_in version }

abbrev some : List Entry
some =
    entry 1 (codes "aa") (codes "1.0")
    ∷ entry 2 (codes "bb") (codes "2")
    ∷ entry 3 (codes "aa") (codes "1.0-1")
    ∷ entry 4 (codes "aa") (codes "1.0-01") ∷ []

-- the number of the best of a package
abbrev best_number : Option Version → List ℕ → Option ℕ
best_number limit key = option_map (λ e. e.number) (best_in limit key some)

worked-best : (map (best_number None) (codes "aa" ∷ codes "bb" ∷ codes "cc" ∷ [])
    ≡ Some 3 ∷ Some 2 ∷ None ∷ [])
    × (map (best_number (Some (version_in (codes "1.0-1")))) (codes "aa" ∷ codes "bb" ∷ [])
    ≡ Some 1 ∷ None ∷ [])
worked-best = (refl, refl)

worked-numbered : AreNumbered 0 some
worked-numbered = (refl, (refl, (refl, (refl, tt))))
