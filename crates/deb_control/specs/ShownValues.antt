-- The values that are visited of a paragraph, by the names of their fields. Debian Policy 5.1.
use Rattle.std.specs.Prelude.{◌≡◌, ℕ, List, [], ◌∷◌, Option, None, Some, cond, codes, refl}
use Rattle.std.specs.List.{fold}
use Rattle.std.specs.Str.{bytes_eq}
use Rattle.deb_base.specs.Names.{folded}
use Rattle.deb_field.specs.Values.{ValueMeaning, NameMeans, TextMeans}
use Rattle.deb_control.specs.Visiting.{Visit}

-- values by name: the last one under each, without ASCII case
abbrev pub ShownValues : Type 0
ShownValues = List ℕ → Option ValueMeaning

abbrev pub none_shown : ShownValues
none_shown name = None

-- with the value of one more field
abbrev pub shown_with : List ℕ → ValueMeaning → ShownValues → ShownValues
shown_with name value shown other =
    cond (bytes_eq (folded name) (folded other)) (Some value) (shown other)

-- the values that were visited
abbrev pub shown_of : List Visit → ShownValues
shown_of visited = fold (λ shown visit. shown_with visit.0.name visit.1 shown) none_shown visited

-- for the worked cases: two fields of one name
abbrev two_visits : List Visit
two_visits =
    (record { name = codes "Package"; line = 1; body = codes "bb" }, NameMeans (codes "bb"))
    ∷ (record { name = codes "PACKAGE"; line = 2; body = codes "aa" }, NameMeans (codes "aa")) ∷ []

last_value_without_case : (shown_of two_visits (codes "package") ≡ Some (NameMeans (codes "aa")))
    × (shown_of two_visits (codes "Packages") ≡ None) × (shown_of [] (codes "Package") ≡ None)
last_value_without_case = (refl, refl, refl)

value_before_another : shown_with (codes "Tag") (TextMeans (codes "bb")) (shown_of two_visits)
    (codes "Package") ≡ Some (NameMeans (codes "aa"))
value_before_another = refl
