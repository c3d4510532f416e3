-- Which fields of the table a paragraph has. Debian Policy 5.3 and 5.4.
use Rattle.std.specs.Prelude.{◌≡◌, ℕ, Bool, true, false, List, [], ◌∷◌, codes, refl}
use Rattle.std.specs.List.{list_all}
use Rattle.deb_base.specs.Kinds.{known_row}
use Rattle.deb_syntax.specs.Fields.{Field}
use Rattle.deb_syntax.specs.Raw.{has_field_in}

-- whether a field of each of these rows of the table is among the fields
abbrev pub have_rows : List Field → List ℕ → Bool
have_rows fields rows = list_all (λ row. has_field_in row fields) rows

-- for the worked cases: the rows of two fields
abbrev rows_of_both : List ℕ
rows_of_both = known_row (codes "Version") ∷ known_row (codes "Tag") ∷ []

rows_of_fields : (have_rows (record { name = codes "Tag"; line = 1; body = [] }
    ∷ record { name = codes "version"; line = 2; body = [] } ∷ []) rows_of_both ≡ true)
    × (have_rows (record { name = codes "Tag"; line = 1; body = [] } ∷ []) rows_of_both ≡ false)
    × (have_rows [] [] ≡ true)
unfolding known_row
rows_of_fields = (refl, refl, refl)
