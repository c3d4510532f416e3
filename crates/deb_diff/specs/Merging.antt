-- Two paragraphs of which the first fields were compared.
use Rattle.std.specs.Prelude.{◌≡◌, ℕ, cond, List, [], ◌∷◌, ◌++◌, codes, refl}
use Rattle.std.specs.Str.{bytes_eq}
use Rattle.deb_syntax.specs.Meaning.{Entries}
use Rattle.deb_control.specs.Canonical.{paragraph_text}
use Rattle.deb_diff.specs.Cuts.{AreCut}
use Rattle.deb_diff.specs.Fields.{differing}

-- the name of a field that both have, if it differs
abbrev pub differing_text : List ℕ → List ℕ → List ℕ → List (List ℕ)
differing_text name body other = cond (bytes_eq body other) [] (name ∷ [])

-- These names, and those of the fields left that differ, are those of all fields that do.
pub record Merges (entries others : Entries) (names : List (List ℕ)) (rest other_rest : List ℕ)
    : Type 0 where
  pub left : Entries
  pub other_left : Entries
  pub cut : AreCut left
  pub other_cut : AreCut other_left
  pub text_is : rest ≡ paragraph_text left
  pub other_text_is : other_rest ≡ paragraph_text other_left
  pub differ : names ++ differing left other_left ≡ differing entries others

-- a field that differs, and one that doesn't
worked-differing_text : (differing_text (codes "A") (codes ": 1\n") (codes ": 2\n")
    ≡ codes "A" ∷ [])
    × (differing_text (codes "A") (codes ": 1\n") (codes ": 1\n") ≡ [])
worked-differing_text = (refl, refl)
