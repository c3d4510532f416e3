-- Paragraphs whose fields are spelled alike. Debian Policy 5.1.
use Rattle.std.specs.Prelude.{◌≡◌, ◌≤◌, ℕ, List, [], ◌∷◌, length, map, IsTrue, codes, refl}
use Rattle.std.proofs.lemmas.Bool.{leb-true}
use Rattle.deb_base.specs.Bodies.{paragraph_limit}
use Rattle.deb_base.specs.declared.doc.Doc.{Doc}
use Rattle.deb_base.specs.declared.doc.Doc.TheVariants.{Any}
use Rattle.deb_syntax.specs.Answers.{Seen}
use Rattle.deb_syntax.specs.Fields.{Field}
use Rattle.deb_control.specs.Checking.{is_passing}

-- a field without the number of its line, and several
abbrev pub spelled : Field → Field
spelled field = record { name = field.name; line = 0; body = field.body }

abbrev pub spelled_in : List Field → List Field
spelled_in fields = map spelled fields

-- The paragraph passes by itself with this canonical text, which isn't too long.
abbrev pub HasPassingText : Doc → Seen → List ℕ → Type 0
HasPassingText doc seen text = IsTrue (is_passing doc seen text) × (length text ≤ paragraph_limit)

-- for the worked case: a field at two lines
abbrev at_second : Field
at_second = record { name = codes "Tag"; line = 2; body = codes "a" }

abbrev at_fifth : Field
at_fifth = record { name = codes "Tag"; line = 5; body = codes "a" }

spelled_at_other_lines : (spelled_in (at_second ∷ []) ≡ spelled_in (at_fifth ∷ []))
    × (spelled_in (at_fifth ∷ []) ≡ record { name = codes "Tag"; line = 0; body = codes "a" } ∷ [])
    × (spelled_in [] ≡ [])
spelled_at_other_lines = (refl, refl, refl)

-- a paragraph without fields, where none is asked for
text_of_none : HasPassingText Any (record { first = 4; fields = [] }) []
unfolding paragraph_limit
text_of_none = (refl, leb-true 0 16777216 refl)
