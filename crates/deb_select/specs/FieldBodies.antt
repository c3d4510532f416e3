-- The bodies of a paragraph's fields as they stand in the file. Debian Policy 5.1.
use Rattle.std.specs.Prelude.{◌≡◌, ℕ, List, [], ◌∷◌, Option, Some, None, Result, Ok, Err, codes}
use Rattle.std.specs.Prelude.{refl}
use Rattle.std.specs.Str.{is_utf8, chars}
use lib.Utf8.{encode}
use Rattle.deb_base.specs.declared.refusal.Refusal.{Refusal}
use Rattle.deb_syntax.specs.Fields.{Field}
use Rattle.deb_syntax.specs.Judging.{judged}
use Rattle.deb_syntax.specs.Lines.{Paragraph}
use Rattle.deb_syntax.specs.Raw.{field_named}

-- the fields that the lines of a paragraph spell; none if a line is refused
abbrev pub fields_or_none : Result (List Field) Refusal → List Field
fields_or_none (Ok fields) = fields
fields_or_none (Err refusal) = []

abbrev pub fields_in : Paragraph → List Field
fields_in p = fields_or_none (judged p.first p.lines)

-- the body of the field with a name, without ASCII case; nothing if there is no such field
abbrev pub body_of : Option Field → List ℕ
body_of None = []
body_of (Some field) = field.body

abbrev pub body_named : List ℕ → List Field → List ℕ
body_named name fields = body_of (field_named name fields)

-- a paragraph of two fields, and one with a line that is refused
abbrev sample : Paragraph
sample = record { first = 7; lines = codes "package:aa " ∷ codes "VERSION:\t0:1.00 " ∷ [] }

abbrev refused : Paragraph
refused = record { first = 7; lines = codes "Version: 1" ∷ codes "b" ∷ [] }

worked-fields : (fields_in sample
    ≡ record { name = codes "package"; line = 7; body = codes "aa" }
    ∷ record { name = codes "VERSION"; line = 8; body = codes "0:1.00" } ∷ [])
    × (fields_in refused ≡ [])
unfolding is_utf8 chars encode
worked-fields = (refl, refl)

worked-bodies : (body_named (codes "Version") (fields_in sample) ≡ codes "0:1.00")
    × (body_named (codes "Source") (fields_in sample) ≡ [])
unfolding is_utf8 chars encode
worked-bodies = (refl, refl)
