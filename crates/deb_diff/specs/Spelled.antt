-- The text by which a file spells the version of a paragraph. Debian Policy 5.1 and 5.6.12.
use Rattle.std.specs.Prelude.{◌≡◌, ℕ, List, [], Option, None, Some, Result, Ok, Err, codes, refl}
use Rattle.std.specs.Str.{is_utf8, chars}
use lib.Utf8.{encode}
use Rattle.deb_base.specs.Bodies.{paragraph_limit, file_limit}
use Rattle.deb_base.specs.declared.refusal.Refusal.{Refusal}
use Rattle.deb_syntax.specs.Answers.{Seen, next_answer}
use Rattle.deb_syntax.specs.Fields.{Field}
use Rattle.deb_syntax.specs.Raw.{field_named}

-- the text of a field, without spaces and tabs at its ends; nothing if there is no such field
abbrev pub text_in : Option Field → List ℕ
text_in None = []
text_in (Some field) = field.body

-- the text by which the version is spelled among the fields of a paragraph
abbrev pub spelled_in : List Field → List ℕ
spelled_in fields = text_in (field_named (codes "Version") fields)

-- the fields of a paragraph, if there is one
abbrev pub fields_of_seen : Result (Option Seen) Refusal → List Field
fields_of_seen (Ok None) = []
fields_of_seen (Ok (Some seen)) = seen.fields
fields_of_seen (Err refusal) = []

-- the fields of a file's paragraph that comes after so many, as they are in the file
abbrev pub fields_after : List ℕ → ℕ → List Field
fields_after text count = fields_of_seen (next_answer text count)

-- Of two paragraphs the second spells its version otherwise than the canonical text does, under a
-- name in lower case and after two spaces.
abbrev file : List ℕ
file = codes "Package: aa\nVersion: 1.0\n\nPackage: bb\nversion:  01.0-0 \n"

worked-spelled : (spelled_in (fields_after file 0) ≡ codes "1.0")
    × (spelled_in (fields_after file 1) ≡ codes "01.0-0")
    × (fields_after file 2 ≡ []) × (spelled_in [] ≡ [])
    × (fields_after (codes "Package aa\n") 0 ≡ [])
unfolding file_limit paragraph_limit is_utf8 chars encode
worked-spelled = (refl, refl, refl, refl, refl)
