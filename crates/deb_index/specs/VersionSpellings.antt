-- The texts by which the paragraphs of a file spell their versions. Debian Policy 5.1 and 5.6.12.
use Rattle.std.specs.Prelude.{◌≡◌, ℕ, ◌-◌, ◌==◌, nat_eq, cond, if◌then◌else◌, length, List, [], ◌∷◌, map, Option, None, Some, Result, Ok, Err, codes, refl}
use Rattle.std.specs.List.{slice_get}
use Rattle.std.specs.Str.{bytes_eq, is_utf8, chars}
use lib.Utf8.{encode}
use Rattle.deb_base.specs.Bodies.{paragraph_limit}
use Rattle.deb_base.specs.declared.refusal.Refusal.{Refusal}
use Rattle.deb_syntax.specs.Fields.{Field}
use Rattle.deb_syntax.specs.Judging.{judged}
use Rattle.deb_syntax.specs.Lines.{Paragraph, paragraphs_of}
use Rattle.deb_syntax.specs.Raw.{field_named}

abbrev pub body_or_nothing : Option Field → List ℕ
body_or_nothing None = []
body_or_nothing (Some field) = field.body

-- the body of Version among fields, without the spaces and tabs at both ends; nothing where there
-- is no such field
abbrev pub version_body : List Field → List ℕ
version_body fields = body_or_nothing (field_named (codes "Version") fields)

-- among those that are judged of lines; nothing where a line is refused
abbrev pub body_judged : Result (List Field) Refusal → List ℕ
body_judged (Ok fields) = version_body fields
body_judged (Err refusal) = []

-- the text of a paragraph's version, and those of all paragraphs of a file, in its order
abbrev pub version_spelling : Paragraph → List ℕ
version_spelling p = body_judged (judged p.first p.lines)

abbrev pub version_spellings : List ℕ → List (List ℕ)
version_spellings text = map version_spelling (paragraphs_of text)

-- the text with a number, which is counted from 1
abbrev pub spelling_at : ℕ → List (List ℕ) → Option (List ℕ)
spelling_at number texts = if nat_eq number 0 then None else slice_get texts (number - 1)

-- Of a text that spells a version this is kept besides the canonical text: all, unless it is that.
abbrev pub text_besides : List ℕ → List ℕ → List ℕ
text_besides canonical text = cond (bytes_eq text canonical) [] text

-- and so it is found again
abbrev pub spelling_or : List ℕ → List ℕ → List ℕ
spelling_or canonical besides = cond (length besides == 0) canonical besides

-- the name without case, the text as it is, and a paragraph without the field
worked-spellings : version_spellings
    (codes "Version: 0:1.0\nPackage: a\n\nPackage: b\nvERSION:\t01.0-0 \n\nPackage: c\n")
    ≡ codes "0:1.0" ∷ codes "01.0-0" ∷ [] ∷ []
unfolding paragraph_limit is_utf8 chars encode
worked-spellings = refl

-- a line without a colon
worked-refused : version_spellings (codes "Version: 1\nx\n") ≡ [] ∷ []
unfolding paragraph_limit is_utf8 chars encode
worked-refused = refl

worked-at : map (λ n. spelling_at n (codes "01" ∷ codes "1" ∷ [])) (0 ∷ 1 ∷ 2 ∷ 3 ∷ [])
    ≡ None ∷ Some (codes "01") ∷ Some (codes "1") ∷ None ∷ []
worked-at = refl

worked-besides : (text_besides (codes "1.0") (codes "1.0-0") ≡ codes "1.0-0")
    × (text_besides (codes "1.0") (codes "1.0") ≡ [])
    × (spelling_or (codes "1.0") (codes "1.0-0") ≡ codes "1.0-0")
    × (spelling_or (codes "1.0") [] ≡ codes "1.0")
worked-besides = (refl, refl, refl, refl)
