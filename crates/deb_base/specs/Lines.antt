-- The lines in which a refusal or a fault is reported on standard error, each with its LF, byte by
-- byte. Their form is this project's own: `line N: CODE NAME`, and `fault: ` and a word.
use Rattle.std.specs.Prelude.{◌≡◌, List, [], ◌∷◌, ℕ, codes, refl}
use Rattle.std.specs.Fmt.{decimal, digits}
use Rattle.std.specs.List.{concat}
use Rattle.deb_base.specs.Codes.{number_of, name_of}
use Rattle.deb_base.specs.declared.code.Code.{Code}
use Rattle.deb_base.specs.declared.code.Code.TheVariants as code
use Rattle.deb_base.specs.declared.refusal.Refusal.{Refusal}
use Rattle.deb_base.specs.declared.fault.Fault.{Fault}
use Rattle.deb_base.specs.declared.fault.Fault.TheVariants.{Refused, Memory, Read, Write}

-- `line N: CODE NAME`
abbrev pub refusal_line : Refusal → List ℕ
refusal_line r =
    concat (codes "line " ∷ decimal r.line ∷ codes ": " ∷ decimal (number_of r.code) ∷ codes " "
    ∷ name_of r.code ∷ codes "\n" ∷ [])

-- the line of a refusal, or `fault: ` and what failed
abbrev pub fault_line : Fault → List ℕ
fault_line (Refused r) = refusal_line r
fault_line Memory = codes "fault: memory\n"
fault_line Read = codes "fault: read\n"
fault_line Write = codes "fault: write\n"

-- the line of a code
abbrev at_line : ℕ → Code → List ℕ
at_line n code = refusal_line (record { code = code; line = n })

-- each code of a file's text, with its number and its name
lines_of_text : (at_line 1 code.NotUtf8 ≡ codes "line 1: 1 NotUtf8\n")
    × (at_line 3 code.Armour ≡ codes "line 3: 2 Armour\n")
    × (at_line 2 code.Comment ≡ codes "line 2: 3 Comment\n")
    × (at_line 10 code.StrayContinuation ≡ codes "line 10: 4 StrayContinuation\n")
    × (at_line 99 code.BadFieldName ≡ codes "line 99: 5 BadFieldName\n")
    × (at_line 100 code.NoColon ≡ codes "line 100: 6 NoColon\n")
    × (at_line 3 code.DuplicateField ≡ codes "line 3: 7 DuplicateField\n")
    × (at_line 65535 code.ParagraphTooLong ≡ codes "line 65535: 8 ParagraphTooLong\n")
    × (at_line 7 code.FileTooLong ≡ codes "line 7: 9 FileTooLong\n")
unfolding digits
lines_of_text = (refl, refl, refl, refl, refl, refl, refl, refl, refl)

-- each code of its paragraphs
lines_of_paragraphs : (at_line 1 code.NoParagraph ≡ codes "line 1: 10 NoParagraph\n")
    × (at_line 8 code.TooManyParagraphs ≡ codes "line 8: 11 TooManyParagraphs\n")
    × (at_line 18446744073709551615 code.MissingField
    ≡ codes "line 18446744073709551615: 12 MissingField\n")
unfolding digits
lines_of_paragraphs = (refl, refl, refl)

-- each code of a value
lines_of_values : (at_line 5 code.NotOneLine ≡ codes "line 5: 13 NotOneLine\n")
    × (at_line 6 code.BadName ≡ codes "line 6: 14 BadName\n")
    × (at_line 9 code.BadNumber ≡ codes "line 9: 15 BadNumber\n")
    × (at_line 4 code.BadWord ≡ codes "line 4: 16 BadWord\n")
    × (at_line 12 code.BadArchitecture ≡ codes "line 12: 17 BadArchitecture\n")
    × (at_line 20 code.BadVersion ≡ codes "line 20: 18 BadVersion\n")
    × (at_line 11 code.BadRelation ≡ codes "line 11: 19 BadRelation\n")
    × (at_line 0 code.AlternativesNotAllowed ≡ codes "line 0: 20 AlternativesNotAllowed\n")
    × (at_line 31 code.ProvidesBound ≡ codes "line 31: 21 ProvidesBound\n")
unfolding digits
lines_of_values = (refl, refl, refl, refl, refl, refl, refl, refl, refl)

-- each code of a query
lines_of_queries : (at_line 0 code.Wildcard ≡ codes "line 0: 22 Wildcard\n")
    × (at_line 0 code.BadEnvironment ≡ codes "line 0: 23 BadEnvironment\n")
unfolding digits
lines_of_queries = (refl, refl)

line_of_memory : fault_line Memory
    ≡ 102 ∷ 97 ∷ 117 ∷ 108 ∷ 116 ∷ 58 ∷ 32 ∷ 109 ∷ 101 ∷ 109 ∷ 111 ∷ 114 ∷ 121 ∷ 10 ∷ []
line_of_memory = refl

line_of_read : fault_line Read ≡ codes "fault: read\n"
line_of_read = refl

line_of_write : fault_line Write ≡ codes "fault: write\n"
line_of_write = refl

-- a refusal has its line alone, without a word before it
line_of_refused : fault_line (Refused (record { code = code.NoParagraph; line = 1 }))
    ≡ codes "line 1: 10 NoParagraph\n"
unfolding digits
line_of_refused = refl
