-- What is written of a text that is or isn't a condition, in lines `key: value`: this project's
-- own.
use Rattle.std.specs.Prelude.{◌≡◌, ℕ, Bool, List, [], ◌∷◌, ◌++◌, Option, None, Some, Result, Ok}
use Rattle.std.specs.Prelude.{Err, codes, refl}
use Rattle.std.specs.Fmt.{decimal, digits}
use Rattle.std.specs.Io.KnownBytes.{Appends}
use Rattle.std.specs.List.{concat, flat_map}
use Rattle.deb_base.specs.Codes.{name_of, number_of}
use Rattle.deb_base.specs.Devices.{AppendsFront}
use Rattle.deb_base.specs.Kinds.{kind_at, kind_of, known_row}
use Rattle.deb_base.specs.declared.doc.Doc.{Doc}
use Rattle.deb_base.specs.declared.doc.Doc.TheVariants.{Packages}
use Rattle.deb_base.specs.declared.fault.Fault.{Fault}
use Rattle.deb_base.specs.declared.fault.Fault.TheVariants.{Refused, Memory, Read, Write}
use Rattle.deb_version.specs.Faults.{first_fault}
use Rattle.deb_select.specs.Grammar.{condition_refusal, operator_in}
use Rattle.deb_select.specs.Reasons.{reason_name, reason_text}
use Rattle.deb_select.specs.Tables.{cell_byte}
use Rattle.deb_select.specs.declared.reason.Reason.{Reason}
use Rattle.deb_select.specs.declared.reason.Reason.TheVariants.{ValueBad}

-- the offset in the text, from 0
unfoldable pub place_line : ℕ → List ℕ
place_line at = concat (codes "place: " ∷ decimal at ∷ codes "\n" ∷ [])

-- the code of a value that the field can't have
unfoldable pub code_lines : Reason → List ℕ
code_lines (ValueBad code) =
    concat (codes "code: " ∷ decimal (number_of code) ∷ codes "\nname: " ∷ name_of code
    ∷ codes "\n" ∷ [])
code_lines other = []

-- the name of the reason, and the reason in a sentence
unfoldable pub reason_line : Reason → List ℕ
reason_line reason = concat (codes "reason: " ∷ reason_name reason ∷ codes "\n" ∷ [])

unfoldable pub rule_line : Reason → List ℕ
rule_line reason = concat (codes "rule: " ∷ reason_text reason ∷ codes "\n" ∷ [])

-- the line of a text after its key
unfoldable pub line_of : List ℕ → List ℕ → List ℕ
line_of key text = key ++ (text ++ codes "\n")

-- the lines of a refusal, or the line of a condition, of a text that is shown like this
abbrev pub refusal_lines : Reason → ℕ → List ℕ → List ℕ
refusal_lines reason at shown =
    place_line at
    ++ (code_lines reason
    ++ (reason_line reason ++ (line_of (codes "value: ") shown ++ rule_line reason)))

unfoldable pub answer_lines : List ℕ → Option (Reason × ℕ) → List ℕ
answer_lines shown None = codes "ok\n"
answer_lines shown (Some refusal) = refusal_lines refusal.0 refusal.1 shown

-- The lines on a text, for documents of a kind. It is shown with the escapes of a table's cell.
abbrev pub condition_lines : Doc → List ℕ → List ℕ
condition_lines doc text = answer_lines (flat_map cell_byte text) (condition_refusal doc text)

-- Ok: exactly these lines were written. Out of memory: nothing was. A failed write: a prefix was.
abbrev pub WritesLines : List ℕ → Result Bool Fault → Option (List ℕ) → Option (List ℕ) → Type 0
WritesLines lines (Ok good) old new = Appends old new lines
WritesLines lines (Err (Refused refusal)) old new = ⊥
WritesLines lines (Err Memory) old new = old ≡ new
WritesLines lines (Err Read) old new = ⊥
WritesLines lines (Err Write) old new = AppendsFront old new lines

worked-lines : (condition_lines Packages (codes "Version >= 1.0") ≡ codes "ok\n")
    × (condition_lines Packages (codes "Package >= \tbash")
    ≡ codes "place: 8\nreason: NoOrder\nvalue: Package >= \\tbash\n"
    ++ codes "rule: Only versions and numbers have an order.\n")
    × (condition_lines Packages (codes "Version >= 1_0")
    ≡ codes "place: 11\ncode: 18\nname: BadVersion\nreason: ValueBad\nvalue: Version >= 1_0\n"
    ++ codes "rule: The field can't have this value.\n")
unfolding operator_in kind_of kind_at known_row first_fault place_line code_lines reason_line
    line_of rule_line answer_lines reason_name reason_text digits
worked-lines = (refl, refl, refl)

worked-answers : (lines : List ℕ) (old new : Option (List ℕ))
    → (WritesLines lines (Err Memory) old new → old ≡ new)
    × (WritesLines lines (Err Write) old new → AppendsFront old new lines)
    × (WritesLines lines (Err Read) old new → ⊥)
worked-answers lines old new = (λ is. is, λ is. is, λ is. is)
