-- How a reader of checked paragraphs goes on after a paragraph that is refused (this project's
-- own).
use Rattle.std.specs.Prelude.{◌≡◌, ℕ, ◌==◌, ◌&&◌, Bool, true, false, not, List, [], ◌∷◌, ◌++◌, Option, Some, None, Err, refl, map, codes}
use Rattle.deb_base.specs.Codes.{number_of}
use Rattle.deb_base.specs.Docs.{is_single}
use Rattle.deb_base.specs.declared.code.Code.TheVariants.{BadNumber, FileTooLong, ParagraphTooLong, NoColon}
use Rattle.deb_base.specs.declared.doc.Doc.{Doc}
use Rattle.deb_base.specs.declared.doc.Doc.TheVariants.{Binary, Packages}
use Rattle.deb_base.specs.declared.fault.Fault.{Fault}
use Rattle.deb_base.specs.declared.fault.Fault.TheVariants.{Refused, Memory, Read, Write}
use Rattle.deb_syntax.specs.Lines.{Paragraph}
use Rattle.deb_control.specs.Checking.{CheckedState, FitsChecked}
use Rattle.deb_control.specs.Refusals.{Answered}

-- After an error the paragraph has passed too: if it is refused, that is what was answered of it.
abbrev pub FitsRefused : (doc : Doc) (text : List ℕ) (answered : List Answered) → Fault
    → CheckedState → Option (List ℕ) → Type 0
FitsRefused doc text answered (Refused refusal) new left =
    FitsChecked doc text (answered ++ Err refusal ∷ []) new left
FitsRefused doc text answered Memory new left = Unit {0}
FitsRefused doc text answered Read new left = Unit {0}
FitsRefused doc text answered Write new left = Unit {0}

-- whether the error is a refusal of a paragraph whose lines were judged, and isn't that with it the
-- file's canonical text is too long
abbrev pub refuses_paragraph : Option Fault → Option Paragraph → Bool
refuses_paragraph (Some (Refused refusal)) (Some p) = not (number_of refusal.code == 9)
refuses_paragraph (Some (Refused refusal)) None = false
refuses_paragraph (Some Memory) last = false
refuses_paragraph (Some Read) last = false
refuses_paragraph (Some Write) last = false
refuses_paragraph None last = false

-- whether a reader of a kind of document can go on after this error, where these lines were judged
-- last: any number of paragraphs may follow, and one is refused
abbrev pub resumes : Doc → Option Fault → Option Paragraph → Bool
resumes doc fault last = not (is_single doc) && refuses_paragraph fault last

-- whether there is no error, or it is a refusal
abbrev pub is_none_or_refusal : Option Fault → Bool
is_none_or_refusal None = true
is_none_or_refusal (Some (Refused refusal)) = true
is_none_or_refusal (Some Memory) = false
is_none_or_refusal (Some Read) = false
is_none_or_refusal (Some Write) = false

-- where the error is a refusal, there is no other one inside
abbrev pub is_inside : Option Fault → Option Fault → Bool
is_inside (Some (Refused refusal)) inside = is_none_or_refusal inside
is_inside (Some Memory) inside = true
is_inside (Some Read) inside = true
is_inside (Some Write) inside = true
is_inside None inside = true

-- the reader after that: it has no error, and no paragraph that was found last
abbrev pub resumed : CheckedState → CheckedState
resumed state = record state {
  reader = record state.reader { current = None; fault = None };
  current = None;
  fault = None;
}

-- a value is refused, canonical text of a paragraph is too long, and that of a file
abbrev p : Paragraph
p = record { first = 4; lines = codes "Size: x" ∷ [] }

refusals_of_paragraphs : (refuses_paragraph (Some (Refused (record { code = BadNumber; line = 4 })))
    (Some p) ≡ true)
    × (refuses_paragraph (Some (Refused (record { code = ParagraphTooLong; line = 4 }))) (Some p)
    ≡ true)
    × (refuses_paragraph (Some (Refused (record { code = FileTooLong; line = 4 }))) (Some p)
    ≡ false)
    × (refuses_paragraph (Some (Refused (record { code = BadNumber; line = 4 }))) None ≡ false)
    × (map (λ fault. refuses_paragraph fault (Some p))
    (Some Memory ∷ Some Read ∷ Some Write ∷ None ∷ [])
    ≡ false ∷ false ∷ false ∷ false ∷ [])
refusals_of_paragraphs = (refl, refl, refl, refl, refl)

-- the same where a file has any number of paragraphs, and where it has one
kinds_to_go_on_in : (resumes Packages (Some (Refused (record { code = BadNumber; line = 4 })))
    (Some p) ≡ true)
    × (resumes Packages (Some (Refused (record { code = ParagraphTooLong; line = 4 }))) None
    ≡ false)
    × (resumes Binary (Some (Refused (record { code = BadNumber; line = 4 }))) (Some p) ≡ false)
kinds_to_go_on_in = (refl, refl, refl)

errors_inside : (map (is_inside (Some (Refused (record { code = BadNumber; line = 4 }))))
    (None ∷ Some (Refused (record { code = NoColon; line = 4 })) ∷ Some Memory ∷ Some Read
    ∷ Some Write ∷ [])
    ≡ true ∷ true ∷ false ∷ false ∷ false ∷ [])
    × (map (λ fault. is_inside fault (Some Memory))
    (None ∷ Some Memory ∷ Some Read ∷ Some Write ∷ [])
    ≡ true ∷ true ∷ true ∷ true ∷ [])
errors_inside = (refl, refl)
