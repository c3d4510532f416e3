-- The paragraph at which a document is refused. Debian Policy 5.1 and 5.3 to 5.6; the order of the
-- refusals is this project's own.
use Rattle.std.specs.Prelude.{◌≡◌, ℕ, ◌&&◌, Bool, true, false, cond, List, [], ◌∷◌, length, Option, Some, None, Result, Ok, Err, codes, refl}
use Rattle.std.specs.Str.{is_utf8, chars}
use lib.Utf8.{encode}
use Rattle.deb_base.specs.Bodies.{paragraph_limit, file_limit}
use Rattle.deb_base.specs.declared.fault.Fault.{Fault}
use Rattle.deb_base.specs.declared.fault.Fault.TheVariants.{Refused, Memory, Read, Write}
use Rattle.deb_base.specs.declared.refusal.Refusal.{Refusal}
use Rattle.deb_syntax.specs.Answers.{Seen, next_answer}
use Rattle.deb_syntax.specs.Judged.{judged_behind}
use Rattle.deb_syntax.specs.Lines.{Paragraph}
use Rattle.deb_syntax.specs.Meaning.{Entries}
use Rattle.deb_control.specs.Refusals.{Answered, has_some, passed_in}
use Rattle.deb_control.specs.Rules.{Rules}
use Rattle.deb_base.specs.declared.code.Code.TheVariants.{NoColon}

-- what is seen of a paragraph, where its lines aren't refused
abbrev pub seen_in : Result (Option Seen) Refusal → Option Seen
seen_in (Ok seen) = seen
seen_in (Err refusal) = None

-- What is seen of the paragraph after the first `k`, of which these have passed. Nothing is of one
-- that is one too many, and of one whose lines are refused.
abbrev pub seen_after : Rules → List ℕ → ℕ → List Entries → Option Seen
seen_after rules text k before =
    cond (rules.single && has_some before) None (seen_in (next_answer text k))

-- That paragraph, where its lines are judged. None is of one that is one too many.
abbrev pub lines_after : Rules → List ℕ → ℕ → List Entries → Option Paragraph
lines_after rules text k before =
    cond (rules.single && has_some before) None (judged_behind text k)

-- the same where all of the first ones have passed
abbrev pub seen_behind : Rules → List ℕ → List Entries → Option Seen
seen_behind rules text before = seen_after rules text (length before) before

abbrev pub lines_behind : Rules → List ℕ → List Entries → Option Paragraph
lines_behind rules text before = lines_after rules text (length before) before

-- and where this was answered of each of them
abbrev pub seen_given : Rules → List ℕ → List Answered → Option Seen
seen_given rules text answered = seen_after rules text (length answered) (passed_in answered)

abbrev pub lines_given : Rules → List ℕ → List Answered → Option Paragraph
lines_given rules text answered = lines_after rules text (length answered) (passed_in answered)

-- the paragraph that was found last, where the error is a refusal
abbrev pub seen_refused : Option Fault → Option Seen → Option Seen
seen_refused (Some (Refused refusal)) found = found
seen_refused (Some Memory) found = None
seen_refused (Some Read) found = None
seen_refused (Some Write) found = None
seen_refused None found = None

-- for the worked cases: all bodies are good, and no name is asked
abbrev sample : Bool → Rules
sample single = record {
  refusal = λ name body. None;
  canonical = λ name body. body;
  required = [];
  single = single;
}

abbrev second : Seen
second =
    record { first = 3; fields = record { name = codes "b"; line = 3; body = codes "2" } ∷ [] }

-- the second paragraph, where there may be one, and where it is one too many
paragraphs_behind : (seen_behind (sample false) (codes "a:1\n\nb:2\n") ([] ∷ []) ≡ Some second)
    × (seen_behind (sample true) (codes "a:1\n\nb:2\n") ([] ∷ []) ≡ None)
    × (seen_behind (sample true) (codes "\n\nb:2\n") [] ≡ Some second)
unfolding file_limit paragraph_limit is_utf8 chars encode
paragraphs_behind = (refl, refl, refl)

-- its lines are refused, and there is none
nothing_behind : (seen_behind (sample false) (codes "a:1\n\n# b") ([] ∷ []) ≡ None)
    × (seen_behind (sample false) (codes "a:1\n") ([] ∷ []) ≡ None)
unfolding file_limit paragraph_limit is_utf8 chars encode
nothing_behind = (refl, refl)

-- the lines of the second paragraph, where one is refused, and where it is one too many
lines_shown : (lines_behind (sample false) (codes "a:1\n\nb:2\nc") ([] ∷ [])
    ≡ Some (record { first = 3; lines = codes "b:2" ∷ codes "c" ∷ [] }))
    × (lines_behind (sample true) (codes "a:1\n\nb:2\nc") ([] ∷ []) ≡ None)
    × (lines_behind (sample false) (codes "a:1\n") ([] ∷ []) ≡ None)
unfolding file_limit paragraph_limit is_utf8 chars encode
lines_shown = (refl, refl, refl)

-- after a first paragraph that was refused: the second isn't one too many
abbrev no_colon : Refusal
no_colon = record { code = NoColon; line = 1 }

after_refused : (seen_given (sample true) (codes "c\n\nb:2\n") (Err no_colon ∷ []) ≡ Some second)
    × (lines_given (sample true) (codes "c\n\nb:2\n") (Err no_colon ∷ [])
    ≡ Some (record { first = 3; lines = codes "b:2" ∷ [] }))
    × (seen_given (sample true) (codes "c\n\nb:2\n") (Ok [] ∷ []) ≡ None)
unfolding file_limit paragraph_limit is_utf8 chars encode
after_refused = (refl, refl, refl)

errors_shown : (seen_refused (Some (Refused no_colon)) (Some second) ≡ Some second)
    × (seen_refused (Some (Refused no_colon)) None ≡ None)
    × (seen_refused (Some Memory) (Some second) ≡ None)
    × (seen_refused (Some Read) (Some second) ≡ None)
    × (seen_refused (Some Write) (Some second) ≡ None) × (seen_refused None (Some second) ≡ None)
errors_shown = (refl, refl, refl, refl, refl, refl)
