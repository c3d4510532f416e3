-- The stream of a document: its paragraphs and its refused runs of lines, one after another, and
-- its end. Debian Policy 5.1; the order of the refusals, their lines and the limits are this
-- project's own.
use Rattle.std.specs.Prelude.{◌≡◌, ℕ, ◌==◌, ◌||◌, Bool, true, false, cond, List, [], ◌∷◌, ◌++◌, length, nat_lt, drop, Option, Some, None, is_some, Result, Ok, Err, codes, refl}
use Rattle.std.specs.Str.{is_utf8, chars}
use lib.Utf8.{encode}
use Rattle.deb_base.specs.Bodies.{Line, paragraph_limit, file_limit}
use Rattle.deb_base.specs.Codes.{number_of}
use Rattle.deb_base.specs.declared.code.Code.TheVariants.{Comment, FileTooLong, MissingField, NoParagraph, ParagraphTooLong, TooManyParagraphs}
use Rattle.deb_base.specs.declared.refusal.Refusal.{Refusal}
use Rattle.deb_syntax.specs.Answers.{line_beyond, line_too_long, paragraphs_within_under}
use Rattle.deb_syntax.specs.Lines.{Paragraph}
use Rattle.deb_syntax.specs.Meaning.{Entries}
use Rattle.deb_control.specs.Refusals.{Answered, answer_behind_under, line_behind, passed_in}
use Rattle.deb_control.specs.Rules.{Rules}

-- An item of a stream: the number of its first line, its lines, and the canonical bodies of a
-- paragraph that passes or the refusal of a run of lines.
pub record CheckedItem : Type 0 where
  pub first : ℕ
  pub lines : List Line
  pub bodies : Result Entries Refusal

-- A stream: its items, and the refusal that ends it. None ends a file that is read to its end.
pub record CheckedStream : Type 0 where
  pub items : List CheckedItem
  pub end : Option Refusal

abbrev pub item_of : Paragraph → Result Entries Refusal → CheckedItem
item_of p bodies = record { first = p.first; lines = p.lines; bodies = bodies }

abbrev pub with_item : CheckedItem → CheckedStream → CheckedStream
with_item item more = record { items = item ∷ more.items; end = more.end }

abbrev pub ended_by : Option Refusal → CheckedStream
ended_by refusal = record { items = []; end = refusal }

-- Where a word ends in `_under`, its first arguments are how many bytes a paragraph may have, and a
-- file; the word without `_under` is the same at the limits of this project.

-- whether a refusal of a paragraph ends the stream: exactly one paragraph is asked for, or its
-- lines are too long, or the file, or its canonical text, is
abbrev pub is_end_under : ℕ → Rules → Paragraph → Refusal → Bool
is_end_under limit rules p refusal =
    rules.single || (is_some (line_too_long p.first limit p.lines)
    || (number_of refusal.code == 9))

-- a paragraph before what follows it, by what is answered of it: what follows gets the paragraphs
-- that have passed
abbrev pub with_answer : (Refusal → Bool) → Paragraph → List Entries
    → Result (Option Entries) Refusal → (List Entries → CheckedStream) → CheckedStream
with_answer is_end p before (Ok (Some entries)) behind =
    with_item (item_of p (Ok entries)) (behind (before ++ entries ∷ []))
with_answer is_end p before (Ok None) behind = ended_by None
with_answer is_end p before (Err refusal) behind =
    cond (is_end refusal) (ended_by (Some refusal)) (with_item (item_of p (Err refusal))
    (behind before))

-- the end after the last paragraph
abbrev pub end_of : Result (Option Entries) Refusal → CheckedStream
end_of (Ok entries) = ended_by None
end_of (Err refusal) = ended_by (Some refusal)

-- The stream after paragraphs that have passed, where these are left.
abbrev pub stream_behind_under : ℕ → ℕ → Rules → Option ℕ → ℕ → List Entries → List Paragraph
    → CheckedStream
stream_behind_under limit most rules beyond n before [] =
    end_of (answer_behind_under limit most rules beyond n before [])
stream_behind_under limit most rules beyond n before (p ∷ left) =
    with_answer (is_end_under limit rules p) p before
    (answer_behind_under limit most rules beyond n before (p ∷ left))
    (λ passed. stream_behind_under limit most rules beyond n passed left)

-- The stream of a file after its first `k` paragraphs, of which some have passed and have these
-- canonical bodies.
abbrev pub stream_after_under : ℕ → ℕ → Rules → List ℕ → ℕ → List Entries → CheckedStream
stream_after_under limit most rules text k before =
    stream_behind_under limit most rules (line_beyond 1 most text) (line_behind text) before
    (drop k (paragraphs_within_under limit most text))

abbrev pub stream_after : Rules → List ℕ → ℕ → List Entries → CheckedStream
stream_after rules text k before =
    stream_after_under paragraph_limit file_limit rules text k before

-- the same where all of these have passed
abbrev pub stream_from_under : ℕ → ℕ → Rules → List ℕ → List Entries → CheckedStream
stream_from_under limit most rules text before =
    stream_after_under limit most rules text (length before) before

abbrev pub stream_from : Rules → List ℕ → List Entries → CheckedStream
stream_from rules text before = stream_from_under paragraph_limit file_limit rules text before

abbrev pub stream_under : ℕ → ℕ → Rules → List ℕ → CheckedStream
stream_under limit most rules text = stream_from_under limit most rules text []

-- The stream of a file.
abbrev pub stream_of : Rules → List ℕ → CheckedStream
stream_of rules text = stream_under paragraph_limit file_limit rules text

-- and where this was answered of each of them
abbrev pub stream_given : Rules → List ℕ → List Answered → CheckedStream
stream_given rules text answered = stream_after rules text (length answered) (passed_in answered)

-- where a paragraph passes, other refusals
abbrev pub refusals_after : Result Entries Refusal → List Refusal → List Refusal
refusals_after (Ok entries) others = others
refusals_after (Err refusal) others = refusal ∷ others

abbrev pub refusal_at_end : Option Refusal → List Refusal
refusal_at_end None = []
refusal_at_end (Some refusal) = refusal ∷ []

-- the refusals of the items, and of the end
abbrev pub refusals_in : List CheckedItem → Option Refusal → List Refusal
refusals_in [] end = refusal_at_end end
refusals_in (item ∷ items) end = refusals_after item.bodies (refusals_in items end)

-- All refusals of a file.
abbrev pub refusals_by : Rules → List ℕ → List Refusal
refusals_by rules text = refusals_in (stream_of rules text).items (stream_of rules text).end

-- for the worked cases: all bodies are good, and Package is asked
abbrev sample : Bool → Rules
sample single = record {
  refusal = λ name body. None;
  canonical = λ name body. body;
  required = codes "Package" ∷ [];
  single = single;
}

-- for the worked cases: a paragraph of one line that passes, and runs of one line that are refused
abbrev good : ℕ → CheckedItem
good n = record {
  first = n;
  lines = codes "Package:a" ∷ [];
  bodies = Ok ((codes "Package", codes "a") ∷ []);
}

abbrev bad : ℕ → CheckedItem
bad n = record {
  first = n;
  lines = codes "#" ∷ [];
  bodies = Err (record { code = Comment; line = n });
}

abbrev nameless : ℕ → CheckedItem
nameless n = record {
  first = n;
  lines = codes "X:1" ∷ [];
  bodies = Err (record { code = MissingField; line = n });
}

-- no fault, with blank lines around, and no paragraph
without_fault : (stream_under 99 99 (sample false) (codes "\n\nPackage:a\n \nPackage:a\n\n")
    ≡ record { items = good 3 ∷ good 5 ∷ []; end = None })
    × (stream_under 99 99 (sample false) (codes "\n") ≡ record { items = []; end = None })
unfolding is_utf8 chars encode
without_fault = (refl, refl)

-- one fault in the middle, two after one another, and one in the last paragraph without a newline
with_faults : (stream_under 99 99 (sample false) (codes "Package:a\n\nX:1\n\nPackage:a\n")
    ≡ record { items = good 1 ∷ nameless 3 ∷ good 5 ∷ []; end = None })
    × (stream_under 99 99 (sample false) (codes "#\n\nX:1\n\nPackage:a\n")
    ≡ record { items = bad 1 ∷ nameless 3 ∷ good 5 ∷ []; end = None })
    × (stream_under 99 99 (sample false) (codes "Package:a\n\n#")
    ≡ record { items = good 1 ∷ bad 3 ∷ []; end = None })
unfolding is_utf8 chars encode
with_faults = (refl, refl, refl)

-- the stream ends with a paragraph whose lines are too long, with a file that is too long, and with
-- canonical text of a file that is, which counts the paragraphs that pass
ended_early : (stream_under 11 99 (sample false) (codes "#\n\nPackage: abc\n\n#\n")
    ≡ record {
      items = bad 1 ∷ [];
      end = Some (record { code = ParagraphTooLong; line = 3 });
    })
    × (stream_under 99 5 (sample false) (codes "#\n\n#\n#\n")
    ≡ record { items = bad 1 ∷ []; end = Some (record { code = FileTooLong; line = 4 }) })
    × (stream_under 99 23 (sample false) (codes "Package:a\n\n#\n\nPackage:a")
    ≡ record { items = good 1 ∷ bad 3 ∷ good 5 ∷ []; end = None })
    × (stream_under 99 22 (sample false) (codes "Package:a\n\nPackage:a")
    ≡ record { items = good 1 ∷ []; end = Some (record { code = FileTooLong; line = 3 }) })
unfolding is_utf8 chars encode
ended_early = (refl, refl, refl, refl)

-- where one paragraph is asked for, each refusal ends the stream
one_asked : (stream_under 99 99 (sample true) (codes "#\n\nPackage:a\n")
    ≡ record { items = []; end = Some (record { code = Comment; line = 1 }) })
    × (stream_under 99 99 (sample true) (codes "Package:a\n\n#\n")
    ≡ record {
      items = good 1 ∷ [];
      end = Some (record { code = TooManyParagraphs; line = 3 });
    })
    × (stream_under 99 99 (sample true) []
    ≡ record { items = []; end = Some (record { code = NoParagraph; line = 1 }) })
unfolding is_utf8 chars encode
one_asked = (refl, refl, refl)

-- a paragraph that is refused isn't among those that have passed
refused_uncounted : with_answer (λ refusal. false) (record { first = 1; lines = codes "#" ∷ [] }) []
    (Err (record { code = Comment; line = 1 })) (λ passed. record {
      items = [];
      end = cond (nat_lt 0 (length passed)) (Some (record { code = NoParagraph; line = 9 })) None;
    }) ≡ record { items = bad 1 ∷ []; end = None }
refused_uncounted = refl

-- what ends a stream: any refusal where one paragraph is asked for, lines that are too long, the
-- file that is too long; a comment doesn't
ends : (is_end_under 9 (sample true) (record { first = 1; lines = codes "#" ∷ [] })
    (record { code = Comment; line = 1 }) ≡ true)
    × (is_end_under 9 (sample false) (record { first = 1; lines = codes "#" ∷ [] })
    (record { code = Comment; line = 1 }) ≡ false)
    × (is_end_under 3 (sample false) (record { first = 1; lines = codes "#abcd" ∷ [] })
    (record { code = Comment; line = 1 }) ≡ true)
    × (is_end_under 9 (sample false) (record { first = 1; lines = codes "#" ∷ [] })
    (record { code = FileTooLong; line = 1 }) ≡ true)
ends = (refl, refl, refl, refl)

-- canonical text of a paragraph that is too long refuses it, and ends nothing
long_canonical : stream_under 10 99 (sample false) (codes "Package:a\n\n#\n")
    ≡ record {
      items = record {
        first = 1;
        lines = codes "Package:a" ∷ [];
        bodies = Err (record { code = ParagraphTooLong; line = 1 });
      } ∷ bad 3 ∷ [];
      end = None;
    }
unfolding is_utf8 chars encode
long_canonical = refl

refusals_of_items : (refusals_in [] None ≡ [])
    × (refusals_in (good 1 ∷ bad 3 ∷ good 5 ∷ nameless 7 ∷ [])
    (Some (record { code = FileTooLong; line = 9 }))
    ≡ record { code = Comment; line = 3 } ∷ record { code = MissingField; line = 7 }
    ∷ record { code = FileTooLong; line = 9 } ∷ [])
refusals_of_items = (refl, refl)

-- at the limits of this project, and after a paragraph that has passed
limits_of_streams : (stream_from ≡ stream_from_under 16777216 4294967295)
    × (stream_of ≡ stream_under 16777216 4294967295)
    × (stream_from (sample false) (codes "Package:a\n\n#\n") ([] ∷ [])
    ≡ record { items = bad 3 ∷ []; end = None })
    × (refusals_by (sample false) (codes "#\n\nPackage:a\n\nX:1\n")
    ≡ record { code = Comment; line = 1 } ∷ record { code = MissingField; line = 5 } ∷ [])
unfolding paragraph_limit file_limit is_utf8 chars encode
limits_of_streams = (refl, refl, refl, refl)
