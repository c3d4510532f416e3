-- What is answered of a file's paragraphs, one after another: the canonical bodies of those that
-- pass, and the first refusal. Debian Policy 5.1; the order of the refusals, their lines and the
-- limits are this project's own.
use Rattle.std.specs.Prelude.{◌≡◌, ℕ, ◌+◌, ◌&&◌, Bool, true, false, cond, not, List, [], ◌∷◌, ◌++◌, length, drop, map, nat_le, ◌==◌, Option, Some, None, Result, Ok, Err, codes, refl}
use Rattle.std.specs.Str.{bytes_eq, is_utf8, chars}
use lib.Utf8.{encode}
use Rattle.std.specs.List.{list_all}
use Rattle.deb_base.specs.declared.code.Code.{Code}
use Rattle.deb_base.specs.declared.code.Code.TheVariants.{ParagraphTooLong, FileTooLong, NoParagraph, TooManyParagraphs, MissingField, Comment, BadNumber}
use Rattle.deb_base.specs.declared.refusal.Refusal.{Refusal}
use Rattle.deb_base.specs.Names.{canonical_name}
use Rattle.deb_base.specs.Bodies.{paragraph_limit, file_limit}
use Rattle.deb_syntax.specs.Lines.{Paragraph, lines_of}
use Rattle.deb_syntax.specs.Fields.{Field, has_name}
use Rattle.deb_syntax.specs.Meaning.{Entries, entries_of}
use Rattle.deb_syntax.specs.Answers.{Seen, line_beyond, paragraphs_within_under, answer_of_first_under}
use Rattle.deb_control.specs.Canonical.{paragraph_text, file_text}
use Rattle.deb_control.specs.Rules.{Rules}

-- a code at a line, if there is one, or else another refusal
abbrev pub refusal_or : Option Code → ℕ → Option Refusal → Option Refusal
refusal_or (Some code) line other = Some (record { code = code; line = line })
refusal_or None line other = other

-- the first field, in the order of the file, whose body is refused
abbrev pub value_refusal_of : Rules → List Field → Option Refusal
value_refusal_of rules [] = None
value_refusal_of rules (field ∷ fields) =
    refusal_or (rules.refusal (canonical_name field.name) field.body) field.line
    (value_refusal_of rules fields)

-- each of the names is among the fields, without ASCII case
abbrev pub have_names : List Field → List (List ℕ) → Bool
have_names fields names = list_all (λ name. has_name name fields) names

-- a field with the canonical text of its value instead of its body
abbrev pub canonical_field : Rules → Field → Field
canonical_field rules field =
    record {
      name = field.name;
      line = field.line;
      body = rules.canonical
          (canonical_name field.name) field.body;
    }

-- the canonical texts of the fields' values, under their names in ascending order
abbrev pub canonical_entries : Rules → List Field → Entries
canonical_entries rules fields = entries_of (map (canonical_field rules) fields)

-- Where a word ends in `_under`, its first arguments are how many bytes a paragraph may have, and a
-- file, as far as it asks them; the word without `_under` is the same at the limits of this
-- project.

-- a paragraph whose values are all good: no name is missing, and its canonical text isn't too
-- long
abbrev pub named_and_short_under : ℕ → Rules → Seen → Result Entries Refusal
named_and_short_under limit rules seen =
    cond (not (have_names seen.fields rules.required))
    (Err (record { code = MissingField; line = seen.first }))
    (cond (not (nat_le (length (paragraph_text (canonical_entries rules seen.fields))) limit))
    (Err (record { code = ParagraphTooLong; line = seen.first }))
    (Ok (canonical_entries rules seen.fields)))

abbrev pub named_and_short : Rules → Seen → Result Entries Refusal
named_and_short rules seen = named_and_short_under paragraph_limit rules seen

abbrev pub refused_or_built_under : ℕ → Rules → Seen → Option Refusal → Result Entries Refusal
refused_or_built_under limit rules seen (Some refusal) = Err refusal
refused_or_built_under limit rules seen None = named_and_short_under limit rules seen

abbrev pub refused_or_built : Rules → Seen → Option Refusal → Result Entries Refusal
refused_or_built rules seen first = refused_or_built_under paragraph_limit rules seen first

-- What is answered of one paragraph by itself, whose fields were seen: the canonical bodies
-- of its values, or the first refusal of a body in the order of the file, else that a name is
-- missing, else that its canonical text is too long.
abbrev pub built_under : ℕ → Rules → Seen → Result Entries Refusal
built_under limit rules seen =
    refused_or_built_under limit rules seen (value_refusal_of rules seen.fields)

abbrev pub built : Rules → Seen → Result Entries Refusal
built rules seen = built_under paragraph_limit rules seen

-- a paragraph after others, where the canonical text of all has no more than so many bytes
abbrev pub within_bytes : ℕ → List Entries → ℕ → Result Entries Refusal
    → Result (Option Entries) Refusal
within_bytes most before line (Err refusal) = Err refusal
within_bytes most before line (Ok entries) =
    cond (not (nat_le (length (file_text (before ++ entries ∷ []))) most))
    (Err (record { code = FileTooLong; line = line }))
    (Ok (Some entries))

-- the same of as many as a file may have
abbrev pub within_file : List Entries → ℕ → Result Entries Refusal → Result (Option Entries) Refusal
within_file before line entries = within_bytes file_limit before line entries

-- there is one
abbrev pub has_some : List Entries → Bool
has_some [] = false
has_some (entries ∷ more) = true

-- What is answered after paragraphs that have passed, where this was seen of the next one: n is
-- the number of the line after the last one.
abbrev pub answer_of_seen_under : ℕ → ℕ → Rules → ℕ → List Entries → Result (Option Seen) Refusal
    → Result (Option Entries) Refusal
answer_of_seen_under limit most rules n before (Err refusal) = Err refusal
answer_of_seen_under limit most rules n before (Ok None) =
    cond (rules.single && not (has_some before)) (Err (record { code = NoParagraph; line = n }))
    (Ok None)
answer_of_seen_under limit most rules n before (Ok (Some seen)) =
    within_bytes most before seen.first (built_under limit rules seen)

abbrev pub answer_of_seen : Rules → ℕ → List Entries → Result (Option Seen) Refusal
    → Result (Option Entries) Refusal
answer_of_seen rules n before seen =
    answer_of_seen_under paragraph_limit file_limit rules n before seen

-- What is answered after paragraphs that have passed, where these are left: a second paragraph is
-- one too many where one is asked, whatever it holds.
abbrev pub answer_behind_under : ℕ → ℕ → Rules → Option ℕ → ℕ → List Entries → List Paragraph
    → Result (Option Entries) Refusal
answer_behind_under limit most rules beyond n before [] =
    answer_of_seen_under limit most rules n before (answer_of_first_under limit beyond [])
answer_behind_under limit most rules beyond n before (p ∷ left) =
    cond (rules.single && has_some before)
    (Err (record { code = TooManyParagraphs; line = p.first }))
    (answer_of_seen_under limit most rules n before
    (answer_of_first_under limit beyond (p ∷ left)))

abbrev pub answer_behind : Rules → Option ℕ → ℕ → List Entries → List Paragraph
    → Result (Option Entries) Refusal
answer_behind rules beyond n before left =
    answer_behind_under paragraph_limit file_limit rules beyond n before left

-- the number of the line after a text's last one
abbrev pub line_behind : List ℕ → ℕ
line_behind text = length (lines_of text) + 1

-- What is answered of a file after its first `k` paragraphs, of which some have passed and have
-- these canonical bodies: those of the next one, none where there is no further one, or why it is
-- refused.
abbrev pub next_after_under : ℕ → ℕ → Rules → List ℕ → ℕ → List Entries
    → Result (Option Entries) Refusal
next_after_under limit most rules text k before =
    answer_behind_under limit most rules (line_beyond 1 most text) (line_behind text) before
    (drop k (paragraphs_within_under limit most text))

abbrev pub next_after : Rules → List ℕ → ℕ → List Entries → Result (Option Entries) Refusal
next_after rules text k before = next_after_under paragraph_limit file_limit rules text k before

-- the same where all of these have passed
abbrev pub next_checked_under : ℕ → ℕ → Rules → List ℕ → List Entries
    → Result (Option Entries) Refusal
next_checked_under limit most rules text before =
    next_after_under limit most rules text (length before) before

abbrev pub next_checked : Rules → List ℕ → List Entries → Result (Option Entries) Refusal
next_checked rules text before =
    next_checked_under paragraph_limit file_limit rules text before

-- What was answered of a paragraph: its canonical bodies, or why it is refused. And the bodies of
-- those that passed.
abbrev pub Answered : Type 0
Answered = Result Entries Refusal

abbrev pub passed_in : List Answered → List Entries
passed_in [] = []
passed_in (Ok entries ∷ answered) = entries ∷ passed_in answered
passed_in (Err refusal ∷ answered) = passed_in answered

-- the next answer after these
abbrev pub next_given : Rules → List ℕ → List Answered → Result (Option Entries) Refusal
next_given rules text answered = next_after rules text (length answered) (passed_in answered)

-- What comes of a file: the canonical bodies of the paragraphs before the first that fails, and why
-- it is refused.
pub record Outcome : Type 0 where
  pub passed : List Entries
  pub refusal : Option Refusal

-- nothing further comes of the file
abbrev pub stopped : List Entries → Result (Option Entries) Refusal → Outcome
stopped before (Err refusal) = record { passed = before; refusal = Some refusal }
stopped before (Ok next) = record { passed = before; refusal = None }

-- a paragraph that passes is followed by what comes after it
abbrev pub followed : List Entries → Result (Option Entries) Refusal → (Entries → Outcome) → Outcome
followed before (Err refusal) behind = record { passed = before; refusal = Some refusal }
followed before (Ok None) behind = record { passed = before; refusal = None }
followed before (Ok (Some entries)) behind = behind entries

abbrev pub outcome_behind_under : ℕ → ℕ → Rules → Option ℕ → ℕ → List Entries → List Paragraph
    → Outcome
outcome_behind_under limit most rules beyond n before [] =
    stopped before (answer_behind_under limit most rules beyond n before [])
outcome_behind_under limit most rules beyond n before (p ∷ left) =
    followed before (answer_behind_under limit most rules beyond n before (p ∷ left))
    (λ entries. outcome_behind_under limit most rules beyond n (before ++ entries ∷ []) left)

abbrev pub outcome_behind : Rules → Option ℕ → ℕ → List Entries → List Paragraph → Outcome
outcome_behind rules beyond n before left =
    outcome_behind_under paragraph_limit file_limit rules beyond n before left

abbrev pub outcome_under : ℕ → ℕ → Rules → List ℕ → Outcome
outcome_under limit most rules text =
    outcome_behind_under limit most rules (line_beyond 1 most text) (line_behind text) []
    (paragraphs_within_under limit most text)

abbrev pub outcome : Rules → List ℕ → Outcome
outcome rules text = outcome_under paragraph_limit file_limit rules text

-- The refusal of a file, if it has one.
abbrev pub refusal_under : ℕ → ℕ → Rules → List ℕ → Option Refusal
refusal_under limit most rules text = (outcome_under limit most rules text).refusal

abbrev pub refusal_by : Rules → List ℕ → Option Refusal
refusal_by rules text = refusal_under paragraph_limit file_limit rules text

-- The canonical text of the paragraphs before the first that fails, or of all.
abbrev pub text_under : ℕ → ℕ → Rules → List ℕ → List ℕ
text_under limit most rules text = file_text (outcome_under limit most rules text).passed

abbrev pub text_by : Rules → List ℕ → List ℕ
text_by rules text = text_under paragraph_limit file_limit rules text

-- for the worked cases: numbers of one digit under Size, all other bodies as they are, and
-- Package is asked
abbrev sample : Bool → Rules
sample single = record {
  refusal =
      λ name body. cond (bytes_eq name (codes "Size") && not (length body == 1))
      (Some BadNumber) None;
  canonical = λ name body. body;
  required = codes "Package" ∷ [];
  single = single;
}

-- the canonical text of a file whose paragraphs pass
passing : (text_by (sample false) (codes "size:1\nPACKAGE: aa\n\t\n\nPackage:bb")
    ≡ codes "Package: aa\nSize: 1\n\nPackage: bb\n")
    × (refusal_by (sample false) (codes "size:1\nPACKAGE: aa\n\t\n\nPackage:bb") ≡ None)
unfolding file_limit paragraph_limit is_utf8 chars encode
passing = (refl, refl)

-- the first paragraph that fails decides, and those before it are written
second_fails : (refusal_by (sample false) (codes "Package: aa\n\nB: 1\n\nSize: 12")
    ≡ Some (record { code = MissingField; line = 3 }))
    × (text_by (sample false) (codes "Package: aa\n\nB: 1\n\nSize: 12") ≡ codes "Package: aa\n")
unfolding file_limit paragraph_limit is_utf8 chars encode
second_fails = (refl, refl)

-- a value goes before a name that is missing, and a line before a value
first_step : (refusal_by (sample false) (codes "B: 1\nSize: 12")
    ≡ Some (record { code = BadNumber; line = 2 }))
    × (refusal_by (sample false) (codes "Size: 12\n# x")
    ≡ Some (record { code = Comment; line = 2 }))
unfolding file_limit paragraph_limit is_utf8 chars encode
first_step = (refl, refl)

-- a second paragraph is one too many whatever it holds, and a first one that fails goes before it
one_asked : (refusal_by (sample true) (codes "Package: aa\n\n x")
    ≡ Some (record { code = TooManyParagraphs; line = 3 }))
    × (text_by (sample true) (codes "Package: aa\n\n x") ≡ codes "Package: aa\n")
    × (refusal_by (sample true) (codes "Size: 12\n\n x")
    ≡ Some (record { code = BadNumber; line = 1 }))
    × (refusal_by (sample true) (codes "\n \n") ≡ Some (record { code = NoParagraph; line = 3 }))
    × (refusal_by (sample true) (codes "Package: aa") ≡ None)
unfolding file_limit paragraph_limit is_utf8 chars encode
one_asked = (refl, refl, refl, refl, refl)

-- after a first paragraph that is refused, which counts as none that has passed
after_refused : (next_given (sample false) (codes "Size: 12\n\nPackage: aa\n")
    (Err (record { code = BadNumber; line = 1 }) ∷ [])
    ≡ Ok (Some ((codes "Package", codes "aa") ∷ [])))
    × (passed_in (Ok [] ∷ Err (record { code = BadNumber; line = 1 })
    ∷ Ok ((codes "Size", codes "1") ∷ []) ∷ [])
    ≡ [] ∷ ((codes "Size", codes "1") ∷ []) ∷ [])
unfolding file_limit paragraph_limit is_utf8 chars encode
after_refused = (refl, refl)

-- canonical text that is too long, where the file is not: `package:a` has ten bytes with its
-- newline, and its canonical text eleven
long_canonical : (refusal_under 11 11 (sample false) (codes "package:a") ≡ None)
    × (refusal_under 10 99 (sample false) (codes "package:a")
    ≡ Some (record { code = ParagraphTooLong; line = 1 }))
    × (refusal_under 99 10 (sample false) (codes "package:a")
    ≡ Some (record { code = FileTooLong; line = 1 }))
    × (refusal_under 10 10 (sample false) (codes "package:a")
    ≡ Some (record { code = ParagraphTooLong; line = 1 }))
    × (refusal_under 10 10 (sample false) (codes "package:") ≡ None)
unfolding is_utf8 chars encode
long_canonical = (refl, refl, refl, refl, refl)

-- of a paragraph by itself, of a file all that is written so far, with the newline between two
-- paragraphs; it is reported at the paragraph's first line, and those before it are written
long_second : (refusal_under 11 23 (sample false) (codes "package:a\n\n\npackage:b") ≡ None)
    × (refusal_under 11 22 (sample false) (codes "package:a\n\npackage:b")
    ≡ Some (record { code = FileTooLong; line = 3 }))
    × (text_under 11 22 (sample false) (codes "package:a\n\npackage:b") ≡ codes "Package: a\n")
    × (refusal_under 18 99 (sample false) (codes "package:a\n\nx:1\npackage:b\ny:1")
    ≡ Some (record { code = ParagraphTooLong; line = 3 }))
    × (text_under 18 99 (sample false) (codes "package:a\n\nx:1\npackage:b\ny:1")
    ≡ codes "Package: a\n")
unfolding is_utf8 chars encode
long_second = (refl, refl, refl, refl, refl)

-- a paragraph's lines that are too long go before its values, and so does a file; a value and a
-- missing name go before canonical text that is too long
limits_among_steps : (refusal_under 8 99 (sample false) (codes "Size: 12")
    ≡ Some (record { code = ParagraphTooLong; line = 1 }))
    × (refusal_under 99 7 (sample false) (codes "Size: 12")
    ≡ Some (record { code = FileTooLong; line = 1 }))
    × (refusal_under 8 8 (sample false) (codes "Size:12")
    ≡ Some (record { code = BadNumber; line = 1 }))
    × (refusal_under 7 7 (sample false) (codes "\nSize:1")
    ≡ Some (record { code = MissingField; line = 2 }))
unfolding is_utf8 chars encode
limits_among_steps = (refl, refl, refl, refl)

-- where one paragraph is asked a second one is one too many however long it is, and a file that is
-- too long lacks none
one_asked_within : (refusal_under 11 99 (sample true) (codes "Package:a\n\nPackage: bbb\n")
    ≡ Some (record { code = TooManyParagraphs; line = 3 }))
    × (refusal_under 11 10 (sample true) (codes "Package:a\n\n")
    ≡ Some (record { code = FileTooLong; line = 2 }))
    × (refusal_under 11 11 (sample true) (codes "Package:a\n\n\n")
    ≡ Some (record { code = FileTooLong; line = 3 }))
    × (text_under 11 11 (sample true) (codes "Package:a\n\n\n") ≡ codes "Package: a\n")
    × (refusal_under 9 2 (sample true) (codes "\n\n\n")
    ≡ Some (record { code = FileTooLong; line = 3 }))
    × (refusal_under 9 3 (sample true) (codes "\n\n\n")
    ≡ Some (record { code = NoParagraph; line = 4 }))
unfolding is_utf8 chars encode
one_asked_within = (refl, refl, refl, refl, refl, refl)

-- for the worked cases: a field Package, and one under Size, of a paragraph at line 3
abbrev package_field : Field
package_field = record { name = codes "package"; line = 4; body = codes "a" }

abbrev size_field : List ℕ → Field
size_field body = record { name = codes "size"; line = 3; body = body }

abbrev third_line : List Field → Seen
third_line fields = record { first = 3; fields = fields }

abbrev package_entries : Entries
package_entries = (codes "Package", codes "a") ∷ []

abbrev no_line : Refusal
no_line = record { code = BadNumber; line = 0 }

-- a paragraph by itself: a body goes before a name that is missing, and this before the length
one_paragraph : (named_and_short (sample false) (third_line (package_field ∷ []))
    ≡ Ok package_entries)
    × (named_and_short (sample false) (third_line (size_field (codes "1") ∷ []))
    ≡ Err (record { code = MissingField; line = 3 }))
    × (named_and_short_under 10 (sample false) (third_line (package_field ∷ []))
    ≡ Err (record { code = ParagraphTooLong; line = 3 }))
    × (refused_or_built (sample false) (third_line (package_field ∷ [])) (Some no_line)
    ≡ Err no_line)
    × (refused_or_built (sample false) (third_line (package_field ∷ [])) None ≡ Ok package_entries)
    × (built (sample false) (third_line (size_field (codes "12") ∷ []))
    ≡ Err (record { code = BadNumber; line = 3 }))
    × (built (sample false) (third_line (size_field (codes "1") ∷ package_field ∷ []))
    ≡ Ok ((codes "Package", codes "a") ∷ (codes "Size", codes "1") ∷ []))
unfolding paragraph_limit
one_paragraph = (refl, refl, refl, refl, refl, refl, refl)

-- after an empty paragraph, a newline goes before the eleven bytes of the next one
length_of_file : (within_file ([] ∷ []) 3 (Ok package_entries) ≡ Ok (Some package_entries))
    × (within_file [] 3 (Err no_line) ≡ Err no_line)
    × (within_bytes 12 ([] ∷ []) 3 (Ok package_entries) ≡ Ok (Some package_entries))
    × (within_bytes 11 ([] ∷ []) 3 (Ok package_entries)
    ≡ Err (record { code = FileTooLong; line = 3 }))
unfolding file_limit
length_of_file = (refl, refl, refl, refl)

-- what is seen of the next paragraph: a refusal, none where one is asked for or isn't, and one
answers_of_seen : (answer_of_seen (sample false) 9 [] (Err no_line) ≡ Err no_line)
    × (answer_of_seen (sample true) 9 [] (Ok None) ≡ Err (record { code = NoParagraph; line = 9 }))
    × (answer_of_seen (sample true) 9 ([] ∷ []) (Ok None) ≡ Ok None)
    × (answer_of_seen (sample false) 9 [] (Ok None) ≡ Ok None)
    × (answer_of_seen (sample true) 9 [] (Ok (Some (third_line (package_field ∷ []))))
    ≡ Ok (Some package_entries))
    × (answer_of_seen (sample false) 9 [] (Ok (Some (third_line [])))
    ≡ Err (record { code = MissingField; line = 3 }))
unfolding paragraph_limit file_limit
answers_of_seen = (refl, refl, refl, refl, refl, refl)

-- for the worked cases: a paragraph of one line
abbrev paragraph_of : List ℕ → Paragraph
paragraph_of line = record { first = 3; lines = line ∷ [] }

-- the paragraphs that are left: none, one too many, one that passes, and one whose line is refused
answers_of_left : (answer_behind (sample true) None 9 [] []
    ≡ Err (record { code = NoParagraph; line = 9 }))
    × (answer_behind (sample true) (Some 7) 9 [] []
    ≡ Err (record { code = FileTooLong; line = 7 }))
    × (answer_behind (sample true) None 9 ([] ∷ []) (paragraph_of (codes "# x") ∷ [])
    ≡ Err (record { code = TooManyParagraphs; line = 3 }))
    × (answer_behind (sample false) None 9 ([] ∷ []) (paragraph_of (codes "package:a") ∷ [])
    ≡ Ok (Some package_entries))
    × (answer_behind (sample true) None 9 [] (paragraph_of (codes "# x") ∷ [])
    ≡ Err (record { code = Comment; line = 3 }))
unfolding paragraph_limit file_limit is_utf8 chars encode
answers_of_left = (refl, refl, refl, refl, refl)

outcomes_of_left : (outcome_behind (sample true) None 9 [] []
    ≡ record { passed = []; refusal = Some (record { code = NoParagraph; line = 9 }) })
    × (outcome_behind (sample false) None 9 [] [] ≡ record { passed = []; refusal = None })
    × (outcome_behind (sample false) None 9 ([] ∷ []) (paragraph_of (codes "package:a") ∷ [])
    ≡ record { passed = [] ∷ package_entries ∷ []; refusal = None })
    × (outcome_behind (sample false) None 9 []
    (paragraph_of (codes "package:a") ∷ paragraph_of (codes "# x") ∷ [])
    ≡ record {
      passed = package_entries ∷ [];
      refusal = Some (record { code = Comment; line = 3 });
    })
unfolding paragraph_limit file_limit is_utf8 chars encode
outcomes_of_left = (refl, refl, refl, refl)

-- at the limits of this project
limits_of_paragraphs : (named_and_short ≡ named_and_short_under 16777216)
    × (refused_or_built ≡ refused_or_built_under 16777216) × (built ≡ built_under 16777216)
    × (within_file ≡ within_bytes 4294967295)
    × (answer_of_seen ≡ answer_of_seen_under 16777216 4294967295)
unfolding paragraph_limit file_limit
limits_of_paragraphs = (refl, refl, refl, refl, refl)

limits_of_files : (answer_behind ≡ answer_behind_under 16777216 4294967295)
    × (outcome_behind ≡ outcome_behind_under 16777216 4294967295)
    × (next_checked ≡ next_checked_under 16777216 4294967295)
    × (outcome ≡ outcome_under 16777216 4294967295)
    × (refusal_by ≡ refusal_under 16777216 4294967295)
    × (text_by ≡ text_under 16777216 4294967295)
unfolding paragraph_limit file_limit
limits_of_files = (refl, refl, refl, refl, refl, refl)
