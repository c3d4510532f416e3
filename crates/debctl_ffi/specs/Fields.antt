-- What is shown to a program in C of the fields of a file: Debian Policy 5.1. The form of the
-- tables is this project's own.
use Rattle.std.specs.Prelude.{◌≡◌, ◌⊎◌, ℕ, ◌+◌, ◌<◌, List, [], ◌∷◌, ◌++◌, length, map, codes, refl}
use Rattle.deb_base.specs.declared.doc.Doc.{Doc}
use Rattle.deb_syntax.specs.Answers.{Seen}
use Rattle.deb_syntax.specs.Fields.{Field}
use Rattle.deb_control.specs.Documents.{rules_of}
use Rattle.deb_control.specs.GivenParagraphs.{AreNext}
use Rattle.deb_control.specs.Refusals.{outcome}
use Rattle.debctl_ffi.specs.Answers.{plain}
use Rattle.debctl_ffi.specs.Buffers.{Buffer, Gives, buffer}
use Rattle.debctl_ffi.specs.Documents.{IsAcceptedFile, IsRefusedFile, KindFails, OfKind}
use Rattle.debctl_ffi.specs.declared.answer.Answer.{Answer}
use Rattle.debctl_ffi.specs.declared.field.FieldSpan.{FieldSpan}

-- ---- the fields of a file

-- a field, with the number of its paragraph
abbrev pub Numbered : Type 0
Numbered = ℕ × Field

abbrev pub numbered : ℕ → List Field → List Numbered
numbered n fields = map (λ field. (n, field)) fields

-- the fields of paragraphs, of which the first has this number
abbrev pub numbered_from : ℕ → List Seen → List Numbered
numbered_from n [] = []
numbered_from n (seen ∷ more) = numbered n seen.fields ++ numbered_from (n + 1) more

-- the fields of the first paragraphs of a file, which are numbered from 1
abbrev pub file_fields : List Seen → List Numbered
file_fields paragraphs = numbered_from 1 paragraphs

-- These are the fields of the paragraphs of the file that pass: of all, or of those before the
-- first that fails.
pub record AreFields (doc : Doc) (text : List ℕ) (shown : List Numbered) : Type 0 where
  pub paragraphs : List Seen
  pub next : AreNext text 0 paragraphs
  pub passed : length paragraphs ≡ length (outcome (rules_of doc) text).passed
  pub fields : shown ≡ file_fields paragraphs

-- ---- the tables

-- the names of fields, and their values, each with a byte 0 after it
abbrev pub names_text : List Numbered → List ℕ
names_text [] = []
names_text (one ∷ more) = one.1.name ++ 0 ∷ names_text more

abbrev pub values_text : List Numbered → List ℕ
values_text [] = []
values_text (one ∷ more) = one.1.body ++ 0 ∷ values_text more

-- the span of a field, with its name at this offset, and its value at that one
abbrev pub span_at : ℕ → ℕ → Numbered → FieldSpan
span_at name value one = record {
  paragraph = one.0;
  line = one.1.line;
  name = name;
  name_length = length one.1.name;
  value = value;
  value_length = length one.1.body;
}

abbrev pub spans_from : ℕ → ℕ → List Numbered → List FieldSpan
spans_from name value [] = []
spans_from name value (one ∷ more) =
    span_at name value one
    ∷ spans_from (name + length one.1.name + 1) (value + length one.1.body + 1) more

-- the tables of fields
pub record AreTables (shown : List Numbered) (spans : List FieldSpan) (names values : List ℕ)
    : Type 0 where
  pub spans_are : spans ≡ spans_from 0 0 shown
  pub names_are : names ≡ names_text shown
  pub values_are : values ≡ values_text shown

-- ---- answers

-- the answer of a file
abbrev pub IsAnswer : Doc → List ℕ → Answer → Type 0
IsAnswer doc text answer = IsAcceptedFile doc text answer ⊎ IsRefusedFile doc text answer

-- the buffers of spans, of names and of values
pub record Room : Type 0 where
  pub spans : Buffer FieldSpan
  pub names : Buffer ℕ
  pub values : Buffer ℕ

abbrev pub room : Buffer FieldSpan → Buffer ℕ → Buffer ℕ → Room
room spans names values = record { spans = spans; names = names; values = values }

-- The tables of the fields are given.
pub record GivesTables (shown : List Numbered) (into : Room) : Type 0 where
  pub spans : Gives (spans_from 0 0 shown) into.spans
  pub names : Gives (names_text shown) into.names
  pub values : Gives (values_text shown) into.values

-- The buffers are as they were, and these are the lengths.
pub record LeavesRoom (into : Room) (spans names values : ℕ) : Type 0 where
  pub spans_kept : into.spans.after ≡ into.spans.before
  pub names_kept : into.names.after ≡ into.names.before
  pub values_kept : into.values.after ≡ into.values.before
  pub span_count : into.spans.len ≡ spans
  pub names_length : into.names.len ≡ names
  pub values_length : into.values.len ≡ values

abbrev pub IsShort : Room → Type 0
IsShort into =
    (length into.spans.before < into.spans.len) ⊎ (length into.names.before < into.names.len)
    ⊎ (length into.values.before < into.values.len)

-- There is no room for the tables: a buffer is too short.
pub record LacksTables (shown : List Numbered) (into : Room) : Type 0 where
  pub leaves : LeavesRoom into (length (spans_from 0 0 shown)) (length (names_text shown))
      (length (values_text shown))
  pub short : IsShort into

-- The tables are given with this answer; or there is no room for them, and the answer is 4.
abbrev pub RepliesTables : Answer → List Numbered → Room → Answer → Type 0
RepliesTables told shown into answer =
    (GivesTables shown into × (answer ≡ told)) ⊎ (LacksTables shown into × (answer ≡ plain 4))

-- These are the answer of the file and the fields of its paragraphs that pass.
pub record FindsFields (doc : Doc) (text : List ℕ) (into : Room) (answer : Answer) : Type 0 where
  pub told : Answer
  pub answers : IsAnswer doc text told
  pub shown : List Numbered
  pub are : AreFields doc text shown
  pub replies : RepliesTables told shown into answer

-- Or nothing is given, since memory is out or there is no such kind.
abbrev pub ShowsFields : ℕ → List ℕ → Room → Answer → Type 0
ShowsFields kind text into answer =
    OfKind kind (λ doc. FindsFields doc text into answer)
    ⊎ (LeavesRoom into 0 0 0 × KindFails kind answer)

-- for the worked cases: `A: xy`, and `Bb:` in the next paragraph
abbrev one_seen : Seen
one_seen = record {
  first = 1;
  fields = record { name = codes "A"; line = 1; body = codes "xy" } ∷ [];
}

abbrev other_seen : Seen
other_seen = record {
  first = 3;
  fields = record { name = codes "Bb"; line = 3; body = [] } ∷ [];
}

abbrev two_shown : List Numbered
two_shown = file_fields (one_seen ∷ other_seen ∷ [])

worked-fields : two_shown
    ≡ (1, record { name = codes "A"; line = 1; body = codes "xy" })
    ∷ (2, record { name = codes "Bb"; line = 3; body = [] }) ∷ []
worked-fields = refl

worked-texts : (names_text two_shown ≡ codes "A\0Bb\0") × (values_text two_shown ≡ codes "xy\0\0")
worked-texts = (refl, refl)

worked-spans : spans_from 0 0 two_shown
    ≡ record { paragraph = 1; line = 1; name = 0; name_length = 1; value = 0; value_length = 2 }
    ∷ record { paragraph = 2; line = 3; name = 2; name_length = 2; value = 3; value_length = 0 }
    ∷ []
worked-spans = refl

abbrev three_buffers : Room
three_buffers = room (buffer [] [] 2) (buffer [] (codes "a") 3) (buffer (codes "b") [] 4)

worked-room : (three_buffers.spans.len ≡ 2) × (three_buffers.names ≡ buffer [] (codes "a") 3)
    × (three_buffers.values ≡ buffer (codes "b") [] 4)
worked-room = (refl, refl, refl)
