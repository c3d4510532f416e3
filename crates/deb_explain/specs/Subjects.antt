-- What a refusal is about, and what is wrong there. Debian Policy 5.1 (fields), 5.3 and 5.4
-- (required fields), 5.6 and 7 (values); which of it is reported is this project's own.
use Rattle.std.specs.Prelude.{◌≡◌, ℕ, ◌+◌, ◌==◌, not, List, [], ◌∷◌, find, map}
use Rattle.std.specs.Prelude.{Option, Some, None, codes, refl}
use Rattle.std.specs.List.{after_first, before_first, position_or_len, prefix_len}
use Rattle.deb_base.specs.Bodies.{Line, is_blank_byte}
use Rattle.deb_base.specs.FieldNames.{colon}
use Rattle.deb_base.specs.declared.code.Code.{Code}
use Rattle.deb_base.specs.declared.code.Code.TheVariants as code
use Rattle.deb_base.specs.declared.refusal.Refusal.{Refusal}
use Rattle.deb_syntax.specs.Answers.{Seen}
use Rattle.deb_syntax.specs.Fields.{Field, has_name}
use Rattle.deb_base.specs.Kinds.{required}
use Rattle.deb_base.specs.declared.doc.Doc.{Doc}
use Rattle.deb_explain.specs.Causes.{cause_of}
use Rattle.deb_explain.specs.declared.cause.Cause.{Cause}
use Rattle.deb_explain.specs.declared.topic.Topic.{Topic}
use Rattle.deb_explain.specs.declared.topic.Topic.TheVariants as topics

-- what a refusal is about: a paragraph or the file as a whole, a line, what precedes the colon
-- of a line, the name of a required field that is missing, or a field, with its name as spelled,
-- the column of its line at which its body begins, its body and what is wrong in that
pub data About : Type 0 where
  AboutWhole : About
  AboutLine : Line → About
  AboutName : List ℕ → About
  AboutMissing : List ℕ → About
  AboutField : List ℕ → ℕ → List ℕ → Option Cause → About

-- what a code is about
abbrev pub topic_of : Code → Topic
topic_of code.NotUtf8 = topics.Line
topic_of code.Armour = topics.Line
topic_of code.Comment = topics.Line
topic_of code.StrayContinuation = topics.Line
topic_of code.BadFieldName = topics.Name
topic_of code.NoColon = topics.Line
topic_of code.DuplicateField = topics.Name
topic_of code.ParagraphTooLong = topics.Whole
topic_of code.FileTooLong = topics.Whole
topic_of code.NoParagraph = topics.Whole
topic_of code.TooManyParagraphs = topics.Whole
topic_of code.MissingField = topics.Missing
topic_of code.NotOneLine = topics.Value
topic_of code.BadName = topics.Value
topic_of code.BadNumber = topics.Value
topic_of code.BadWord = topics.Value
topic_of code.BadArchitecture = topics.Value
topic_of code.BadVersion = topics.Value
topic_of code.BadRelation = topics.Value
topic_of code.AlternativesNotAllowed = topics.Value
topic_of code.ProvidesBound = topics.Value
topic_of code.Wildcard = topics.Whole
topic_of code.BadEnvironment = topics.Whole

-- the column, counted from 1, at which the body of a line's field begins: after the colon, and
-- after the spaces and tabs there
abbrev pub body_column : Line → ℕ
body_column line =
    position_or_len (λ b. b == colon) line + 2
    + prefix_len is_blank_byte (after_first (λ b. b == colon) line)

abbrev pub column_in : Option Line → ℕ
column_in None = 1
column_in (Some line) = body_column line

-- the first field that begins at a line; no two do
abbrev pub field_at : ℕ → List Field → Option Field
field_at line fields = find (λ field. field.line == line) fields

-- the first of the names that no field has, without ASCII case
abbrev pub missing_among : List (List ℕ) → List Field → Option (List ℕ)
missing_among names fields = find (λ name. not (has_name name fields)) names

-- where a thing is found, it is what the refusal is about
abbrev pub about_found : {A : Type 0} → (A → About) → Option A → About
about_found about None = AboutWhole
about_found about (Some a) = about a

abbrev pub about_line : Option Line → About
about_line line = about_found AboutLine line

abbrev pub about_name : Option Line → About
about_name line = about_found (λ line. AboutName (before_first (λ b. b == colon) line)) line

abbrev pub about_missing : Doc → Seen → About
about_missing doc seen = about_found AboutMissing (missing_among (required doc) seen.fields)

abbrev pub about_field : Doc → Option Line → Refusal → Field → About
about_field doc line refusal field =
    AboutField field.name (column_in line) field.body
    (cause_of doc refusal.code field.name field.body)

abbrev pub about_value : Doc → Option Line → Refusal → Seen → About
about_value doc line refusal seen =
    about_found (about_field doc line refusal) (field_at refusal.line seen.fields)

-- of a refusal by what its code is about, at this line; this paragraph was refused, where
-- its lines are no reason to
abbrev pub about_topic : Topic → Doc → Option Line → Refusal → Option Seen → About
about_topic topics.Whole doc line refusal paragraph = AboutWhole
about_topic topics.Line doc line refusal paragraph = about_line line
about_topic topics.Name doc line refusal paragraph = about_name line
about_topic topics.Missing doc line refusal paragraph = about_found (about_missing doc) paragraph
about_topic topics.Value doc line refusal paragraph =
    about_found (about_value doc line refusal) paragraph

columns : (body_column (codes "Version: 1") ≡ 10) × (body_column (codes "Version:1") ≡ 9)
    × (body_column (codes "Depends: \t aa : b") ≡ 12) × (body_column (codes "Depends:") ≡ 9)
columns = (refl, refl, refl, refl)

-- what each code is about, by their numbers
topics_of_codes : map topic_of
    (code.NotUtf8 ∷ code.Armour ∷ code.Comment ∷ code.StrayContinuation ∷ code.BadFieldName
    ∷ code.NoColon ∷ code.DuplicateField ∷ code.ParagraphTooLong ∷ code.FileTooLong
    ∷ code.NoParagraph ∷ code.TooManyParagraphs ∷ code.MissingField ∷ [])
    ≡ topics.Line ∷ topics.Line ∷ topics.Line ∷ topics.Line ∷ topics.Name ∷ topics.Line
    ∷ topics.Name ∷ topics.Whole ∷ topics.Whole ∷ topics.Whole ∷ topics.Whole ∷ topics.Missing ∷ []
topics_of_codes = refl

topics_of_values : map topic_of
    (code.NotOneLine ∷ code.BadName ∷ code.BadNumber ∷ code.BadWord ∷ code.BadArchitecture
    ∷ code.BadVersion ∷ code.BadRelation ∷ code.AlternativesNotAllowed ∷ code.ProvidesBound
    ∷ code.Wildcard ∷ code.BadEnvironment ∷ [])
    ≡ topics.Value ∷ topics.Value ∷ topics.Value ∷ topics.Value ∷ topics.Value ∷ topics.Value
    ∷ topics.Value ∷ topics.Value ∷ topics.Value ∷ topics.Whole ∷ topics.Whole ∷ []
topics_of_values = refl
