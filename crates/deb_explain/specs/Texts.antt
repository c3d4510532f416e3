-- The text that says why a file is refused, in lines `key: value`. Its form is this project's own.
use Rattle.std.specs.Prelude.{◌≡◌, ℕ, ◌+◌, ◌==◌, cond, List, [], ◌∷◌, ◌++◌, map, take, Option}
use Rattle.std.specs.Prelude.{Some, None, codes, refl}
use Rattle.std.specs.Fmt.{decimal, digits}
use Rattle.std.specs.List.{concat}
use Rattle.std.specs.Str.{is_utf8, chars}
use lib.Utf8.{encode}
use Rattle.deb_base.specs.Bodies.{newline}
use Rattle.deb_base.specs.Codes.{number_of, name_of}
use Rattle.deb_base.specs.declared.code.Code.{Code}
use Rattle.deb_base.specs.declared.code.Code.TheVariants as code
use Rattle.deb_base.specs.Sentences.{rule_of, usually_of}
use Rattle.deb_version.specs.declared.fault.BadVersion.{BadVersion}
use Rattle.deb_version.specs.declared.fault.BadVersion.TheVariants.{Empty, EpochEmpty}
use Rattle.deb_version.specs.declared.fault.BadVersion.TheVariants.{EpochNotNumber, EpochTooBig}
use Rattle.deb_version.specs.declared.fault.BadVersion.TheVariants.{RevisionEmpty, UpstreamEmpty}
use Rattle.deb_version.specs.declared.fault.BadVersion.TheVariants.{UpstreamByte, RevisionByte}
use Rattle.deb_relation.specs.declared.fault.Reason.{Reason}
use Rattle.deb_relation.specs.declared.fault.Reason.TheVariants as reason
use Rattle.deb_explain.specs.Causes.{word_code}
use Rattle.deb_explain.specs.Escapes.{escaped_byte, front_of, shortened, shown_line}
use Rattle.deb_explain.specs.Explanations.{WhyRefused}
use Rattle.deb_explain.specs.Paths.{is_hidden, path_byte, shown_path}
use Rattle.deb_explain.specs.Subjects.{About, AboutWhole, AboutLine, AboutName, AboutMissing}
use Rattle.deb_explain.specs.Subjects.{AboutField}
use Rattle.deb_explain.specs.declared.cause.Cause.{Cause}
use Rattle.deb_explain.specs.declared.cause.Cause.TheVariants as cause
use Rattle.deb_explain.specs.declared.cause.Word.{Word}
use Rattle.deb_explain.specs.declared.cause.Word.TheVariants as words
use Rattle.deb_explain.specs.declared.spot.Spot.{Spot}

-- ---- what is wrong in a value

-- the offset of what is wrong in a version: 0 if the fault has no offset
unfoldable pub place_within : BadVersion → ℕ
place_within (UpstreamByte at) = at
place_within (RevisionByte at) = at
place_within fault = 0

-- the offset of what is wrong in a body
unfoldable pub relation_place : Reason → ℕ → ℕ
relation_place (reason.Version fault) at = at + place_within fault
relation_place why at = at

unfoldable pub place_of : Cause → ℕ
place_of (cause.Version fault start) = start + place_within fault
place_of (cause.Relation why at) = relation_place why at

unfoldable pub version_reason : BadVersion → List ℕ
version_reason Empty = codes "Empty"
version_reason EpochEmpty = codes "EpochEmpty"
version_reason EpochNotNumber = codes "EpochNotNumber"
version_reason EpochTooBig = codes "EpochTooBig"
version_reason RevisionEmpty = codes "RevisionEmpty"
version_reason UpstreamEmpty = codes "UpstreamEmpty"
version_reason (UpstreamByte at) = codes "UpstreamByte"
version_reason (RevisionByte at) = codes "RevisionByte"

-- of a version in a relation, why that is none
unfoldable pub relation_reason : Reason → List ℕ
relation_reason reason.NameExpected = codes "NameExpected"
relation_reason reason.NameBad = codes "NameBad"
relation_reason reason.QualifierBad = codes "QualifierBad"
relation_reason reason.OperatorBad = codes "OperatorBad"
relation_reason (reason.Version fault) = version_reason fault
relation_reason reason.Unclosed = codes "Unclosed"
relation_reason reason.ItemBad = codes "ItemBad"
relation_reason reason.MixedSigns = codes "MixedSigns"
relation_reason reason.ListEmpty = codes "ListEmpty"
relation_reason reason.Trailing = codes "Trailing"

unfoldable pub reason_of : Cause → List ℕ
reason_of (cause.Version fault start) = version_reason fault
reason_of (cause.Relation why at) = relation_reason why

-- the spot after a byte of a file: its line, and its number in that line, both counted from 1
abbrev pub spot_after : Spot → ℕ → Spot
spot_after spot b =
    cond (b == newline) (record { line = spot.line + 1; column = 1 })
    (record { line = spot.line; column = spot.column + 1 })

-- the spot after these bytes, where the first one is at this spot
abbrev pub spot_behind : Spot → List ℕ → Spot
spot_behind spot [] = spot
spot_behind spot (b ∷ bs) = spot_behind (spot_after spot b) bs

-- where in the file a value is wrong that begins at this line and column
abbrev pub wrong_spot : ℕ → ℕ → List ℕ → Cause → Spot
wrong_spot line column body why =
    spot_behind (record { line = line; column = column }) (take (place_of why) body)

abbrev pub place_text : Spot → Cause → List ℕ
place_text spot why =
    concat (codes "place: " ∷ decimal (place_of why) ∷ codes "\nat: " ∷ decimal spot.line
    ∷ codes ":" ∷ decimal spot.column ∷ codes "\nreason: " ∷ reason_of why ∷ codes "\n" ∷ [])

unfoldable pub cause_text : ℕ → ℕ → List ℕ → Option Cause → List ℕ
cause_text line column body None = []
cause_text line column body (Some why) = place_text (wrong_spot line column body why) why

-- of a word of the command line, which is in no file
unfoldable pub word_cause_text : Cause → List ℕ
word_cause_text why =
    concat (codes "place: " ∷ decimal (place_of why) ∷ codes "\nreason: " ∷ reason_of why
    ∷ codes "\n" ∷ [])

-- ---- what a refusal is about

-- of the line that the refusal has: a field begins there, and its body at a column of it
unfoldable pub field_text : ℕ → List ℕ → ℕ → List ℕ → Option Cause → List ℕ
field_text line name column body why =
    shown_line (codes "field: ") name
    ++ (cause_text line column body why ++ shown_line (codes "value: ") body)

unfoldable pub subject_text : ℕ → About → List ℕ
subject_text number AboutWhole = []
subject_text number (AboutLine line) = shown_line (codes "value: ") line
subject_text number (AboutName name) = shown_line (codes "field: ") name
subject_text number (AboutMissing name) = shown_line (codes "field: ") name
subject_text number (AboutField name column body why) = field_text number name column body why

-- ---- what a code means

unfoldable pub code_lines : Code → List ℕ
code_lines c =
    concat (codes "code: " ∷ decimal (number_of c) ∷ codes "\nname: " ∷ name_of c ∷ codes "\n" ∷ [])

unfoldable pub usually_line : Option (List ℕ) → List ℕ
usually_line None = []
usually_line (Some words) = concat (codes "usually: " ∷ words ∷ codes "\n" ∷ [])

unfoldable pub rule_line : Code → List ℕ
rule_line c = concat (codes "rule: " ∷ rule_of c ∷ codes "\n" ∷ [])

unfoldable pub rule_lines : Code → List ℕ
rule_lines c = rule_line c ++ usually_line (usually_of c)

abbrev pub rule_text : Code → List ℕ
rule_text c = code_lines c ++ rule_lines c

-- ---- the whole text, of a file of this name

unfoldable pub line_number : ℕ → List ℕ
line_number n = concat (codes "line: " ∷ decimal n ∷ codes "\n" ∷ [])

-- the line of a path after its key, which is never shortened
unfoldable pub path_line : List ℕ → List ℕ → List ℕ
path_line key path = key ++ (shown_path path ++ codes "\n")

abbrev pub file_line : List ℕ → List ℕ
file_line path = path_line (codes "file: ") path

abbrev pub explanation_text : List ℕ → WhyRefused → List ℕ
explanation_text file why =
    file_line file
    ++ (line_number why.refusal.line
    ++ (code_lines why.refusal.code
    ++ (subject_text why.refusal.line why.about ++ rule_lines why.refusal.code)))

-- ---- the text of a word of the command line that is refused for this

abbrev pub word_text : Word → Cause → List ℕ → List ℕ
word_text kind why word =
    code_lines (word_code kind)
    ++ (word_cause_text why ++ (shown_line (codes "value: ") word ++ rule_lines (word_code kind)))

-- where a value is wrong: a version that is after others, one in a relation, and a fault
-- without an offset
places : (place_of (cause.Version (UpstreamByte 1) 4) ≡ 5)
    × (place_of (cause.Version RevisionEmpty 4) ≡ 4)
    × (place_of (cause.Relation (reason.Version (RevisionByte 2)) 7) ≡ 9)
    × (place_of (cause.Relation reason.Trailing 3) ≡ 3)
unfolding place_of relation_place place_within
places = (refl, refl, refl, refl)

-- a field
worked_field : explanation_text (codes "a\tb") (record {
  refusal = record { code = code.BadVersion; line = 12 };
  about = AboutField (codes "vERSION") 10 (codes "1_2") (Some (cause.Version (UpstreamByte 1) 0));
})
    ≡ codes "file: a\\tb\nline: 12\ncode: 18\nname: BadVersion\nfield: vERSION\nplace: 1\n"
    ++ (codes "at: 12:11\nreason: UpstreamByte\nvalue: 1_2\n" ++ rule_lines code.BadVersion)
unfolding digits shown_line shortened front_of escaped_byte path_line is_utf8 chars encode
    is_hidden path_byte line_number code_lines subject_text field_text cause_text place_of
    place_within reason_of version_reason
worked_field = refl

-- in a folded value: the third byte of the second line is wrong
worked_spot : (wrong_spot 5 10 (codes "bb,\n cc dd") (cause.Relation reason.Trailing 8)
    ≡ record { line = 6; column = 5 })
    × (wrong_spot 5 10 (codes "\n 1_") (cause.Version Empty 0) ≡ record { line = 5; column = 10 })
    × (wrong_spot 5 9 (codes "1-") (cause.Version RevisionEmpty 0)
    ≡ record { line = 5; column = 9 })
unfolding place_of relation_place place_within
worked_spot = (refl, refl, refl)

-- a word of the command line
worked_word : word_text words.Relation (cause.Relation reason.Trailing 3) (codes "aa bb")
    ≡ codes "code: 19\nname: BadRelation\nplace: 3\nreason: Trailing\nvalue: aa bb\n"
    ++ rule_lines code.BadRelation
unfolding digits shown_line shortened front_of escaped_byte code_lines word_cause_text place_of
    relation_place reason_of relation_reason
worked_word = refl

-- a line, a name that is missing, and a file as a whole
worked_others : (subject_text 1 (AboutLine (codes " x")) ≡ codes "value:  x\n")
    × (subject_text 1 (AboutMissing (codes "Version")) ≡ codes "field: Version\n")
    × (subject_text 1 (AboutName (codes "A")) ≡ codes "field: A\n")
    × (subject_text 1 AboutWhole ≡ [])
unfolding shown_line shortened front_of escaped_byte subject_text
worked_others = (refl, refl, refl, refl)

-- a rule alone, with what is usual and without
worked_rules : (rule_text code.BadNumber
    ≡ codes "code: 15\nname: BadNumber\n"
    ++ (concat (codes "rule: " ∷ rule_of code.BadNumber ∷ codes "\n" ∷ [])
    ++ codes "usually: a unit after the number\n"))
    × (usually_line (usually_of code.FileTooLong) ≡ [])
unfolding digits code_lines rule_lines rule_line usually_line
worked_rules = (refl, refl)

-- the word of each reason, alone and of a version in a relation
worked_version_reasons : map version_reason
    (Empty ∷ EpochEmpty ∷ EpochNotNumber ∷ EpochTooBig ∷ RevisionEmpty ∷ UpstreamEmpty
    ∷ UpstreamByte 1 ∷ RevisionByte 1 ∷ [])
    ≡ codes "Empty" ∷ codes "EpochEmpty" ∷ codes "EpochNotNumber" ∷ codes "EpochTooBig"
    ∷ codes "RevisionEmpty" ∷ codes "UpstreamEmpty" ∷ codes "UpstreamByte" ∷ codes "RevisionByte"
    ∷ []
unfolding version_reason
worked_version_reasons = refl

worked_relation_reasons : map relation_reason
    (reason.NameExpected ∷ reason.NameBad ∷ reason.QualifierBad ∷ reason.OperatorBad
    ∷ reason.Version EpochEmpty ∷ reason.Unclosed ∷ reason.ItemBad ∷ reason.MixedSigns
    ∷ reason.ListEmpty ∷ reason.Trailing ∷ [])
    ≡ codes "NameExpected" ∷ codes "NameBad" ∷ codes "QualifierBad" ∷ codes "OperatorBad"
    ∷ codes "EpochEmpty" ∷ codes "Unclosed" ∷ codes "ItemBad" ∷ codes "MixedSigns"
    ∷ codes "ListEmpty" ∷ codes "Trailing" ∷ []
unfolding relation_reason version_reason
worked_relation_reasons = refl

worked_version : word_text words.Version (cause.Version (UpstreamByte 1) 2) (codes "1:1_2")
    ≡ codes "code: 18\nname: BadVersion\nplace: 3\nreason: UpstreamByte\nvalue: 1:1_2\n"
    ++ rule_lines code.BadVersion
unfolding digits shown_line shortened front_of escaped_byte code_lines word_cause_text place_of
    place_within reason_of version_reason
worked_version = refl
