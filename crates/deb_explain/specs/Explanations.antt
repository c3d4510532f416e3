-- Why a file is refused, in full. Debian Policy 5.1, 5.3 to 5.6 and 7; what is reported is this
-- project's own.
use Rattle.std.specs.Prelude.{◌≡◌, ℕ, List, [], Option, Some, None, codes}
use Rattle.std.specs.Prelude.{refl}
use Rattle.std.specs.Option.{option_map}
use Rattle.std.specs.Str.{is_utf8, chars}
use lib.Utf8.{encode}
use Rattle.deb_base.specs.Bodies.{Line, paragraph_limit, file_limit}
use Rattle.deb_base.specs.declared.code.Code.{Code}
use Rattle.deb_base.specs.declared.code.Code.TheVariants as code
use Rattle.deb_base.specs.declared.refusal.Refusal.{Refusal}
use Rattle.deb_version.specs.Faults.{first_fault}
use Rattle.deb_version.specs.declared.fault.BadVersion.TheVariants.{UpstreamByte}
use Rattle.deb_relation.specs.declared.fault.Reason.TheVariants.{Trailing}
use Rattle.deb_syntax.specs.Answers.{Seen}
use Rattle.deb_base.specs.Docs.{is_single}
use Rattle.deb_base.specs.Kinds.{kind_at, known_row, kind_of, required}
use Rattle.deb_field.specs.RelationFieldCases.{told}
use Rattle.deb_field.specs.Values.{value_refusal}
use Rattle.deb_base.specs.declared.doc.Doc.{Doc}
use Rattle.deb_base.specs.declared.doc.Doc.TheVariants.{Binary, Packages}
use Rattle.deb_control.specs.Documents.{rules_of}
use Rattle.deb_control.specs.Rules.{Rules}
use Rattle.deb_control.specs.SeenRefusals.{SeenRefusal, first_seen}
use Rattle.deb_explain.specs.Subjects.{About, AboutWhole, AboutLine, AboutName, AboutMissing}
use Rattle.deb_explain.specs.Subjects.{AboutField, about_topic, topic_of}
use Rattle.deb_explain.specs.declared.cause.Cause.TheVariants as causes

-- a refusal, and what it is about
pub record WhyRefused : Type 0 where
  pub refusal : Refusal
  pub about : About

abbrev pub explain_refusal : Doc → Refusal → Option Line → Option Seen → WhyRefused
explain_refusal doc refusal line paragraph =
    record {
      refusal = refusal;
      about = about_topic (topic_of refusal.code) doc line refusal paragraph;
    }

-- what a refusal is about, by what is seen of it
abbrev pub why_refused : Doc → SeenRefusal → WhyRefused
why_refused doc seen = explain_refusal doc seen.refusal seen.line seen.seen

abbrev pub explanation_by : Rules → Doc → List ℕ → Option WhyRefused
explanation_by rules doc text = option_map (why_refused doc) (first_seen rules text)

-- Why a file is refused, if it is.
abbrev pub explanation_of : Doc → List ℕ → Option WhyRefused
explanation_of doc text = explanation_by (rules_of doc) doc text

-- for the worked cases: the rules of a kind where bodies count as canonical text, which then
-- computes; the refusals are those of the kind
abbrev plain : Doc → Rules
plain doc = record {
  refusal = value_refusal doc;
  canonical = λ name body. body;
  required = required doc;
  single = is_single doc;
}

abbrev explained : Doc → List ℕ → Option WhyRefused
explained doc text = explanation_by (plain doc) doc text

-- a refusal, and what it is about
abbrev why : Code → ℕ → About → Option WhyRefused
why code line about =
    Some (record { refusal = record { code = code; line = line }; about = about })

-- a bad version in the second paragraph: that field, and not the one at this line of the first
second_paragraph : explained Packages
    (codes "Package: aa\nVersion: 1\nArchitecture: all\n\nPackage: bb\nvERSION: 1_2\n")
    ≡ why code.BadVersion 6
    (AboutField (codes "vERSION") 10 (codes "1_2") (Some (causes.Version (UpstreamByte 1) 0)))
unfolding file_limit paragraph_limit is_utf8 chars encode kind_of kind_at known_row first_fault
second_paragraph = refl

-- a relation, and a value that has no parts
values : (explained Packages (codes "Package: aa\nDepends: bb\n c\nSize: 1k")
    ≡ why code.BadRelation 2
    (AboutField (codes "Depends") 10 (codes "bb\n c") (Some (causes.Relation Trailing 4))))
    × (explained Packages (codes "Package: aa\nSize: 1k")
    ≡ why code.BadNumber 2 (AboutField (codes "Size") 7 (codes "1k") None))
unfolding file_limit paragraph_limit is_utf8 chars encode kind_of kind_at known_row first_fault told
values = (refl, refl)

-- of two names that are missing, the first in the order of the table
missing : (explained Packages (codes "architecture: all\npackage: aa")
    ≡ why code.MissingField 1 (AboutMissing (codes "Version")))
    × (explained Binary (codes "\nPackage: aa")
    ≡ why code.MissingField 2 (AboutMissing (codes "Version")))
    × (explained Packages (codes "Package: aa\nVersion: 1\nArchitecture: all\n\nX: 1")
    ≡ why code.MissingField 5 (AboutMissing (codes "Package")))
unfolding file_limit paragraph_limit is_utf8 chars encode kind_of kind_at known_row first_fault
missing = (refl, refl, refl)

-- refusals of a line: the line, or what precedes its colon
lines : (explained Packages (codes "Package: aa\npackage: bb\n")
    ≡ why code.DuplicateField 2 (AboutName (codes "package")))
    × (explained Packages (codes "Package : aa")
    ≡ why code.BadFieldName 1 (AboutName (codes "Package ")))
    × (explained Packages (codes "\nPackage aa\n\nB: 1")
    ≡ why code.NoColon 2 (AboutLine (codes "Package aa")))
    × (explained Packages (codes " x\n") ≡ why code.StrayContinuation 1 (AboutLine (codes " x")))
unfolding file_limit paragraph_limit is_utf8 chars encode kind_of kind_at known_row first_fault
lines = (refl, refl, refl, refl)

-- the file as a whole
wholes : (explained Binary [] ≡ why code.NoParagraph 1 AboutWhole)
    × (explained Binary (codes "Package: aa\nVersion: 1\nArchitecture: all\n\n# x")
    ≡ why code.TooManyParagraphs 5 AboutWhole)
unfolding file_limit paragraph_limit is_utf8 chars encode kind_of kind_at known_row first_fault
wholes = (refl, refl)

-- an accepted file has no explanation
accepted : (explained Packages (codes "Package: aa\nVersion: 1\nArchitecture: all\n") ≡ None)
    × (explained Packages [] ≡ None)
unfolding file_limit paragraph_limit is_utf8 chars encode kind_of kind_at known_row first_fault
accepted = (refl, refl)

-- at the rules of the kind itself, of a first paragraph
of_the_kind : (explanation_of Packages (codes "Package: aa\nVersion: 1_2")
    ≡ why code.BadVersion 2
    (AboutField (codes "Version") 10 (codes "1_2") (Some (causes.Version (UpstreamByte 1) 0))))
    × (explanation_of Packages (codes "Package: aa\nVersion: 1")
    ≡ why code.MissingField 1 (AboutMissing (codes "Architecture")))
unfolding file_limit paragraph_limit is_utf8 chars encode kind_of kind_at known_row first_fault
of_the_kind = (refl, refl)
