-- What all refusals of a file are about, and the text that is written of them. Debian Policy 5.1,
-- 5.3 to 5.6 and 7; which of it is reported, and the text, are this project's own.
use Rattle.std.specs.Prelude.{◌≡◌, ℕ, List, [], ◌∷◌, ◌++◌, length, map, Option, Some, Err, codes, refl, None}
use Rattle.std.specs.Fmt.{digits}
use Rattle.std.specs.Io.KnownBytes.{Appends}
use Rattle.std.specs.List.{flat_map}
use Rattle.std.specs.Str.{is_utf8, chars}
use lib.Utf8.{encode}
use Rattle.deb_base.specs.Bodies.{paragraph_limit, file_limit}
use Rattle.deb_base.specs.Docs.{is_single}
use Rattle.deb_base.specs.Kinds.{kind_at, known_row, kind_of, required}
use Rattle.deb_base.specs.declared.code.Code.{Code}
use Rattle.deb_base.specs.declared.code.Code.TheVariants as code
use Rattle.deb_base.specs.declared.doc.Doc.{Doc}
use Rattle.deb_base.specs.declared.doc.Doc.TheVariants.{Binary, Packages}
use Rattle.deb_base.specs.declared.refusal.Refusal.{Refusal}
use Rattle.deb_version.specs.Faults.{first_fault}
use Rattle.deb_version.specs.declared.fault.BadVersion.TheVariants.{UpstreamByte}
use Rattle.deb_field.specs.Values.{value_refusal}
use Rattle.deb_control.specs.AllRefusals.{passed_of, refusals_of, total_line}
use Rattle.deb_control.specs.Documents.{rules_of}
use Rattle.deb_control.specs.Rules.{Rules}
use Rattle.deb_control.specs.SeenRefusals.{SeenRefusal, refusal_seen_after, refusal_seen_given, refusals_seen_by, seen_in_stream}
use Rattle.deb_control.specs.Streams.{stream_under}
use Rattle.deb_control.specs.declared.summary.Summary.{Summary}
use Rattle.deb_explain.specs.Explanations.{WhyRefused, why_refused}
use Rattle.deb_explain.specs.Subjects.{About, AboutWhole, AboutLine, AboutName, AboutMissing, AboutField}
use Rattle.deb_explain.specs.Texts.{explanation_text}
use Rattle.deb_explain.specs.declared.cause.Cause.TheVariants as causes

-- Of a file: what each of its refusals is about, in the order of its runs.
abbrev pub explanations_by : Rules → Doc → List ℕ → List WhyRefused
explanations_by rules doc text = map (why_refused doc) (refusals_seen_by rules text)

abbrev pub explanations_of : Doc → List ℕ → List WhyRefused
explanations_of doc text = explanations_by (rules_of doc) doc text

-- the refusals that are explained
abbrev pub refusals_explained : List WhyRefused → List Refusal
refusals_explained whys = map (λ why. why.refusal) whys

-- what is written of each refusal of a file of this name: its text, and an empty line
abbrev pub explained_block : List ℕ → WhyRefused → List ℕ
explained_block path why = explanation_text path why ++ codes "\n"

abbrev pub explained_blocks : List ℕ → List WhyRefused → List ℕ
explained_blocks path whys = flat_map (explained_block path) whys

-- the same by what is seen of the refusal, as a document of a kind
abbrev pub seen_block : List ℕ → Doc → SeenRefusal → List ℕ
seen_block path doc seen = explained_block path (why_refused doc seen)

-- A text for each refusal, with an empty line after it, and the last line.
abbrev pub explained_lines : List ℕ → Doc → List ℕ → List ℕ
explained_lines path doc text =
    explained_blocks path (explanations_of doc text)
    ++ total_line (passed_of doc text) (length (refusals_of doc text))

-- Exactly the texts that explain the refusals of a file of this name were written, with the last
-- line, and the summary has its counts.
pub record ExplainsAll (path : List ℕ) (doc : Doc) (text : List ℕ) (summary : Summary)
    (old new : Option (List ℕ)) : Type 0 where
  pub passed : summary.passed ≡ passed_of doc text
  pub refused : summary.refused ≡ length (refusals_of doc text)
  pub written : Appends old new (explained_lines path doc text)

-- Exactly those of its first refusals were; others may follow.
pub record ExplainsFirst (path : List ℕ) (doc : Doc) (text : List ℕ) (old new : Option (List ℕ))
    : Type 0 where
  pub first : List WhyRefused
  pub more : List WhyRefused
  pub all : explanations_of doc text ≡ first ++ more
  pub written : Appends old new (explained_blocks path first)

-- for the worked cases: the rules of a kind where bodies count as canonical text, which then
-- computes; the refusals are those of the kind
abbrev plain : Doc → Rules
plain doc = record {
  refusal = value_refusal doc;
  canonical = λ name body. body;
  required = required doc;
  single = is_single doc;
}

abbrev explained : Doc → List ℕ → List WhyRefused
explained doc text = explanations_by (plain doc) doc text

-- a refusal, and what it is about
abbrev why : Code → ℕ → About → WhyRefused
why code line about = record { refusal = record { code = code; line = line }; about = about }

-- a package that passes, one with a bad version, and one with a comment
worked-runs : explained Packages
    (codes "Package: aa\nVersion: 1\nArchitecture: all\n\nPackage: bb\nVersion: 1_2\n\nA: 1\n# b\n")
    ≡ why code.BadVersion 6
    (AboutField (codes "Version") 10 (codes "1_2") (Some (causes.Version (UpstreamByte 1) 0)))
    ∷ why code.Comment 9 (AboutLine (codes "# b")) ∷ []
unfolding file_limit paragraph_limit is_utf8 chars encode kind_of kind_at known_row first_fault
worked-runs = refl

-- two faults in one run have one refusal, and a file that is accepted has none
worked-counts : (explained Packages (codes "Package: aa\nA B: 1\n# b\n\nPackage: bb\n")
    ≡ why code.BadFieldName 2 (AboutName (codes "A B"))
    ∷ why code.MissingField 5 (AboutMissing (codes "Version")) ∷ [])
    × (explained Packages (codes "Package: aa\nVersion: 1\nArchitecture: all\n") ≡ [])
    × (explained Packages [] ≡ [])
unfolding file_limit paragraph_limit is_utf8 chars encode kind_of kind_at known_row first_fault
worked-counts = (refl, refl, refl)

-- where one paragraph is asked for, the first refusal is the last one
worked-single : (explained Binary (codes "Package: aa\n\n# b\n")
    ≡ why code.MissingField 1 (AboutMissing (codes "Version")) ∷ [])
    × (explained Binary (codes "# a\n\n# b\n") ≡ why code.Comment 1 (AboutLine (codes "# a")) ∷ [])
    × (explained Binary [] ≡ why code.NoParagraph 1 AboutWhole ∷ [])
unfolding file_limit paragraph_limit is_utf8 chars encode kind_of kind_at known_row first_fault
worked-single = (refl, refl, refl)

-- a paragraph whose lines are too long ends the stream, and is refused as a whole
abbrev long_text : List ℕ
long_text = codes "# a\n\nPackage: abc\n\n# b\n"

worked-end : map (why_refused Packages)
    (seen_in_stream (plain Packages) long_text 0 [] (stream_under 11 99 (plain Packages) long_text))
    ≡ why code.Comment 1 (AboutLine (codes "# a")) ∷ why code.ParagraphTooLong 3 AboutWhole ∷ []
unfolding file_limit paragraph_limit is_utf8 chars encode kind_of kind_at known_row first_fault
worked-end = refl

-- by what is seen of a comment, and the refusals of two
worked-blocks : (seen_block (codes "p") Packages
    (record {
      refusal = record { code = code.Comment; line = 1 };
      line = Some (codes "# a");
      seen = None;
    })
    ≡ explanation_text (codes "p") (why code.Comment 1 (AboutLine (codes "# a"))) ++ codes "\n")
    × (explained_blocks (codes "p") [] ≡ [])
    × (refusals_explained (why code.BadVersion 6 AboutWhole ∷ why code.Comment 9 AboutWhole ∷ [])
    ≡ record { code = code.BadVersion; line = 6 } ∷ record { code = code.Comment; line = 9 } ∷ [])
worked-blocks = (refl, refl, refl)

-- what is written of a file with two refusals
worked-lines : explained_lines (codes "p") Packages (codes "# a\n\nPackage: bb\n")
    ≡ ((explanation_text (codes "p") (why code.Comment 1 (AboutLine (codes "# a"))) ++ codes "\n")
    ++ ((explanation_text (codes "p")
    (why code.MissingField 3 (AboutMissing (codes "Version"))) ++ codes "\n") ++ []))
    ++ codes "ok 0, 2 refused\n"
unfolding file_limit paragraph_limit is_utf8 chars encode digits kind_of kind_at known_row
    first_fault
worked-lines = refl

-- a line of the second paragraph, and a field that the first one lacks
next_refused : (why_refused Packages
    (refusal_seen_after (rules_of Packages) (codes "Package: a\n\n# b\n") 1 ([] ∷ [])
    (record { code = code.Comment; line = 3 })) ≡ why code.Comment 3 (AboutLine (codes "# b")))
    × (why_refused Packages (refusal_seen_after (rules_of Packages) (codes "Package: a\n") 0 []
    (record { code = code.MissingField; line = 1 }))
    ≡ why code.MissingField 1 (AboutMissing (codes "Version")))
unfolding file_limit paragraph_limit is_utf8 chars encode kind_of kind_at known_row
next_refused = (refl, refl)

-- a line of the second paragraph, after a first one that was refused
next_given_refused : why_refused Packages
    (refusal_seen_given (rules_of Packages) (codes "# a\n\n# b\n")
    (Err (record { code = code.Comment; line = 1 }) ∷ [])
    (record { code = code.Comment; line = 3 }))
    ≡ why code.Comment 3 (AboutLine (codes "# b"))
unfolding file_limit paragraph_limit is_utf8 chars encode kind_of kind_at known_row
next_given_refused = refl
