-- The report with reasons: below the line of a group that is unmet, why each package that has or
-- provides the name of an alternative doesn't meet it; below that of a group that is unmet or
-- ignored, which items of architecture lists name an architecture with its system. The form of the
-- lines is this project's own.
use Rattle.std.specs.Prelude.{◌≡◌, ℕ, ◌==◌, ◌||◌, ◌++◌, Bool, true, false, cond, List, [], ◌∷◌, map, Option, None, Some, codes, refl}
use Rattle.std.specs.Fmt.{decimal, digits}
use Rattle.std.specs.List.{concat, flat_map, list_any}
use Rattle.deb_base.specs.declared.version_text.VersionText.TheVariants.{Spelled}
use Rattle.deb_version.specs.Places.{version_in}
use Rattle.deb_relation.specs.Applying.{Environment, applies, is_among}
use Rattle.deb_relation.specs.Meaning.{Alternative, Group, Relation}
use Rattle.deb_relation.specs.Texts.{alternative_text, group_text}
use Rattle.deb_relation.specs.declared.operator.Op.TheVariants.{LaterEqual}
use Rattle.deb_index.specs.Alternatives.{alone, with_bound, with_formula, with_list, with_qualifier}
use Rattle.deb_index.specs.Listed.{Listed, Provision}
use Rattle.deb_index.specs.Named.{has_name, provides}
use Rattle.deb_index.specs.Reasons.{reason}
use Rattle.deb_index.specs.Reports.{Answer, Numbered, answer, group_verdict, passing_from, report}
use Rattle.deb_index.specs.ReportText.{VersionShown, answer_text, canonical_version, end_pieces, package_pieces, version_shown, with_files}
use Rattle.deb_index.specs.declared.reason.Reason.{Reason}
use Rattle.deb_index.specs.declared.reason.Reason.TheVariants.{IsEarlier, IsLater, IsAnother, IsNotLater, IsNotEarlier, HasNoVersion, IsOfAnotherArchitecture, IsNotAllowed}
use Rattle.deb_index.specs.declared.verdict.Verdict.{Verdict}
use Rattle.deb_index.specs.declared.verdict.Verdict.TheVariants.{Ignored, Met, Unmet}

-- ---- alternatives that apply

abbrev pub reason_words : Reason → List ℕ
reason_words IsEarlier = codes "is earlier"
reason_words IsLater = codes "is later"
reason_words IsAnother = codes "is another version"
reason_words IsNotLater = codes "isn't later"
reason_words IsNotEarlier = codes "isn't earlier"
reason_words HasNoVersion = codes "is provided without a version"
reason_words IsOfAnotherArchitecture = codes "is of another architecture"
reason_words IsNotAllowed = codes "isn't Multi-Arch: allowed"

-- ` ALTERNATIVE: NUMBER NAME VERSION ARCHITECTURE REASON`, for the text of the alternative, and
-- ` @FILE` where a file is named
abbrev pub reason_line : VersionShown → List ℕ → Numbered → Reason → List ℕ
reason_line shown text p why =
    concat ((codes " " ∷ text ∷ codes ":" ∷ package_pieces shown p)
    ++ (codes " " ∷ reason_words why ∷ end_pieces (shown.file p)))

-- a package that meets the alternative has no line
abbrev pub line_unless_met : VersionShown → List ℕ → Numbered → Option Reason → List ℕ
line_unless_met shown text p None = []
line_unless_met shown text p (Some why) = reason_line shown text p why

abbrev pub package_reason : VersionShown → Environment → Alternative → Numbered → List ℕ
package_reason shown environment a p =
    line_unless_met shown (alternative_text a) p (reason environment a p.1)

-- ` ALTERNATIVE: no package has this name`
abbrev pub nameless_line : List ℕ → List ℕ
nameless_line text = concat (codes " " ∷ text ∷ codes ": no package has this name\n" ∷ [])

-- the lines for the packages that have or provide the name, or the line that there is none
abbrev pub lines_of : VersionShown → Environment → Alternative → List Numbered → List ℕ
lines_of shown environment a [] = nameless_line (alternative_text a)
lines_of shown environment a (p ∷ found) =
    flat_map (package_reason shown environment a) (p ∷ found)

abbrev pub has_or_provides : List ℕ → Listed → Bool
has_or_provides name p = has_name name p || provides name p

abbrev pub asked_lines : VersionShown → Environment → List Listed → Alternative → List ℕ
asked_lines shown environment packages a =
    lines_of shown environment a (passing_from 1 (has_or_provides a.name) packages)

-- ---- alternatives that don't

-- a name contains a hyphen: it is an architecture with its system, such as `linux-amd64`
abbrev pub names_system : List ℕ → Bool
names_system name = list_any (λ b. b == 45) name

-- ` ALTERNATIVE: ITEM isn't the target TARGET`, if the item names a system
abbrev pub system_line : List ℕ → List ℕ → List ℕ → List ℕ
system_line text target item =
    cond (names_system item)
    (concat (codes " " ∷ text ∷ codes ": " ∷ item ∷ codes " isn't the target " ∷ target
    ∷ codes "\n" ∷ []))
    []

-- a line for each such item of a list without `!` that doesn't hold the target
abbrev pub list_lines : List ℕ → List ℕ → Option (Bool × List (List ℕ)) → List ℕ
list_lines text target None = []
list_lines text target (Some list) =
    cond (list.0 || is_among target list.1) [] (flat_map (system_line text target) list.1)

abbrev pub system_lines : List ℕ → Alternative → List ℕ
system_lines target a = list_lines (alternative_text a) target a.architectures

-- ---- groups and relations

abbrev pub alternative_lines : VersionShown → Environment → List Listed → Alternative → List ℕ
alternative_lines shown environment packages a =
    cond (applies a environment) (asked_lines shown environment packages a)
    (system_lines environment.target a)

-- what is below the line of a group with this verdict: nothing if it is met
abbrev pub lines_below : VersionShown → Environment → List Listed → Group → Verdict → List ℕ
lines_below shown environment packages group Ignored =
    flat_map (alternative_lines shown environment packages) group
lines_below shown environment packages group Met = []
lines_below shown environment packages group Unmet =
    flat_map (alternative_lines shown environment packages) group

-- the answer for a group, and the lines with its reasons
pub record Detailed : Type 0 where
  pub answer : Answer
  pub reasons : List ℕ

abbrev pub detailed : VersionShown → Environment → List Listed → Group → Detailed
detailed shown environment packages group =
    record {
      answer = answer environment packages group;
      reasons =
          lines_below shown environment packages group (group_verdict environment packages group);
    }

-- the report with reasons, in the order of the report
abbrev pub detailed_report_by : VersionShown → List Listed → Relation → Environment → List Detailed
detailed_report_by shown packages relation environment =
    map (detailed shown environment packages) relation

-- below what the report writes of a group are its reasons
abbrev pub detailed_answer_text : VersionShown → Detailed → List ℕ
detailed_answer_text shown d = answer_text shown d.answer ++ d.reasons

abbrev pub detailed_text_by : VersionShown → List Detailed → List ℕ
detailed_text_by shown answers = flat_map (detailed_answer_text shown) answers

-- with canonical versions
abbrev pub detailed_report : List Listed → Relation → Environment → List Detailed
detailed_report packages relation environment =
    detailed_report_by canonical_version packages relation environment

abbrev pub detailed_text : List Detailed → List ℕ
detailed_text answers = detailed_text_by canonical_version answers

abbrev pub answer_in : Detailed → Answer
answer_in d = d.answer

-- the words of each reason
worked-words : map reason_words
    (IsEarlier ∷ IsLater ∷ IsAnother ∷ IsNotLater ∷ IsNotEarlier ∷ HasNoVersion
    ∷ IsOfAnotherArchitecture ∷ IsNotAllowed ∷ [])
    ≡ codes "is earlier" ∷ codes "is later" ∷ codes "is another version" ∷ codes "isn't later"
    ∷ codes "isn't earlier" ∷ codes "is provided without a version"
    ∷ codes "is of another architecture" ∷ codes "isn't Multi-Arch: allowed" ∷ []
worked-words = refl

-- Below, the target is amd64, and the packages are aa 1.0 for amd64, which provides vv without a
-- version, and bb 2.0 for i386, which provides vv in version 2.0 and its own name.
abbrev target : Environment
target = record { target = codes "amd64"; native = codes "amd64"; profiles = [] }

abbrev kept : List ℕ → List ℕ → List ℕ → List Provision → Listed
kept name version architecture provisions =
    record {
      name = name;
      version = version_in version;
      architecture = architecture;
      multi_arch = None;
      provisions = provisions;
    }

abbrev packages : List Listed
packages =
    kept (codes "aa") (codes "1.0") (codes "amd64")
    (record { name = codes "vv"; version = None } ∷ [])
    ∷ kept (codes "bb") (codes "2.0") (codes "i386")
    (record { name = codes "vv"; version = Some (version_in (codes "2.0")) }
    ∷ record { name = codes "bb"; version = None } ∷ [])
    ∷ []

abbrev shown : Group → List ℕ
shown group = detailed_text (detailed_report packages (group ∷ []) target)

-- an unmet group: the alternatives in their order, and for each the packages by their numbers
worked-unmet : shown
    (with_bound (codes "vv") LaterEqual (codes "3") ∷ alone (codes "cc")
    ∷ with_bound (codes "aa") LaterEqual (codes "1.5") ∷ [])
    ≡ codes "unmet vv (>= 3) | cc | aa (>= 1.5)\n"
    ++ (codes " vv (>= 3): 1 aa 1.0 amd64 is provided without a version\n"
    ++ (codes " vv (>= 3): 2 bb 2.0 i386 is earlier\n"
    ++ (codes " cc: no package has this name\n"
    ++ codes " aa (>= 1.5): 1 aa 1.0 amd64 is earlier\n")))
unfolding digits group_text
worked-unmet = refl

-- as the file spells the versions, among the reasons and below a met group
abbrev spelled : VersionShown
spelled = version_shown Spelled (codes "1.0-0" ∷ codes "0:2.0" ∷ [])

worked-spelled : detailed_text_by spelled
    (detailed_report_by spelled packages
    ((with_bound (codes "vv") LaterEqual (codes "3") ∷ []) ∷ (alone (codes "aa") ∷ []) ∷ []) target)
    ≡ codes "unmet vv (>= 3)\n"
    ++ (codes " vv (>= 3): 1 aa 1.0-0 amd64 is provided without a version\n"
    ++ (codes " vv (>= 3): 2 bb 0:2.0 i386 is earlier\n"
    ++ codes "met aa\n 1 aa 1.0-0 amd64\n"))
unfolding digits group_text
worked-spelled = refl

-- with the files, of which each has a package
abbrev in_files : VersionShown
in_files = with_files (1 ∷ 1 ∷ []) canonical_version

worked-files : detailed_text_by in_files
    (detailed_report_by in_files packages
    ((with_bound (codes "vv") LaterEqual (codes "3") ∷ []) ∷ (alone (codes "aa") ∷ []) ∷ []) target)
    ≡ codes "unmet vv (>= 3)\n"
    ++ (codes " vv (>= 3): 1 aa 1.0 amd64 is provided without a version @1\n"
    ++ (codes " vv (>= 3): 2 bb 2.0 i386 is earlier @2\n"
    ++ codes "met aa\n 1 aa 1.0 amd64 @1\n"))
unfolding digits group_text
worked-files = refl

-- by the qualifier; and a package that has the name and provides it has one line
worked-qualifiers : shown (with_qualifier (codes "aa") (codes "any") ∷ alone (codes "bb") ∷ [])
    ≡ codes "unmet aa:any | bb\n"
    ++ (codes " aa:any: 1 aa 1.0 amd64 isn't Multi-Arch: allowed\n"
    ++ codes " bb: 2 bb 2.0 i386 is of another architecture\n")
unfolding digits group_text
worked-qualifiers = refl

-- nothing below a met group, though packages don't meet one of its alternatives
worked-met : shown (alone (codes "cc") ∷ alone (codes "bb") ∷ alone (codes "vv") ∷ [])
    ≡ codes "met cc | bb | vv\n 1 aa 1.0 amd64\n"
unfolding digits group_text
worked-met = refl

-- `aa` with this list and these formulas
abbrev with_names : Bool → List (List ℕ) → List ℕ → Alternative
with_names negated names profile =
    record {
      name = codes "aa";
      qualifier = None;
      bound = None;
      architectures = Some (negated, names);
      formula = ((true, profile) ∷ []) ∷ [];
    }

-- a list without `!` that doesn't hold the target: its items with a hyphen, in their order
worked-systems : map (system_lines (codes "amd64"))
    (with_names false (codes "armhf" ∷ codes "kfreebsd-amd64" ∷ codes "linux-amd64" ∷ [])
    (codes "x")
    ∷ with_names false (codes "armhf" ∷ codes "i386" ∷ []) (codes "x") ∷ [])
    ≡ (codes " aa [armhf kfreebsd-amd64 linux-amd64] <!x>: kfreebsd-amd64 isn't the target amd64\n"
    ++ codes " aa [armhf kfreebsd-amd64 linux-amd64] <!x>: linux-amd64 isn't the target amd64\n")
    ∷ [] ∷ []
worked-systems = refl

-- a list with `!`, one that holds the target, and no list
worked-no_systems : map (system_lines (codes "amd64"))
    (with_names true (codes "amd64" ∷ codes "linux-amd64" ∷ []) (codes "x")
    ∷ with_names false (codes "amd64" ∷ codes "linux-amd64" ∷ []) (codes "x")
    ∷ with_formula (codes "aa") (codes "x") ∷ []) ≡ [] ∷ [] ∷ [] ∷ []
worked-no_systems = refl

-- below an ignored line, and among the reasons of an unmet one
worked-ignored : shown
    (with_list (codes "aa") false (codes "linux-amd64") ∷ with_formula (codes "bb") (codes "x")
    ∷ [])
    ≡ codes "ignored aa [linux-amd64] | bb <x>\n"
    ++ codes " aa [linux-amd64]: linux-amd64 isn't the target amd64\n"
unfolding digits group_text
worked-ignored = refl

worked-both : shown
    (with_list (codes "aa") false (codes "linux-amd64") ∷ alone (codes "cc")
    ∷ with_list (codes "aa") false (codes "linux-i386") ∷ [])
    ≡ codes "unmet aa [linux-amd64] | cc | aa [linux-i386]\n"
    ++ (codes " aa [linux-amd64]: linux-amd64 isn't the target amd64\n"
    ++ (codes " cc: no package has this name\n"
    ++ codes " aa [linux-i386]: linux-i386 isn't the target amd64\n"))
unfolding digits group_text
worked-both = refl

-- groups in the order of the relation, and no relation
worked-groups : detailed_text
    (detailed_report packages ((alone (codes "cc") ∷ []) ∷ (alone (codes "aa") ∷ []) ∷ []) target)
    ≡ codes "unmet cc\n cc: no package has this name\nmet aa\n 1 aa 1.0 amd64\n"
unfolding digits group_text
worked-groups = refl

worked-nothing : detailed_text (detailed_report packages [] target) ≡ []
worked-nothing = refl

-- the answers alone are those of the report
worked-answers : map answer_in (detailed_report packages ((alone (codes "cc") ∷ []) ∷ []) target)
    ≡ report packages ((alone (codes "cc") ∷ []) ∷ []) target
worked-answers = refl
