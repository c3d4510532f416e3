-- Laws of what a file lists, of two files and their join, of reports on a relation, which canonical
-- text doesn't change, and of reasons.
-- Debian Policy 5.1 and 7.1; the canonical text is this project's own.
use Rattle.std.specs.Prelude.{◌≡◌, ◌++◌, ℕ, List, codes, map}
use Rattle.std.specs.Option.{is_none}
use Rattle.deb_relation.specs.Applying.{Environment}
use Rattle.deb_relation.specs.Grammar.{SpellsRelation}
use Rattle.deb_relation.specs.Meaning.{Alternative, Relation}
use Rattle.deb_relation.specs.Tests.{some_wildcard}
use Rattle.deb_relation.specs.Texts.{relation_text}
use Rattle.deb_base.specs.declared.doc.Doc.TheVariants.{Packages, Status}
use Rattle.deb_control.specs.Documents.{Meaning, Accepted, canonical_text}
use Rattle.deb_index.specs.Installed.{ListsInstalled}
use Rattle.deb_index.specs.Listed.{Listed}
use Rattle.deb_index.specs.Listing.{ListsAll}
use Rattle.deb_index.specs.Meeting.{meets}
use Rattle.deb_index.specs.Members.{ListsMembers}
use Rattle.deb_index.specs.Reasons.{reason}
use Rattle.deb_index.specs.Reports.{report}
use Rattle.deb_index.specs.Why.{answer_in, detailed_report}
use Rattle.deb_index.specs.declared.members.Members.{Members}

-- A file lists one list of packages at most.
abbrev pub ListsOnce : Type 0
ListsOnce =
    (text : List ℕ) (packages others : List Listed) → ListsAll text packages → ListsAll text others
    → packages ≡ others

-- The canonical text of a file lists what the file lists.
abbrev pub CanonicalTextLists : Type 0
CanonicalTextLists =
    (text : List ℕ) (meaning : Meaning) (packages : List Listed) → Accepted Packages text meaning
    → ListsAll text packages → ListsAll (canonical_text meaning) packages

-- A status file lists at most one list of installed packages, and its canonical text the same.
pub record InstalledPackagesAreMeant : Type 0 where
  pub once : (text : List ℕ) (packages others : List Listed) → ListsInstalled text packages
      → ListsInstalled text others → packages ≡ others
  pub canonical : (text : List ℕ) (meaning : Meaning) (packages : List Listed)
      → Accepted Status text meaning → ListsInstalled text packages
      → ListsInstalled (canonical_text meaning) packages

-- two newlines end the last line of a file, and its last paragraph
abbrev pub two_newlines : List ℕ
two_newlines = codes "\n\n"

-- A file in which a further one follows two newlines, if it is accepted, lists what the first does
-- and then what the further one does.
abbrev pub FurtherFileJoins : Type 0
FurtherFileJoins =
    (members : Members) (text more : List ℕ) (packages others all : List Listed)
    → ListsMembers members text packages → ListsMembers members more others
    → ListsMembers members ((text ++ two_newlines) ++ more) all → all ≡ packages ++ others

-- two relations over two lists have the same report, for every environment
pub record ReportAlike (packages others : List Listed) (m n : Relation) : Type 0 where
  pub reports : (environment : Environment)
      → report packages m environment ≡ report others n environment
  pub wildcards : some_wildcard m ≡ some_wildcard n

-- The report doesn't change if a file, a relation or both are replaced by their canonical text.
pub record CanonicalTextChangesNoAnswer : Type 0 where
  pub files : (text : List ℕ) (meaning : Meaning) (packages others : List Listed) (m : Relation)
      → Accepted Packages text meaning → ListsAll text packages
      → ListsAll (canonical_text meaning) others → ReportAlike packages others m m
  pub relations : (text : List ℕ) (packages : List Listed) (m n : Relation) → SpellsRelation text m
      → SpellsRelation (relation_text m) n → ReportAlike packages packages m n
  pub both : (file : List ℕ) (meaning : Meaning) (packages others : List Listed) (text : List ℕ)
      (m n : Relation) → Accepted Packages file meaning → ListsAll file packages
      → ListsAll (canonical_text meaning) others → SpellsRelation text m
      → SpellsRelation (relation_text m) n → ReportAlike packages others m n

-- There is no reason exactly if a package meets an alternative.
abbrev pub ReasonUnlessMet : Type 0
ReasonUnlessMet =
    (environment : Environment) (a : Alternative) (p : Listed)
    → is_none (reason environment a p) ≡ meets environment a p

-- The answers of the report with reasons are those of the report.
abbrev pub ReasonsChangeNoAnswer : Type 0
ReasonsChangeNoAnswer =
    (packages : List Listed) (relation : Relation) (environment : Environment)
    → map answer_in (detailed_report packages relation environment)
    ≡ report packages relation environment
