-- What is written of a file for a package to install: a healthy set that contains it. Debian Policy
-- 7.2 to 7.5; the form of the lines is this project's own.
use Rattle.std.specs.Prelude.{◌≡◌, ℕ, ◌==◌, Bool, true, false, not, cond, List, [], ◌∷◌, length, Option, Some, codes, refl}
use Rattle.std.specs.Fmt.{digits}
use Rattle.std.specs.Io.KnownBytes.{Appends}
use Rattle.std.specs.List.{filter}
use Rattle.deb_base.specs.Devices.{AppendsFront}
use Rattle.deb_base.specs.declared.fault.Fault.{Fault}
use Rattle.deb_base.specs.declared.fault.Fault.TheVariants as faults
use Rattle.deb_control.specs.Documents.{Meaning, Accepted}
use Rattle.deb_health.specs.Lines.{listed}
use Rattle.deb_index.specs.Listed.{Listed}
use Rattle.deb_index.specs.Members.{ListsMembers, doc_of, has_values}
use Rattle.deb_index.specs.Named.{package_at}
use Rattle.deb_index.specs.ReportText.{canonical_version, package_line}
use Rattle.deb_index.specs.Reports.{Numbered}
use Rattle.deb_install.specs.Answers.{AreAnswers, AskedNames, is_asked, lines_from}
use Rattle.deb_install.specs.Installable.{is_healthy_by_terms}
use Rattle.deb_install.specs.Installing.{AsksInstallable, names_by}
use Rattle.deb_install.specs.ReasonLines.{lines_with}
use Rattle.deb_install.specs.Reasons.{AreReasonsIn, Reason}
use Rattle.deb_install.specs.declared.answer.Answer.{Answer}
use Rattle.deb_install.specs.declared.answer.Answer.TheVariants.{Installable}
use Rattle.deb_install.specs.declared.readings.Readings.TheVariants.{Every}
use Rattle.deb_install.specs.declared.witnesses.Sought.{Sought}

-- The package with this number is listed, and is asked.
pub record IsAskedAt (names : AskedNames) (packages : List Listed) (number : ℕ) : Type 0 where
  pub «package» : Listed
  pub at : package_at number packages ≡ Some «package»
  pub asked : is_asked names «package».name ≡ true

-- The set is healthy in every reading, and contains a package that is asked.
pub record IsWitness (asks : AsksInstallable) (packages : List Listed) (meaning : Meaning)
    (set : ℕ → Bool) : Type 0 where
  pub healthy : is_healthy_by_terms Every asks.terms asks.environment packages meaning set
      ≡ true
  pub number : ℕ
  pub is_asked : IsAskedAt (names_by asks) packages number
  pub contains : set number ≡ true

-- a member of a set has the line of a package that `query` found
abbrev pub member_line : (ℕ → Bool) → Numbered → List ℕ
member_line set p = cond (set p.0) (package_line canonical_version p) []

-- the lines of the members of a set, in their order
abbrev pub set_lines : (ℕ → Bool) → List Listed → List ℕ
set_lines set packages = lines_from (member_line set) 1 packages

-- These are the lines of such a set.
pub record HasSet (asks : AsksInstallable) (packages : List Listed) (meaning : Meaning)
    (lines : List ℕ) : Type 0 where
  pub set : ℕ → Bool
  pub is : IsWitness asks packages meaning set
  pub lines_are : lines ≡ set_lines set packages

-- These are the lines of true answers, none of which is `Installable`: each package that is asked
-- has a line. Reasons follow it, if they are asked.
pub record HasNoSet (asks : AsksInstallable) (packages : List Listed) (meaning : Meaning)
    (lines : List ℕ) : Type 0 where
  pub answer : ℕ → Answer
  pub are_true : AreAnswers asks.terms asks.environment packages meaning answer
  pub none : (number : ℕ) → answer number ≡ Installable → ⊥
  pub reasons : ℕ → List Reason
  pub are_reasons : AreReasonsIn asks.terms asks.environment packages meaning reasons
  pub lines_are : lines ≡ lines_with asks.reasons (names_by asks) answer reasons packages

abbrev pub HasSought : AsksInstallable → List Listed → Meaning → Bool → List ℕ → Type 0
HasSought asks packages meaning true lines = HasSet asks packages meaning lines
HasSought asks packages meaning false lines = HasNoSet asks packages meaning lines

-- The file is accepted and lists these packages; these are the lines of what was found among them.
pub record FileSought (asks : AsksInstallable) (text : List ℕ) (is_found : Bool)
    (lines : List ℕ) : Type 0 where
  pub packages : List Listed
  pub lists : ListsMembers asks.members text packages
  pub meaning : Meaning
  pub accepted : Accepted (doc_of asks.members) text meaning
  pub has : HasSought asks packages (filter (has_values asks.members) meaning) is_found lines

-- Exactly these lines were written.
pub record WritesWitness (asks : AsksInstallable) (text : List ℕ) (sought : Sought)
    (old new : Option (List ℕ)) : Type 0 where
  pub lines : List ℕ
  pub file : FileSought asks text sought.is_found lines
  pub count : length file.packages ≡ sought.paragraphs
  pub written : Appends old new lines

-- A prefix of such lines was written.
pub record BeginsWitness (asks : AsksInstallable) (text : List ℕ) (old new : Option (List ℕ)) :
    Type 0 where
  pub is_found : Bool
  pub lines : List ℕ
  pub file : FileSought asks text is_found lines
  pub written : AppendsFront old new lines

-- Nothing was written, or a write failed: then a prefix of the lines of an accepted file was.
abbrev pub StopsWitness : Fault → AsksInstallable → List ℕ → Option (List ℕ) → Option (List ℕ)
    → Type 0
StopsWitness (faults.Refused refusal) asks text old new = old ≡ new
StopsWitness faults.Memory asks text old new = old ≡ new
StopsWitness faults.Read asks text old new = old ≡ new
StopsWitness faults.Write asks text old new = BeginsWitness asks text old new

abbrev packages : List Listed
packages =
    listed (codes "aa") (codes "1.0-0") (codes "all")
    ∷ listed (codes "bb") (codes "2") (codes "all")
    ∷ listed (codes "cc") (codes "3") (codes "amd64") ∷ []

worked-members : set_lines (λ number. not (number == 2)) packages
    ≡ codes " 1 aa 1.0 all\n 3 cc 3 amd64\n"
unfolding digits
worked-members = refl
