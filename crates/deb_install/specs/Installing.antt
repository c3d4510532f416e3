-- What is written of a file: which of its packages can't be installed. Debian Policy 7.2 to 7.5;
-- the form of the lines is this project's own.
use Rattle.std.specs.Prelude.{◌≡◌, ℕ, Bool, true, List, [], ◌∷◌, codes, length, Option, refl}
use Rattle.std.specs.Io.KnownBytes.{Appends}
use Rattle.std.specs.List.{filter}
use Rattle.deb_base.specs.Devices.{AppendsFront}
use Rattle.deb_base.specs.Literals.{lent}
use Rattle.deb_base.specs.declared.fault.Fault.{Fault}
use Rattle.deb_base.specs.declared.fault.Fault.TheVariants as faults
use Rattle.deb_control.specs.Documents.{Meaning, Accepted}
use Rattle.deb_index.specs.Listed.{Listed}
use Rattle.deb_index.specs.Members.{ListsMembers, doc_of, has_values}
use Rattle.deb_index.specs.declared.members.Members.{Members}
use Rattle.deb_index.specs.declared.members.Members.TheVariants.{Installed}
use Rattle.deb_relation.specs.Applying.{Environment}
use Rattle.deb_relation.specs.Views.{names_of}
use Rattle.deb_unmet.specs.Files.{is_nothing}
use Rattle.deb_unmet.specs.declared.asked.Strength.TheVariants.{Recommends}
use Rattle.deb_unmet.specs.declared.asking.Summary.{Summary}
use Rattle.deb_install.specs.Answers.{AreAnswers, AskedNames, names_asked}
use Rattle.deb_install.specs.Passing.{for_amd64}
use Rattle.deb_install.specs.ReasonLines.{lines_with}
use Rattle.deb_install.specs.Reasons.{AreReasonsIn, Reason}
use Rattle.deb_install.specs.Terms.{Terms, terms}
use Rattle.deb_install.specs.declared.answer.Answer.{Answer}
use Rattle.deb_install.specs.declared.verdicts.InstallRequest.{InstallRequest}

-- what is asked of a file: which of its paragraphs are packages, what is asked of a set of them,
-- packages of which names have lines, for which environment, and whether reasons follow the lines
pub record AsksInstallable : Type 0 where
  pub members : Members
  pub terms : Terms
  pub names : List (List ℕ)
  pub environment : Environment
  pub reasons : Bool

abbrev pub asks_installable : Members → Terms → List (List ℕ) → Environment → Bool
    → AsksInstallable
asks_installable members t names environment reasons = record {
  members = members;
  terms = t;
  names = names;
  environment = environment;
  reasons = reasons;
}

-- the names of packages that have lines, and of those that are left out
abbrev pub names_by : AsksInstallable → AskedNames
names_by asks = names_asked asks.names asks.terms.without

abbrev pub terms_by : InstallRequest → Terms
terms_by request = terms request.strength request.essential (names_of request.without.now)

abbrev pub asks_by : InstallRequest → Environment → AsksInstallable
asks_by request environment =
    asks_installable request.members (terms_by request) (names_of request.names.now) environment
    request.reasons

-- This text has the lines of true answers, and of reasons if they are asked.
pub record HasAnswers (asks : AsksInstallable) (packages : List Listed) (meaning : Meaning)
    (text : List ℕ) : Type 0 where
  pub answer : ℕ → Answer
  pub are_true : AreAnswers asks.terms asks.environment packages meaning answer
  pub reasons : ℕ → List Reason
  pub are_reasons : AreReasonsIn asks.terms asks.environment packages meaning reasons
  pub is : text ≡ lines_with asks.reasons (names_by asks) answer reasons packages

-- The file is accepted and lists these packages. There is a true answer of each, by its number, and
-- there are reasons of it.
pub record FileAnswers (asks : AsksInstallable) (text : List ℕ) : Type 0 where
  pub packages : List Listed
  pub lists : ListsMembers asks.members text packages
  pub meaning : Meaning
  pub accepted : Accepted (doc_of asks.members) text meaning
  pub answer : ℕ → Answer
  pub are_true : AreAnswers asks.terms asks.environment packages
      (filter (has_values asks.members) meaning) answer
  pub reasons : ℕ → List Reason
  pub are_reasons : AreReasonsIn asks.terms asks.environment packages
      (filter (has_values asks.members) meaning) reasons

-- Exactly the lines of these answers were written, with their reasons if these are asked. The
-- summary says how many packages there are, and whether there is no line.
pub record WritesAnswers (asks : AsksInstallable) (text : List ℕ) (summary : Summary)
    (old new : Option (List ℕ)) : Type 0 where
  pub file : FileAnswers asks text
  pub count : length file.packages ≡ summary.paragraphs
  pub written : Appends old new
      (lines_with asks.reasons (names_by asks) file.answer file.reasons file.packages)
  pub is_empty : summary.is_empty ≡ is_nothing
      (lines_with asks.reasons (names_by asks) file.answer file.reasons file.packages)

-- A prefix of these lines was written.
pub record BeginsAnswers (asks : AsksInstallable) (text : List ℕ) (old new : Option (List ℕ)) :
    Type 0 where
  pub file : FileAnswers asks text
  pub written : AppendsFront old new
      (lines_with asks.reasons (names_by asks) file.answer file.reasons file.packages)

-- Nothing was written, or a write failed: then a prefix of the lines of an accepted file was.
abbrev pub StopsAnswers : Fault → AsksInstallable → List ℕ → Option (List ℕ) → Option (List ℕ)
    → Type 0
StopsAnswers (faults.Refused refusal) asks text old new = old ≡ new
StopsAnswers faults.Memory asks text old new = old ≡ new
StopsAnswers faults.Read asks text old new = old ≡ new
StopsAnswers faults.Write asks text old new = BeginsAnswers asks text old new

-- what recommended packages need too, with essential packages, and without bb
abbrev all_terms : Terms
all_terms = terms Recommends true (codes "bb" ∷ [])

worked-asks : (asks_installable Installed all_terms (codes "aa" ∷ []) for_amd64 true ≡ record {
  members = Installed;
  terms = all_terms;
  names = codes "aa" ∷ [];
  environment = for_amd64;
  reasons = true;
}) × (names_by (asks_installable Installed all_terms (codes "aa" ∷ []) for_amd64 true)
    ≡ names_asked (codes "aa" ∷ []) (codes "bb" ∷ []))
worked-asks = (refl, refl)

abbrev request : InstallRequest
request = record {
  members = Installed;
  strength = Recommends;
  essential = true;
  without = lent (lent (codes "bb") ∷ []);
  names = lent (lent (codes "aa") ∷ []);
  budget = record { one_search = 1 };
  reasons = true;
}

worked-by : (terms_by request ≡ all_terms)
    × (asks_by request for_amd64
    ≡ asks_installable Installed all_terms (codes "aa" ∷ []) for_amd64 true)
worked-by = (refl, refl)
