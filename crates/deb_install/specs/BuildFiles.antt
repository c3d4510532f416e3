-- What is written of a file of source packages: which of them can't be built. Debian Policy 4.2 and
-- 7.7; the form of the lines is this project's own.
use Rattle.std.specs.Prelude.{◌≡◌, ℕ, Bool, true, List, [], ◌∷◌, length, Option, codes, refl}
use Rattle.std.specs.Io.KnownBytes.{Appends}
use Rattle.std.specs.List.{filter}
use Rattle.deb_base.specs.Devices.{AppendsFront}
use Rattle.deb_base.specs.Literals.{lent}
use Rattle.deb_base.specs.declared.fault.Fault.{Fault}
use Rattle.deb_base.specs.declared.fault.Fault.TheVariants as faults
use Rattle.deb_control.specs.Documents.{Meaning, Accepted}
use Rattle.deb_index.specs.Listed.{Listed}
use Rattle.deb_index.specs.Members.{ListsMembers, has_values, doc_of as doc_listed}
use Rattle.deb_index.specs.declared.members.Members.{Members}
use Rattle.deb_index.specs.declared.members.Members.TheVariants.{Installed}
use Rattle.deb_relation.specs.Applying.{Environment}
use Rattle.deb_relation.specs.Views.{names_of}
use Rattle.deb_unmet.specs.Files.{is_nothing}
use Rattle.deb_unmet.specs.declared.asked.Strength.TheVariants.{Depends}
use Rattle.deb_unmet.specs.declared.asking.Summary.{Summary}
use Rattle.deb_install.specs.Passing.{for_amd64}
use Rattle.deb_install.specs.SourceAnswers.{AreSourceAnswers}
use Rattle.deb_install.specs.SourceKinds.{doc_of}
use Rattle.deb_install.specs.SourceReasonLines.{source_lines_with}
use Rattle.deb_install.specs.SourceReasons.{AreSourceReasonsIn, SourceReason}
use Rattle.deb_install.specs.Terms.{Terms, terms}
use Rattle.deb_install.specs.declared.answer.Answer.{Answer}
use Rattle.deb_install.specs.declared.builds.BuildRequest.{BuildRequest}
use Rattle.deb_install.specs.declared.source_kind.SourceKind.{SourceKind}
use Rattle.deb_install.specs.declared.source_kind.SourceKind.TheVariants.{Source}

-- what is asked of a file of source packages: with which packages of which other file, of which
-- kind it is, what is asked of a set of packages, for which environment, and whether reasons follow
-- the lines
pub record AsksBuildable : Type 0 where
  pub members : Members
  pub index : List ℕ
  pub kind : SourceKind
  pub terms : Terms
  pub environment : Environment
  pub reasons : Bool

abbrev pub build_terms : BuildRequest → Terms
build_terms request = terms Depends request.essential (names_of request.without.now)

abbrev pub asks_buildable : Members → List ℕ → BuildRequest → Environment → AsksBuildable
asks_buildable members index request environment = record {
  members = members;
  index = index;
  kind = request.kind;
  terms = build_terms request;
  environment = environment;
  reasons = request.reasons;
}

-- Both files are accepted, and the first lists these packages. There is a true answer of each
-- source package of the second, and there are reasons of it.
pub record BuildAnswers (asks : AsksBuildable) (text : List ℕ) : Type 0 where
  pub packages : List Listed
  pub lists : ListsMembers asks.members asks.index packages
  pub meaning : Meaning
  pub lists_accepted : Accepted (doc_listed asks.members) asks.index meaning
  pub sources : Meaning
  pub accepted : Accepted (doc_of asks.kind) text sources
  pub answer : ℕ → Answer
  pub are_true : AreSourceAnswers asks.terms asks.environment packages
      (filter (has_values asks.members) meaning) sources answer
  pub reasons : ℕ → List SourceReason
  pub are_reasons : AreSourceReasonsIn asks.terms asks.environment packages
      (filter (has_values asks.members) meaning) sources reasons

-- Exactly the lines of these answers were written, with their reasons if these are asked. The
-- summary says how many source packages there are, and whether there is no line.
pub record WritesBuildable (asks : AsksBuildable) (text : List ℕ) (summary : Summary)
    (old new : Option (List ℕ)) : Type 0 where
  pub file : BuildAnswers asks text
  pub count : length file.sources ≡ summary.paragraphs
  pub written : Appends old new
      (source_lines_with asks.reasons asks.kind file.answer file.reasons file.packages file.sources)
  pub is_empty : summary.is_empty ≡ is_nothing
      (source_lines_with asks.reasons asks.kind file.answer file.reasons file.packages file.sources)

-- A prefix of these lines was written.
pub record BeginsBuildable (asks : AsksBuildable) (text : List ℕ) (old new : Option (List ℕ)) :
    Type 0 where
  pub file : BuildAnswers asks text
  pub written : AppendsFront old new
      (source_lines_with asks.reasons asks.kind file.answer file.reasons file.packages file.sources)

-- Nothing was written, or a write failed: then a prefix of the lines of an accepted file was.
abbrev pub StopsBuildable : Fault → AsksBuildable → List ℕ → Option (List ℕ) → Option (List ℕ)
    → Type 0
StopsBuildable (faults.Refused refusal) asks text old new = old ≡ new
StopsBuildable faults.Memory asks text old new = old ≡ new
StopsBuildable faults.Read asks text old new = old ≡ new
StopsBuildable faults.Write asks text old new = BeginsBuildable asks text old new

-- with essential packages, without bb, and with reasons
abbrev request : BuildRequest
request = record {
  kind = Source;
  essential = true;
  without = lent (lent (codes "bb") ∷ []);
  budget = record { one_search = 1 };
  reasons = true;
}

worked-asks : (build_terms request ≡ terms Depends true (codes "bb" ∷ []))
    × (asks_buildable Installed (codes "Package: a\n") request for_amd64
    ≡ record {
      members = Installed;
      index = codes "Package: a\n";
      kind = Source;
      terms = terms Depends true (codes "bb" ∷ []);
      environment = for_amd64;
      reasons = true;
    })
worked-asks = (refl, refl)
