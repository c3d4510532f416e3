-- What the job of `installable` answers and reports of source packages. Its lines are those of
-- `deb_install`; the order of refusals is this project's own.
use Rattle.std.specs.Prelude.{◌≡◌, ◌⊎◌, ℕ, Bool, true, false, List, [], ◌∷◌, map, String, string_bytes}
use Rattle.std.specs.Prelude.{Option, Some, Result, IfOk, IfErr, IsFalse, IsTrue, codes, refl}
use Rattle.std.specs.declared.alloc.Global.{Global}
use Rattle.std.proofs.Common.{ap}
use Rattle.deb_base.specs.Devices.{read_failures_after, write_failures_after}
use Rattle.deb_base.specs.Literals.{lent}
use Rattle.deb_base.specs.declared.fault.Fault.{Fault}
use Rattle.deb_control.specs.Calls.{IfRefused}
use Rattle.deb_control.specs.Checking.{IsRefusalOfDocument}
use Rattle.deb_control.specs.Documents.{refusal_of}
use Rattle.deb_control.specs.declared.side.Side.TheVariants.{Second}
use Rattle.deb_index.specs.Listed.{Listed}
use Rattle.deb_index.specs.Members.{ListsMembers}
use Rattle.deb_index.specs.declared.members.Members.{Members}
use Rattle.deb_index.specs.declared.members.Members.TheVariants.{Installed}
use Rattle.deb_install.specs.BuildFiles.{AsksBuildable, StopsBuildable, WritesBuildable, build_terms}
use Rattle.deb_install.specs.SourceKinds.{doc_of}
use Rattle.deb_install.specs.Terms.{Terms, terms}
use Rattle.deb_install.specs.declared.builds.BuildRequest.{BuildRequest}
use Rattle.deb_install.specs.declared.source_kind.SourceKind.{SourceKind}
use Rattle.deb_install.specs.declared.source_kind.SourceKind.TheVariants.{Sources, Source}
use Rattle.deb_relation.specs.Applying.{Environment}
use Rattle.deb_relation.specs.Environments.{environment_with}
use Rattle.deb_relation.specs.Targets.{is_environment}
use Rattle.deb_unmet.specs.declared.asked.Strength.TheVariants.{Depends}
use Rattle.deb_unmet.specs.declared.asking.Summary.{Summary}
use Rattle.debctl_args.specs.declared.jobs.SourceKind.{SourceKind as KindNamed}
use Rattle.debctl_args.specs.declared.jobs.SourceKind.TheVariants as named
use Rattle.debctl_commands.specs.InstallJob.{terms_named}
use Rattle.debctl_commands.specs.JobDevices.{ReaderOfJob, WriterOfJob}
use Rattle.debctl_commands.specs.Promises.{Promise, Saying}
use Rattle.debctl_commands.specs.SideAnswers.{FailsAtIndex, FailsAtWords, Failure, IsRefusedIndex}
use Rattle.debctl_commands.specs.SideAnswers.{at_side, fault_of, line_of, unmet_report}
use Rattle.debctl_commands.specs.declared.build_job.BuildWords.{BuildWords}

-- ---- the arguments

-- a target architecture, the profiles that are active, which packages of its file the index has,
-- the kind of the file of source packages, what is asked of a set of packages, and whether reasons
-- follow the lines
pub record SourceWords : Type 0 where
  pub target : List ℕ
  pub profiles : List (List ℕ)
  pub members : Members
  pub kind : SourceKind
  pub terms : Terms
  pub reasons : Bool

abbrev pub source_words : List ℕ → List (List ℕ) → Members → SourceKind → Terms → Bool
    → SourceWords
source_words target profiles members kind t reasons = record {
  target = target;
  profiles = profiles;
  members = members;
  kind = kind;
  terms = t;
  reasons = reasons;
}

-- there is an environment of these arguments
abbrev pub can_be_asked : SourceWords → Bool
can_be_asked w = is_environment w.target w.profiles

-- the kind that the arguments name
abbrev pub kind_tried : KindNamed → SourceKind
kind_tried named.Sources = Sources
kind_tried named.Source = Source

-- the arguments that the code holds
abbrev pub source_words_of : BuildWords → SourceWords
source_words_of given =
    source_words given.target.now (map string_bytes given.profiles.now) given.members given.kind
    (terms_named Depends given.terms.now) given.search.reasons

-- The arguments are refused, or the index is.
abbrev pub AreRefusedSources : SourceWords → Option (List ℕ) → Type 0
AreRefusedSources w left = IsFalse (can_be_asked w) ⊎ IsRefusedIndex w.members left

-- ---- what is asked

-- what is asked of a file of source packages, but for the file of the index: with which packages of
-- the index, of which kind the file is, what is asked of a set of packages, for which environment,
-- and whether reasons follow the lines
pub record AsksSources : Type 0 where
  pub members : Members
  pub kind : SourceKind
  pub terms : Terms
  pub environment : Environment
  pub reasons : Bool

abbrev pub asks_sources : Members → SourceKind → Terms → Environment → Bool → AsksSources
asks_sources members kind t environment reasons = record {
  members = members;
  kind = kind;
  terms = t;
  environment = environment;
  reasons = reasons;
}

-- what the arguments ask, and what a request asks with the members of an index
abbrev pub asks_of_words : SourceWords → AsksSources
asks_of_words w =
    asks_sources w.members w.kind w.terms (environment_with w.target w.profiles) w.reasons

abbrev pub asks_of_request : Members → BuildRequest → Environment → AsksSources
asks_of_request members request environment =
    asks_sources members request.kind (build_terms request) environment request.reasons

-- with this file of the index
abbrev pub asks_with : AsksSources → List ℕ → AsksBuildable
asks_with asks index = record {
  members = asks.members;
  index = index;
  kind = asks.kind;
  terms = asks.terms;
  environment = asks.environment;
  reasons = asks.reasons;
}

-- ---- the answer

-- The answer about the source packages of a file, and what was written, whatever the budget of the
-- search. The index is a file of which this holds.
pub record AnswersSources {W : Type 0} (IsIndex : List ℕ → Type 0) (asks : AsksSources)
    (second : ReaderOfJob) (out : WriterOfJob W) (answer : Result Summary Fault) : Type 0 where
  pub ok : (index text : List ℕ) → IsIndex index → second.text ≡ Some text → IfOk answer
      (λ summary. WritesBuildable (asks_with asks index) text summary (out.held out.old)
      (out.held out.new))
  pub refused : (text : List ℕ) → second.text ≡ Some text →
      IfRefused answer (λ refusal. refusal_of (doc_of asks.kind) text ≡ Some refusal)
  pub stopped : (index text : List ℕ) → IsIndex index → second.text ≡ Some text → IfErr answer
      (λ fault. StopsBuildable fault (asks_with asks index) text (out.held out.old)
      (out.held out.new))
  pub unwritten : IfRefused answer (λ _. out.new ≡ out.old)
  pub refusal : IfRefused answer IsRefusalOfDocument
  pub reads : second.failures_after ≡ read_failures_after second.failures answer
  pub writes : out.failures out.new ≡ write_failures_after (out.failures out.old) answer

-- The index was read, and the file of source packages has an answer with its packages.
pub record BuildsWith {W : Type 0} (asks : AsksSources) (first second : ReaderOfJob)
    (out : WriterOfJob W) (answer : Result Summary Failure) : Type 0 where
  pub packages : List Listed
  pub lists : (text : List ℕ) → first.text ≡ Some text → ListsMembers asks.members text packages
  pub unfailed : first.failures_after ≡ first.failures
  pub tried : Result Summary Fault
  pub is : answer ≡ at_side Second tried
  pub answers : AnswersSources (λ index. first.text ≡ Some index) asks second out tried

abbrev pub BuildsBeside : {W : Type 0} → AsksSources → Saying W Summary Failure
BuildsBeside asks first second out answer =
    FailsAtIndex asks.members first second out answer
    ⊎ BuildsWith asks first second out answer

-- What the job promises of these words.
abbrev pub build_promise : {W : Type 0} → SourceWords → Promise W
build_promise {W} w =
    record {
      Answer = Summary;
      Failure = Failure;
      report = unmet_report;
      fault = fault_of;
      line = line_of;
      Says = λ first second out answer. FailsAtWords (can_be_asked w) first second out answer
          ⊎ (IsTrue (can_be_asked w)
          × BuildsBeside (asks_of_words w) first second out answer);
    }

-- ---- worked cases

kinds_named : map kind_tried (named.Sources ∷ named.Source ∷ []) ≡ Sources ∷ Source ∷ []
kinds_named = refl

-- with essential packages, and without bb
abbrev all_terms : Terms
all_terms = terms Depends true (codes "bb" ∷ [])

-- a target and profiles that are names
words_to_ask : map can_be_asked
    (source_words (codes "amd64") (codes "nocheck" ∷ []) Installed Source all_terms false
    ∷ source_words (codes "any") [] Installed Source all_terms false
    ∷ source_words (codes "amd64") ([] ∷ []) Installed Sources all_terms true ∷ [])
    ≡ true ∷ false ∷ false ∷ []
words_to_ask = refl

-- the arguments that the code holds are those words
words_of_build : (given : BuildWords) (one other : String Global)
    → given.profiles.now ≡ one ∷ other ∷ []
    → source_words_of given
    ≡ source_words given.target.now (string_bytes one ∷ string_bytes other ∷ []) given.members
    given.kind (terms_named Depends given.terms.now) given.search.reasons
words_of_build given one other are =
    ap (λ profiles. source_words given.target.now (map string_bytes profiles) given.members
    given.kind (terms_named Depends given.terms.now) given.search.reasons) are

-- of the arguments, of a request, and with an index
abbrev request : BuildRequest
request = record {
  kind = Source;
  essential = true;
  without = lent (lent (codes "bb") ∷ []);
  budget = record { one_search = 1 };
  reasons = true;
}

abbrev asked : AsksSources
asked = asks_sources Installed Source all_terms (environment_with (codes "amd64") []) true

worked_asks : (asks_of_words (source_words (codes "amd64") [] Installed Source all_terms true)
    ≡ asked)
    × (asks_of_request Installed request (environment_with (codes "amd64") []) ≡ asked)
    × (asks_with asked (codes "Package: a\n") ≡ record {
      members = Installed;
      index = codes "Package: a\n";
      kind = Source;
      terms = all_terms;
      environment = environment_with (codes "amd64") [];
      reasons = true;
    })
worked_asks = (refl, refl, refl)
