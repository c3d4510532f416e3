-- What the job of `installable` answers and reports. Its lines are those of `deb_install`; the
-- order of refusals is this project's own.
use Rattle.std.specs.Prelude.{◌≡◌, ◌⊎◌, ℕ, Bool, true, List, [], ◌∷◌, map, Some, Result, IfErr, IfOk, IsTrue}
use Rattle.std.specs.Prelude.{String, codes, refl, string_bytes}
use Rattle.std.specs.Str.{is_utf8, chars}
use lib.Utf8.{encode}
use Rattle.std.specs.declared.alloc.Global.{Global}
use Rattle.deb_base.specs.Devices.{read_failures_after, write_failures_after}
use Rattle.deb_base.specs.Literals.{lent, string, vector}
use Rattle.deb_base.specs.declared.fault.Fault.{Fault}
use Rattle.deb_control.specs.Calls.{IfRefused}
use Rattle.deb_control.specs.Checking.{IsRefusalOfDocument}
use Rattle.deb_control.specs.Documents.{refusal_of}
use Rattle.deb_relation.specs.Environments.{environment_with}
use Rattle.deb_index.specs.Members.{doc_of}
use Rattle.deb_index.specs.declared.members.Members.{Members}
use Rattle.deb_index.specs.declared.members.Members.TheVariants.{Installed}
use Rattle.deb_install.specs.Installing.{AsksInstallable, StopsAnswers, WritesAnswers, asks_installable}
use Rattle.deb_install.specs.Terms.{Terms, terms}
use Rattle.deb_unmet.specs.declared.asked.Strength.{Strength}
use Rattle.deb_unmet.specs.declared.asked.Strength.TheVariants.{Recommends}
use Rattle.deb_unmet.specs.declared.asking.Summary.{Summary}
use Rattle.debctl_args.specs.declared.jobs.Strength.TheVariants as named
use Rattle.debctl_args.specs.declared.jobs.Terms.{Terms as TermsNamed}
use Rattle.debctl_commands.specs.HealthJob.{FailsAtTarget, is_architecture, lines_report}
use Rattle.debctl_commands.specs.JobDevices.{ReaderOfJob, WriterOfJob}
use Rattle.debctl_commands.specs.Promises.{Promise, plain}
use Rattle.debctl_commands.specs.UnmetJob.{fields_tried}
use Rattle.debctl_commands.specs.declared.install_job.InstallAsked.{InstallAsked}

-- ---- the arguments

-- a target architecture, which paragraphs of the file are packages, what is asked of a set of them,
-- packages of which names have lines, and whether reasons follow the lines
pub record PackageWords : Type 0 where
  pub target : List ℕ
  pub members : Members
  pub terms : Terms
  pub names : List (List ℕ)
  pub reasons : Bool

abbrev pub package_words : List ℕ → Members → Terms → List (List ℕ) → Bool → PackageWords
package_words target members t names reasons =
    record { target = target; members = members; terms = t; names = names; reasons = reasons }

-- what is asked of a set: besides which fields count, what the arguments name
abbrev pub terms_named : Strength → TermsNamed → Terms
terms_named strength given =
    terms strength given.essential (map string_bytes given.without.items)

-- the arguments that the code holds, for a target architecture
abbrev pub package_words_of : List ℕ → InstallAsked → PackageWords
package_words_of target given =
    package_words target given.members
    (terms_named (fields_tried given.strength) given.terms.now) (map string_bytes given.names.now)
    given.reasons

-- what these arguments ask of a file
abbrev pub asks_of : PackageWords → AsksInstallable
asks_of w = asks_installable w.members w.terms w.names (environment_with w.target []) w.reasons

-- ---- the answer

-- The answer about the packages of a file, and what was written, whatever the budget of the search.
pub record AsksPackages {W : Type 0} (asks : AsksInstallable) (first : ReaderOfJob)
    (out : WriterOfJob W) (answer : Result Summary Fault) : Type 0 where
  pub ok : (text : List ℕ) → first.text ≡ Some text → IfOk answer
      (λ summary. WritesAnswers asks text summary (out.held out.old) (out.held out.new))
  pub refused : (text : List ℕ) → first.text ≡ Some text →
      IfRefused answer (λ refusal. refusal_of (doc_of asks.members) text ≡ Some refusal)
  pub stopped : (text : List ℕ) → first.text ≡ Some text → IfErr answer
      (λ fault. StopsAnswers fault asks text (out.held out.old) (out.held out.new))
  pub unwritten : IfRefused answer (λ _. out.new ≡ out.old)
  pub refusal : IfRefused answer IsRefusalOfDocument
  pub reads : first.failures_after ≡ read_failures_after first.failures answer
  pub writes : out.failures out.new ≡ write_failures_after (out.failures out.old) answer

-- What the job promises of these words.
abbrev pub install_promise : {W : Type 0} → PackageWords → Promise W
install_promise w =
    plain lines_report
    (λ first second out answer. FailsAtTarget w.target first out answer
    ⊎ (IsTrue (is_architecture w.target) × AsksPackages (asks_of w) first out answer))

-- ---- worked cases

-- the names bb and cc, as the code has them
abbrev bb : String Global
unfolding is_utf8 chars encode
bb = string (codes "bb") refl refl

abbrev cc : String Global
unfolding is_utf8 chars encode
cc = string (codes "cc") refl refl

abbrev without_both : TermsNamed
without_both = record { essential = true; without = vector (bb ∷ cc ∷ []) refl }

-- essential packages and two names that are left out, with recommended packages
abbrev all_terms : Terms
all_terms = terms Recommends true (codes "bb" ∷ codes "cc" ∷ [])

terms_of_words : terms_named Recommends without_both ≡ all_terms
unfolding bb cc
terms_of_words = refl

abbrev given : InstallAsked
given = record {
  members = Installed;
  strength = named.Recommends;
  terms = lent without_both;
  names = lent (cc ∷ bb ∷ []);
  budget = 1;
  reasons = true;
}

abbrev both : PackageWords
both = package_words (codes "amd64") Installed all_terms (codes "cc" ∷ codes "bb" ∷ []) true

words_of_code : package_words_of (codes "amd64") given ≡ both
unfolding bb cc
words_of_code = refl

asks_of_words : (asks_of both ≡ record {
  members = Installed;
  terms = all_terms;
  names = codes "cc" ∷ codes "bb" ∷ [];
  environment = environment_with (codes "amd64") [];
  reasons = true;
}) × (both ≡ record {
  target = codes "amd64";
  members = Installed;
  terms = all_terms;
  names = codes "cc" ∷ codes "bb" ∷ [];
  reasons = true;
})
asks_of_words = (refl, refl)
