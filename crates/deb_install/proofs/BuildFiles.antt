-- The source packages of a file, with the packages of another one: what is written of them.
use Rattle.std.proofs.Common.{◌≡◌, ℕ, List, length, Option, refl, sym, ap, ◌∙◌, subst}
use Rattle.std.specs.Io.KnownBytes.{Appends}
use Rattle.std.specs.List.{filter}
use Rattle.deb_base.specs.Devices.{AppendsFront}
use Rattle.deb_base.specs.Faults.{IsReadersFault}
use Rattle.deb_base.specs.declared.fault.Fault.{Fault}
use Rattle.deb_base.specs.declared.fault.Fault.TheVariants as faults
use Rattle.deb_base.specs.declared.refusal.Refusal.{Refusal}
use Rattle.deb_index.specs.Indexes.{packages_of}
use Rattle.deb_index.specs.Members.{has_values}
use Rattle.deb_unmet.specs.Files.{is_nothing}
use Rattle.deb_unmet.specs.declared.asking.Summary.{Summary}
use Rattle.deb_install.specs.BuildFiles.{AsksBuildable, BeginsBuildable, BuildAnswers, StopsBuildable, WritesBuildable}
use Rattle.deb_install.specs.KeptSources.{HoldsSources}
use Rattle.deb_install.specs.ReadPackages.{HoldsFile}
use Rattle.deb_install.specs.SourceExplaining.{HasSourceAnswers}
use Rattle.deb_install.specs.declared.kept_source.KeptSource.{KeptSource}
use Rattle.deb_install.specs.declared.packages.Packages.{Packages}
use Rattle.deb_install.proofs.FileAnswers.{HeldFile, held-file}

pub file-held : (asks : AsksBuildable) (packages : Packages) → HoldsFile asks.members asks.index packages → HeldFile asks.members asks.index (packages_of packages.index) packages.kept.items
file-held asks packages holds = held-file asks.members asks.index (packages_of packages.index) packages.kept.items holds.lists holds.keeps

module _ (asks : AsksBuildable) (text : List ℕ) (packages : Packages) (kept : List KeptSource) (holds : HoldsFile asks.members asks.index packages) (sources : HoldsSources asks.kind text kept) (lines : List ℕ) (has : HasSourceAnswers asks.reasons asks.kind asks.terms asks.environment (packages_of packages.index) (filter (has_values asks.members) (file-held asks packages holds).meaning) sources.meaning lines) where
  abbrev answers : BuildAnswers asks text
  answers = record {
    packages = packages_of packages.index;
    lists = holds.lists;
    meaning = (file-held asks packages holds).meaning;
    lists_accepted = (file-held asks packages holds).accepted;
    sources = sources.meaning;
    accepted = sources.accepted;
    answer = has.answer;
    are_true = has.are_true;
    reasons = has.reasons;
    are_reasons = has.are_reasons;
  }

  pub writes-buildable : (summary : Summary) (old new : Option (List ℕ)) → length sources.meaning ≡ summary.paragraphs → Appends old new lines → summary.is_empty ≡ is_nothing lines → WritesBuildable asks text summary old new
  writes-buildable summary old new count written is_empty = record {
    file = answers;
    count = count;
    written = subst (Appends old new) has.is written;
    is_empty = is_empty ∙ ap is_nothing has.is;
  }

  pub begins-buildable : (old new : Option (List ℕ)) → AppendsFront old new lines → BeginsBuildable asks text old new
  begins-buildable old new written = record { file = answers; written = subst (AppendsFront old new) has.is written }

pub stopped-building : (fault : Fault) (asks : AsksBuildable) (text : List ℕ) (old new : Option (List ℕ)) → fault ≡ faults.Write → BeginsBuildable asks text old new → StopsBuildable fault asks text old new
stopped-building fault asks text old new is begins = subst (λ f. StopsBuildable f asks text old new) (sym is) begins

-- a fault of the reader comes before anything is written
pub unbegun : (fault : Fault) (P : Refusal → Type 0) (asks : AsksBuildable) (text : List ℕ) (held : Option (List ℕ)) → IsReadersFault fault P → StopsBuildable fault asks text held held
unbegun (faults.Refused refusal) P asks text held is = refl
unbegun faults.Memory P asks text held is = refl
unbegun faults.Read P asks text held is = refl
unbegun faults.Write P asks text held is = absurd is
