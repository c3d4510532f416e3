-- What the job of `diff` answers. Its lines are those of `deb_diff`; acceptance and
-- refusals are those of documents of a kind (Debian Policy 5.1 and 5.3 to 5.6).
use Rattle.std.specs.Prelude.{◌≡◌, ℕ, Bool, List, [], ◌∷◌, map, Option, Some, refl}
use Rattle.std.specs.Prelude.{Result, IfOk, IfErr}
use Rattle.deb_base.specs.Devices.{read_failures_after, write_failures_after}
use Rattle.deb_base.specs.declared.refusal.Refusal.{Refusal}
use Rattle.deb_control.specs.Calls.{IfRefused, IfWriteFailed}
use Rattle.deb_control.specs.Comparing.{RefusesSecond}
use Rattle.deb_control.specs.Documents.{refusal_of}
use Rattle.deb_control.specs.Sides.{of_first, of_second}
use Rattle.deb_control.specs.declared.side.SideFault.{SideFault}
use Rattle.deb_base.specs.declared.version_text.VersionText.{VersionText}
use Rattle.deb_base.specs.declared.version_text.VersionText.TheVariants.{Spelled}
use Rattle.deb_diff.specs.Kinds.{doc_of}
use Rattle.deb_diff.specs.Lines.{form_of}
use Rattle.deb_diff.specs.Written.{IsDiffFault, KeepsHeld, WritesDiff, WritesSome}
use Rattle.deb_diff.specs.declared.detail.Detail.{Detail}
use Rattle.deb_diff.specs.declared.detail.Detail.TheVariants as details
use Rattle.deb_diff.specs.declared.form.Form.{Form}
use Rattle.deb_diff.specs.declared.kind.Kind.{Kind}
use Rattle.deb_diff.specs.declared.kind.Kind.TheVariants as kinds
use Rattle.debctl_args.specs.declared.jobs.DiffDetail.{DiffDetail}
use Rattle.debctl_args.specs.declared.jobs.DiffDetail.TheVariants.{Fields, Values}
use Rattle.debctl_args.specs.declared.jobs.DiffKind.{DiffKind}
use Rattle.debctl_args.specs.declared.jobs.DiffKind.TheVariants.{Packages, Binary, Sources, Source, Status}
use Rattle.debctl_commands.specs.JobDevices.{ReaderOfJob, WriterOfJob}

-- ---- the arguments

-- the kind of both files
abbrev pub kind_of : DiffKind → Kind
kind_of Packages = kinds.Packages
kind_of Binary = kinds.Binary
kind_of Sources = kinds.Sources
kind_of Source = kinds.Source
kind_of Status = kinds.Status

-- how much is written of each paragraph that changed
abbrev pub detail_of : DiffDetail → Detail
detail_of Fields = details.Fields
detail_of Values = details.Values

-- and which text of versions
abbrev pub form_asked : DiffDetail → VersionText → Form
form_asked detail versions = form_of (detail_of detail) versions

-- ---- the answer

-- What is answered of the old file and of the new one, and what was written: by their readers'
-- texts, their counts of failed calls before and after, and the writer before and after.
pub record FindsChanges {W : Type 0} (kind : DiffKind) (form : Form)
    (old_file new_file : ReaderOfJob) (out : WriterOfJob W) (answer : Result Bool SideFault)
    : Type 0 where
  pub ok : (text other : List ℕ) → old_file.text ≡ Some text → new_file.text ≡ Some other →
      IfOk answer (WritesDiff (kind_of kind) form text other
      (out.held out.old) (out.held out.new))
  pub first : (text : List ℕ) → old_file.text ≡ Some text → IfRefused (of_first answer)
      (λ refusal. refusal_of (doc_of (kind_of kind)) text ≡ Some refusal)
  pub second : (text other : List ℕ) → old_file.text ≡ Some text → new_file.text ≡ Some other →
      IfRefused (of_second answer) (RefusesSecond (doc_of (kind_of kind)) text other)
  pub write : (text other : List ℕ) → old_file.text ≡ Some text → new_file.text ≡ Some other →
      IfWriteFailed (of_second answer)
      (WritesSome (kind_of kind) form text other
      (out.held out.old) (out.held out.new))
  pub fault : IfErr answer IsDiffFault
  pub unwritten : IfErr answer
      (λ told. KeepsHeld (out.held out.old) (out.held out.new) told.fault)
  pub reads_first : old_file.failures_after
      ≡ read_failures_after old_file.failures (of_first answer)
  pub reads_second : new_file.failures_after
      ≡ read_failures_after new_file.failures (of_second answer)
  pub writes : out.failures out.new
      ≡ write_failures_after (out.failures out.old) (of_second answer)

-- The old file is refused.
abbrev pub IsRefusedOld : DiffKind → Option (List ℕ) → Type 0
IsRefusedOld kind left =
    (text : List ℕ) × (refusal : Refusal) × (left ≡ Some text)
    × (refusal_of (doc_of (kind_of kind)) text ≡ Some refusal)

-- ---- worked cases

arguments_of_diff : (map kind_of (Packages ∷ Binary ∷ Sources ∷ Source ∷ Status ∷ [])
    ≡ kinds.Packages ∷ kinds.Binary ∷ kinds.Sources ∷ kinds.Source ∷ kinds.Status ∷ [])
    × (map detail_of (Fields ∷ Values ∷ []) ≡ details.Fields ∷ details.Values ∷ [])
    × (form_asked Values Spelled ≡ record { detail = details.Values; versions = Spelled })
arguments_of_diff = (refl, refl, refl)
