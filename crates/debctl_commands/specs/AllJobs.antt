-- What the jobs that report every refusal of a file answer and write: `check --all` and `explain
-- --all`. The statuses are this project's own; the refusals are those of the runs of lines of a
-- document of a kind (Debian Policy 5.1 and 5.3 to 5.6).
use Rattle.std.specs.Prelude.{◌≡◌, ℕ, ◌==◌, if◌then◌else◌, List, [], ◌∷◌, Option, Some, Result, IfOk, IfErr, refl}
use Rattle.std.specs.Io.KnownBytes.{Appends}
use Rattle.deb_base.specs.Devices.{AppendsFront, read_failures_after, write_failures_after}
use Rattle.deb_base.specs.declared.doc.Doc.{Doc}
use Rattle.deb_base.specs.declared.fault.Fault.{Fault}
use Rattle.deb_base.specs.declared.refusal.Refusal.{Refusal}
use Rattle.deb_control.specs.Calls.{IfCutOff, IfWriteFailed}
use Rattle.deb_control.specs.AllRefusals.{file_lines, refusals_of}
use Rattle.deb_control.specs.WrittenRefusals.{IsNoRefusal, WritesAll, WritesFirst}
use Rattle.deb_control.specs.declared.summary.Summary.{Summary}
use Rattle.deb_explain.specs.AllExplanations.{ExplainsAll, ExplainsFirst, explained_lines}

-- the status by how many runs of lines are refused: 0 if none is, else 2
abbrev pub summary_status : Summary → ℕ
summary_status summary = if summary.refused == 0 then 0 else 2

-- The file has no refusal, and exactly these lines were written.
pub record WritesUnrefused (doc : Doc) (text lines : List ℕ) (old new : Option (List ℕ))
    : Type 0 where
  pub refusals : refusals_of doc text ≡ []
  pub written : Appends old new lines

-- The file has one, and exactly these lines were written.
pub record WritesRefusals (doc : Doc) (text lines : List ℕ) (old new : Option (List ℕ))
    : Type 0 where
  pub first : Refusal
  pub more : List Refusal
  pub refusals : refusals_of doc text ≡ first ∷ more
  pub written : Appends old new lines

-- The answer to `check --all`, and what it wrote: by the reader's text, its count of failed calls
-- before and after, and the writer before and after. After a failed write a prefix of the lines was
-- written, after another fault the lines of the first refusals.
pub record ChecksAll {W : Type 0} (doc : Doc) (left : Option (List ℕ)) (count count_after : ℕ)
    (held : W → Option (List ℕ)) (failures : W → ℕ) (old new : W) (answer : Result Summary Fault)
    : Type 0 where
  pub ok : (text : List ℕ) → left ≡ Some text →
      IfOk answer (λ summary. WritesAll doc text summary (held old) (held new))
  pub cut_off : (text : List ℕ) → left ≡ Some text →
      IfCutOff answer (WritesFirst doc text (held old) (held new))
  pub write : (text : List ℕ) → left ≡ Some text →
      IfWriteFailed answer (AppendsFront (held old) (held new) (file_lines doc text))
  pub fault : IfErr answer IsNoRefusal
  pub reads : count_after ≡ read_failures_after count answer
  pub writes : failures new ≡ write_failures_after (failures old) answer

-- The same of `explain --all` of a file of this path.
pub record ExplainsEach {W : Type 0} (doc : Doc) (path : List ℕ) (left : Option (List ℕ))
    (count count_after : ℕ) (held : W → Option (List ℕ)) (failures : W → ℕ) (old new : W)
    (answer : Result Summary Fault) : Type 0 where
  pub ok : (text : List ℕ) → left ≡ Some text →
      IfOk answer (λ summary. ExplainsAll path doc text summary (held old) (held new))
  pub cut_off : (text : List ℕ) → left ≡ Some text →
      IfCutOff answer (ExplainsFirst path doc text (held old) (held new))
  pub write : (text : List ℕ) → left ≡ Some text →
      IfWriteFailed answer (AppendsFront (held old) (held new) (explained_lines path doc text))
  pub fault : IfErr answer IsNoRefusal
  pub reads : count_after ≡ read_failures_after count answer
  pub writes : failures new ≡ write_failures_after (failures old) answer

statuses_by_counts : (summary_status (record { passed = 4; refused = 0 }) ≡ 0)
    × (summary_status (record { passed = 4; refused = 1 }) ≡ 2)
    × (summary_status (record { passed = 0; refused = 300 }) ≡ 2)
statuses_by_counts = (refl, refl, refl)
