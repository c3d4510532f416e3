-- From how the job of `select --accepted` ends to what each status says.
use Rattle.std.proofs.Common.{◌≡◌, ◌⊎◌, ◌<◌, ℕ, length, Result, Ok, Err, inl, inr, arith, refl, sym, ap, ◌∙◌, subst}
use Rattle.std.specs.Prelude.{IfErr}
use Rattle.deb_base.specs.Devices.{write_failures_after}
use Rattle.deb_base.specs.declared.fault.Fault.{Fault}
use Rattle.deb_base.specs.declared.fault.Fault.TheVariants.{Refused, Memory, Read, Write}
use Rattle.deb_control.specs.WrittenRefusals.{IsNoRefusal}
use Rattle.deb_select.specs.Selecting.{Request}
use Rattle.debctl_args.specs.declared.jobs.SelectOf.{SelectOf}
use Rattle.debctl_commands.specs.Ending.{EndsBy}
use Rattle.debctl_commands.specs.FileFaults.{at_role, fault_at}
use Rattle.debctl_commands.specs.JobDevices.{WriterOfJob, writer_of}
use Rattle.debctl_commands.specs.OpenedFiles.{InOrder, Opener, ReadsMore}
use Rattle.debctl_commands.specs.Reporting.{status_of}
use Rattle.debctl_commands.specs.SelectAcceptedJob.{AcceptsAll, AddsAccepted, EndsTotal, ReportsAccepted, SaysAccepted, nothing_read, read_so_far, total_report, with_both}
use Rattle.debctl_commands.specs.SelectJob.{paths_asked}
use Rattle.debctl_commands.specs.declared.file_fault.FileFault.{FileFault}
use Rattle.debctl_commands.specs.declared.file_fault.PlaceFault.{PlaceFault}
use Rattle.debctl_commands.specs.declared.file_fault.Role.TheVariants.{Unnamed}
use Rattle.debctl_commands.specs.declared.select_accepted_job.Total.{Total}
use Rattle.debctl_commands.proofs.InOrderSteps.{all_opened}
use Rattle.debctl_commands.proofs.SelectAccepted.{no_refusal, none_failed}
use Rattle.debctl_commands.proofs.SelectEndings.{conditions_three}

three_of : (fault : Fault) → IsNoRefusal fault → status_of fault ≡ 3
three_of (Refused refusal) none = absurd none
three_of Memory none = refl
three_of Read none = refl
three_of Write none = refl

same_fault : (one other : FileFault) (answer : Result Total FileFault) → answer ≡ Err one → answer ≡ Err other → one ≡ other
same_fault one other answer is same = cc

-- the fault of a failed count
count_fault : (put : Result Total Fault) (told : FileFault) → Err told ≡ at_role Unnamed put → IfErr put (λ fault. fault ≡ Write) → status_of told.fault ≡ 3
count_fault (Ok total) told is write = let bad : ⊥ = cc in absurd bad
count_fault (Err fault) told is write = ap (λ (t : FileFault). status_of t.fault) (same_fault told (fault_at Unnamed fault) (Err told) refl is) ∙ ap status_of write

module _ {F R W E : Type 0} (by : Opener F R) (given : SelectOf) (asked : Request) (files after : F) (out : WriterOfJob W) (err : WriterOfJob E) where
  abbrev Order : W → Result Total PlaceFault → Type 0
  Order between read = InOrder (ReadsMore by (AddsAccepted asked (writer_of out.held out.failures out.old between) err)) 1 (paths_asked given) files (read_so_far nothing_read out.old err.old) (with_both between err.new read) after

  -- Each fault has status 3.
  fault_three : (told : FileFault) → AcceptsAll by given asked files after out err (Err told) → status_of told.fault ≡ 3
  fault_three told all = go all.read all.in_order all.ends
    where
      go : (read : Result Total PlaceFault) → Order all.between read → EndsTotal given.count (length (paths_asked given)) read (writer_of out.held out.failures all.between out.new) (Err told) → status_of told.fault ≡ 3
      go (Ok total) order ends = count_fault ends.put told ends.is ends.fault
      go (Err at) order ends = ap (λ (t : FileFault). status_of t.fault) (same_fault told _ (Err told) refl ends.0) ∙ three_of at.fault (no_refusal by asked (writer_of out.held out.failures out.old all.between) err 1 (paths_asked given) files after (read_so_far nothing_read out.old err.old) at order)

  -- Where there is none, nothing failed.
  pub record NoneFailed : Type 0 where
    pub opened : by.unopened after ≡ by.unopened files
    pub written : out.failures out.new ≡ out.failures out.old
    pub reported : err.failures err.new ≡ err.failures err.old

  count_put : (between : W) (put : Result Total Fault) (total : Total) → Ok total ≡ at_role Unnamed put → out.failures out.new ≡ write_failures_after (out.failures between) put → out.failures out.new ≡ out.failures between
  count_put between (Ok same) total is counted = counted
  count_put between (Err fault) total is counted = let bad : ⊥ = cc in absurd bad

  ok_failed : (total : Total) → AcceptsAll by given asked files after out err (Ok total) → NoneFailed
  ok_failed total all = go all.read all.in_order all.ends
    where
      go : (read : Result Total PlaceFault) → Order all.between read → EndsTotal given.count (length (paths_asked given)) read (writer_of out.held out.failures all.between out.new) (Ok total) → NoneFailed
      go (Ok reached) order ends =
          let none = none_failed by asked (writer_of out.held out.failures out.old all.between) err 1 (paths_asked given) files after (read_so_far nothing_read out.old err.old) (read_so_far reached all.between err.new) order in
          record {
            opened = all_opened by (AddsAccepted asked (writer_of out.held out.failures out.old all.between) err) 1 (paths_asked given) files after (read_so_far nothing_read out.old err.old) (read_so_far reached all.between err.new) order;
            written = count_put all.between ends.put total ends.is ends.counted ∙ none.0;
            reported = none.1;
          }
      go (Err at) order ends = let bad : ⊥ = cc in absurd bad

module _ {F R W E : Type 0} (by : Opener F R) (given : SelectOf) (files after : F) (out : WriterOfJob W) (err : WriterOfJob E) (status : ℕ) where
  -- An answer with a total is reported by its status alone, and each other one has status 3.
  total_or_three : ReportsAccepted by given files after out err status → SaysAccepted by given files after out err status ⊎ (status ≡ 3)
  total_or_three (inl failed) = inr (conditions_three by given files after out err status failed.fault failed.reports)
  total_or_three (inr (asked, asks, ends)) = go ends.ends
    where
      go : EndsBy (total_report given.strict) (AcceptsAll by given asked files after out (writer_of err.held err.failures err.old ends.between)) (writer_of err.held err.failures ends.between err.new) status → SaysAccepted by given files after out err status ⊎ (status ≡ 3)
      go (Ok total, says, (is, quiet)) = inl (record {
        asked = asked;
        asks = asks;
        total = total;
        is = is;
        says = subst (λ new. AcceptsAll by given asked files after out (writer_of err.held err.failures err.old new) (Ok total)) (sym quiet) says;
      })
      go (Err told, says, inl whole) = inr (whole.status ∙ fault_three by given asked files after out (writer_of err.held err.failures err.old ends.between) told says)
      go (Err told, says, inr front) = inr front.status

  pub says_accepted : ReportsAccepted by given files after out err status → status < 3 → SaysAccepted by given files after out err status
  says_accepted reports below = elim (total_or_three reports) [
    | inl says ↦ says
    | inr three ↦ absurd (omega (arith, three, below))
  ]

  pub three_if_failed : ReportsAccepted by given files after out err status → (by.unopened files < by.unopened after) ⊎ ((out.failures out.old < out.failures out.new) ⊎ (err.failures err.old < err.failures err.new)) → status ≡ 3
  three_if_failed reports rose = elim (total_or_three reports) [
    | inl says ↦
        let none = ok_failed by given says.asked files after out err says.total says.says in
        elim rose [
          | inl opened ↦ let same = none.opened in absurd (omega (arith, same, opened))
          | inr (inl written) ↦ let same = none.written in absurd (omega (arith, same, written))
          | inr (inr reported) ↦ let same = none.reported in absurd (omega (arith, same, reported))
        ]
    | inr three ↦ three
  ]
