-- From how the job of `select` ends to what each status says.
use Rattle.std.proofs.Common.{◌≡◌, ◌⊎◌, ◌<◌, ◌||◌, ◌&&◌, ◌==◌, not, cond, Bool, true, false, ℕ, length, Result, Ok, Err, inl, inr, arith, refl, sym, ap, ◌∙◌, subst}
use Rattle.deb_base.specs.Devices.{write_failures_after}
use Rattle.deb_base.specs.declared.fault.Fault.{Fault}
use Rattle.deb_base.specs.declared.fault.Fault.TheVariants.{Refused, Memory, Read, Write}
use Rattle.deb_select.specs.Selecting.{Request}
use Rattle.debctl_args.specs.declared.jobs.SelectOf.{SelectOf}
use Rattle.debctl_commands.specs.Ending.{EndsBy, RefusesWith}
use Rattle.debctl_commands.specs.JobDevices.{WriterOfJob, writer_of}
use Rattle.debctl_commands.specs.OpenedFiles.{Opener}
use Rattle.debctl_commands.specs.Reporting.{status_of}
use Rattle.debctl_commands.specs.SelectConditions.{ReportsConditions}
use Rattle.debctl_commands.specs.SelectJob.{AddsSelected, EndsAsked, EndsCount, RefusesSelect, ReportsSelect, SaysSelect, SelectsAll, SelectsPaths, no_file, paths_asked, so_far, tally_report, tally_status}
use Rattle.debctl_commands.specs.declared.file_fault.FileFault.{FileFault}
use Rattle.debctl_commands.specs.declared.file_fault.PlaceFault.{PlaceFault}
use Rattle.debctl_commands.specs.declared.select_conditions.ConditionsFault.{ConditionsFault}
use Rattle.debctl_commands.specs.declared.select_conditions.ConditionsFault.TheVariants as conditions
use Rattle.debctl_commands.specs.declared.select_job.Tally.{Tally}
use Rattle.debctl_commands.proofs.Endings.{HasStatusThree}
use Rattle.debctl_commands.proofs.InOrderSteps.{all_opened, opened_or_fault}
use Rattle.debctl_commands.proofs.QueryOvers.{three_of_fault, three_of_write}
use Rattle.debctl_commands.proofs.SelectFiles.{all_counted, fault_counted}

-- no fault has a status below 2
faults_from_two : (fault : Fault) (status : ℕ) → status ≡ status_of fault → status < 2 → ⊥
faults_from_two (Refused refusal) status is below = omega (arith, is, below)
faults_from_two Memory status is below = omega (arith, is, below)
faults_from_two Read status is below = omega (arith, is, below)
faults_from_two Write status is below = omega (arith, is, below)

low_tally : (strict : Bool) (tally : Tally) → tally_status strict tally < 2
low_tally strict tally = go ((tally.count == 0) || (strict && not tally.full))
  where
    go : (t : Bool) → cond t 1 0 < 2
    go true = omega arith
    go false = omega arith

-- a fault after which the count rose is that of a failed write
write_is_three : (fault : Fault) (n m : ℕ) → m ≡ write_failures_after {T = ℕ} n (Err fault) → n < m → status_of fault ≡ 3
write_is_three (Refused refusal) n m counted rose = absurd (omega (arith, counted, rose))
write_is_three Memory n m counted rose = refl
write_is_three Read n m counted rose = refl
write_is_three Write n m counted rose = refl

module _ {F R W E : Type 0} (by : Opener F R) (given : SelectOf) (asked : Request) (files after : F) (out : WriterOfJob W) (err : WriterOfJob E) where
  -- An opening fails only with a fault of status 3.
  answer_opened : (answer : Result Tally FileFault) → SelectsAll by given asked files after out err answer → (by.unopened after ≡ by.unopened files) ⊎ HasStatusThree answer
  answer_opened answer all = go all.read all.selects all.ends
    where
      go : (read : Result Tally PlaceFault) → SelectsPaths by asked (paths_asked given) files after (writer_of out.held out.failures out.old all.between) err read → EndsCount given.count (length (paths_asked given)) read (writer_of out.held out.failures all.between out.new) answer → (by.unopened after ≡ by.unopened files) ⊎ HasStatusThree answer
      go (Ok tally) selects ends = inl (all_opened by (AddsSelected asked out.held out.failures all.between err.new) 1 (paths_asked given) files after (so_far no_file out.old err.old) (so_far tally all.between err.new) selects.in_order)
      go (Err told) selects ends = elim (opened_or_fault by (AddsSelected asked out.held out.failures all.between err.new) 1 (paths_asked given) files after (so_far no_file out.old err.old) told selects.in_order) [
        | inl same ↦ inl same
        | inr bad ↦ inr (three_of_fault _ told.fault answer ends.0 (ap status_of bad))
      ]

  -- and so a write to `out`
  answer_written : out.failures out.old < out.failures out.new → (answer : Result Tally FileFault) → SelectsAll by given asked files after out err answer → HasStatusThree answer
  answer_written rose answer all = go all.read all.selects all.ends
    where
      go : (read : Result Tally PlaceFault) → SelectsPaths by asked (paths_asked given) files after (writer_of out.held out.failures out.old all.between) err read → EndsCount given.count (length (paths_asked given)) read (writer_of out.held out.failures all.between out.new) answer → HasStatusThree answer
      go (Ok tally) selects ends =
          let same = all_counted asked out.held out.failures by all.between err.new 1 (paths_asked given) files after (so_far no_file out.old err.old) (so_far tally all.between err.new) selects.in_order in
          three_of_write _ _ _ ends.put answer ends.is ends.counted (subst (λ n. n < out.failures out.new) (sym same.0) rose)
      go (Err told) selects ends =
          let same = fault_counted asked out.held out.failures by all.between err.new 1 (paths_asked given) files after (so_far no_file out.old err.old) told selects.in_order in
          three_of_fault _ told.fault answer ends.0 (write_is_three told.fault (out.failures out.old) (out.failures out.new) (ap out.failures ends.1 ∙ same.0) rose)

  -- Nothing is reported while the files are read.
  unreported : (answer : Result Tally FileFault) → SelectsAll by given asked files after out err answer → err.new ≡ err.old
  unreported answer all = go all.read all.selects
    where
      go : (read : Result Tally PlaceFault) → SelectsPaths by asked (paths_asked given) files after (writer_of out.held out.failures out.old all.between) err read → err.new ≡ err.old
      go (Ok tally) selects = (all_counted asked out.held out.failures by all.between err.new 1 (paths_asked given) files after (so_far no_file out.old err.old) (so_far tally all.between err.new) selects.in_order).1
      go (Err told) selects = (fault_counted asked out.held out.failures by all.between err.new 1 (paths_asked given) files after (so_far no_file out.old err.old) told selects.in_order).1

module _ {F R W E : Type 0} (by : Opener F R) (given : SelectOf) (files after : F) (out : WriterOfJob W) (err : WriterOfJob E) (status : ℕ) where
  pub conditions_three : (fault : ConditionsFault) → ReportsConditions err.held err.failures err.old err.new fault status → status ≡ 3
  conditions_three (conditions.Bad number reason at) (inl whole) = whole.status
  conditions_three (conditions.Bad number reason at) (inr front) = front.status
  conditions_three conditions.Memory (inl whole) = whole.status
  conditions_three conditions.Memory (inr front) = front.status

  pub says_select : ReportsSelect by given files after out err status → status < 2 → SaysSelect by given files after out err status
  says_select (inl failed) below = absurd (omega (arith, conditions_three failed.fault failed.reports, below))
  says_select (inr (asked, asks, ends)) below = go ends.ends
    where
      go : EndsBy (tally_report given.strict) (SelectsAll by given asked files after out (writer_of err.held err.failures err.old ends.between)) (writer_of err.held err.failures ends.between err.new) status → SaysSelect by given files after out err status
      go (Ok tally, says, (is, quiet)) = record {
        asked = asked;
        asks = asks;
        tally = tally;
        is = is;
        says = subst (λ new. SelectsAll by given asked files after out (writer_of err.held err.failures err.old new) (Ok tally)) (sym quiet) says;
      }
      go (Err told, says, inl whole) = absurd (faults_from_two told.fault status whole.status below)
      go (Err told, says, inr front) = absurd (omega (arith, front.status, below))

  abbrev Says : Request → E → Result Tally FileFault → Type 0
  Says asked between = SelectsAll by given asked files after out (writer_of err.held err.failures err.old between)

  pub refuses_select : ReportsSelect by given files after out err status → status ≡ 2 → RefusesSelect by given files after out err
  refuses_select (inl failed) is = absurd (omega (arith, conditions_three failed.fault failed.reports, is))
  refuses_select (inr (asked, asks, ends)) is = record { asked = asked; asks = asks; between = ends.between; refuses = go ends.ends }
    where
      go : EndsBy (tally_report given.strict) (Says asked ends.between) (writer_of err.held err.failures ends.between err.new) status → RefusesWith (Says asked ends.between) (writer_of err.held err.failures ends.between err.new)
      go (Ok tally, says, (same, quiet)) = absurd (omega (arith, low_tally given.strict tally, same, is))
      go (Err told, says, inl whole) = at told.fault refl whole.status
        where
          at : (fault : Fault) → told.fault ≡ fault → status ≡ status_of fault → RefusesWith (Says asked ends.between) (writer_of err.held err.failures ends.between err.new)
          at (Refused refusal) so wanted = (told, refusal, so, whole.written, says)
          at Memory so wanted = absurd (omega (arith, wanted, is))
          at Read so wanted = absurd (omega (arith, wanted, is))
          at Write so wanted = absurd (omega (arith, wanted, is))
      go (Err told, says, inr front) = absurd (omega (arith, front.status, is))

  -- a fault of status 3 is reported so
  three_of : (asked : Request) (ends : EndsAsked by given asked files after out err status) → ((answer : Result Tally FileFault) → SelectsAll by given asked files after out (writer_of err.held err.failures err.old ends.between) answer → HasStatusThree answer) → status ≡ 3
  three_of asked ends three = go ends.ends
    where
      go : EndsBy (tally_report given.strict) (SelectsAll by given asked files after out (writer_of err.held err.failures err.old ends.between)) (writer_of err.held err.failures ends.between err.new) status → status ≡ 3
      go (Ok tally, says, reported) = absurd (three (Ok tally) says)
      go (Err told, says, inl whole) = whole.status ∙ three (Err told) says
      go (Err told, says, inr front) = front.status

  pub three_if_unopened : by.unopened files < by.unopened after → ReportsSelect by given files after out err status → status ≡ 3
  three_if_unopened rose (inl failed) = let same = ap by.unopened failed.unopened in absurd (omega (arith, same, rose))
  three_if_unopened rose (inr (asked, asks, ends)) = three_of asked ends (λ answer says. elim (answer_opened by given asked files after out (writer_of err.held err.failures err.old ends.between) answer says) [
    | inl same ↦ absurd (omega (arith, same, rose))
    | inr three ↦ three
  ])

  pub three_if_unwritten : out.failures out.old < out.failures out.new → ReportsSelect by given files after out err status → status ≡ 3
  three_if_unwritten rose (inl failed) = let same = ap out.failures failed.unwritten in absurd (omega (arith, same, rose))
  three_if_unwritten rose (inr (asked, asks, ends)) = three_of asked ends (answer_written by given asked files after out (writer_of err.held err.failures err.old ends.between) rose)

  pub three_if_unreported : err.failures err.old < err.failures err.new → ReportsSelect by given files after out err status → status ≡ 3
  three_if_unreported rose (inl failed) = conditions_three failed.fault failed.reports
  three_if_unreported rose (inr (asked, asks, ends)) = go ends.ends
    where
      go : EndsBy (tally_report given.strict) (SelectsAll by given asked files after out (writer_of err.held err.failures err.old ends.between)) (writer_of err.held err.failures ends.between err.new) status → status ≡ 3
      go (Ok tally, says, (is, quiet)) = let same = ap err.failures (quiet ∙ unreported by given asked files after out (writer_of err.held err.failures err.old ends.between) (Ok tally) says) in absurd (omega (arith, same, rose))
      go (Err told, says, inl whole) = let same = ap err.failures (unreported by given asked files after out (writer_of err.held err.failures err.old ends.between) (Err told) says) in absurd (omega (arith, whole.counted, same, rose))
      go (Err told, says, inr front) = front.status
