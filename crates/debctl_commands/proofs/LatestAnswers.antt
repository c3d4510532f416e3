-- What the answer of `latest` says of failed openings and writes.
use Rattle.std.proofs.Common.{◌≡◌, ◌⊎◌, ◌<◌, ℕ, List, Result, Ok, Err, inl, inr, arith, refl, sym, ap, ◌∙◌, subst}
use Rattle.std.specs.Prelude.{⊤, IfErr}
use Rattle.deb_base.specs.declared.fault.Fault.{Fault}
use Rattle.deb_base.specs.declared.fault.Fault.TheVariants.{Read}
use Rattle.deb_latest.specs.Requests.{Asked}
use Rattle.deb_latest.specs.declared.latest.Latest.{Latest}
use Rattle.deb_latest.specs.declared.winners.Winners.{Winners}
use Rattle.debctl_args.specs.declared.jobs.LatestOf.{LatestOf}
use Rattle.debctl_commands.specs.FileFaults.{at_role}
use Rattle.debctl_commands.specs.JobDevices.{WriterOfJob}
use Rattle.debctl_commands.specs.LatestJob.{AddsLatest, AsksFiles, AsksLatest, FollowsRead, ReadsLatest, WritesAgain}
use Rattle.debctl_commands.specs.OpenedFiles.{InOrder, Opener, ReadsMore}
use Rattle.debctl_commands.specs.Reporting.{status_of}
use Rattle.debctl_commands.specs.declared.file_fault.FileFault.{FileFault}
use Rattle.debctl_commands.specs.declared.file_fault.PlaceFault.{PlaceFault}
use Rattle.debctl_commands.specs.declared.file_fault.Role.TheVariants.{Unnamed}
use Rattle.debctl_commands.proofs.Endings.{HasStatusThree}
use Rattle.debctl_commands.proofs.InOrderSteps.{all_opened, err_read, ok_unread, opened_or_fault}
use Rattle.debctl_commands.proofs.LatestWritten.{turn_opened}
use Rattle.debctl_commands.proofs.QueryOvers.{three_of_fault, three_of_write}

module _ {F R : Type 0} (by : Opener F R) (asked : Asked) (paths : List (List ℕ)) (files after : F) where
  found_opened : (winners : Winners) → ReadsLatest by asked paths files (Ok winners) after → by.unopened after ≡ by.unopened files
  found_opened winners (inl none) = let bad : ⊥ = cc in absurd bad
  found_opened winners (inr (none, read, has, kind, order, follows)) = go read order follows
    where
      go : (read : Result Latest PlaceFault) → InOrder (ReadsMore by AddsLatest) 1 paths files none read after → FollowsRead read (Ok winners) → by.unopened after ≡ by.unopened files
      go (Ok latest) order follows = all_opened by AddsLatest 1 paths files after none latest order
      go (Err failed) order follows = let bad : ⊥ = cc in absurd bad

  failed_opened : (told : PlaceFault) → ReadsLatest by asked paths files (Err told) after → (by.unopened after ≡ by.unopened files) ⊎ (told.fault ≡ Read)
  failed_opened told (inl none) = inl (ap by.unopened none.1)
  failed_opened told (inr (none, read, has, kind, order, follows)) = go read order follows
    where
      go : (read : Result Latest PlaceFault) → InOrder (ReadsMore by AddsLatest) 1 paths files none read after → FollowsRead read (Err told) → (by.unopened after ≡ by.unopened files) ⊎ (told.fault ≡ Read)
      go (Ok latest) order follows = inl (all_opened by AddsLatest 1 paths files after none latest order)
      go (Err failed) order follows = let same : told ≡ failed = cc in elim (opened_or_fault by AddsLatest 1 paths files after none failed order) [
        | inl opened ↦ inl opened
        | inr bad ↦ inr (ap (λ (t : PlaceFault). t.fault) same ∙ bad)
      ]

  again_opened : {W : Type 0} (winners : Winners) (out : WriterOfJob W) (answer : Result ⊤ Fault) → WritesAgain by paths winners files after out answer → (by.unopened after ≡ by.unopened files) ⊎ (answer ≡ Err Read)
  again_opened winners out answer again = elim (turn_opened by out.held out.failures paths files after _ _ again.status again.in_turn) [
    | inl same ↦ inl same
    | inr bad ↦ inr (failed again.status bad again.failed)
  ]
    where
      failed : (status : Result ℕ Fault) → status ≡ Err Read → IfErr status (λ fault. answer ≡ Err fault) → answer ≡ Err Read
      failed (Ok n) bad is = absurd (ok_unread n (Ok n) refl bad)
      failed (Err fault) bad is = is ∙ ap Err (err_read fault (Err fault) refl bad)

module _ {F R W : Type 0} (by : Opener F R) (given : LatestOf) (files after : F) (out : WriterOfJob W) where
  files_opened : (asked : Asked) (paths : List (List ℕ)) (answer : Result ⊤ FileFault) → AsksFiles by asked paths files after out answer → (by.unopened after ≡ by.unopened files) ⊎ HasStatusThree answer
  files_opened asked paths answer (inl failed) = elim (failed_opened by asked paths files after failed.told failed.fails.in_order) [
    | inl same ↦ inl same
    | inr bad ↦ inr (three_of_fault _ failed.told.fault answer failed.is (ap status_of bad))
  ]
  files_opened asked paths answer (inr wrote) = elim (again_opened by asked paths wrote.between after wrote.winners out wrote.written wrote.again) [
    | inl more ↦ inl (more ∙ found_opened by asked paths files wrote.between wrote.winners wrote.finds.in_order)
    | inr bad ↦ inr (subst HasStatusThree (sym (wrote.is ∙ ap (at_role Unnamed) bad)) refl)
  ]

  -- where an opening failed, the answer has the status 3
  pub latest_opened : by.unopened files < by.unopened after → (answer : Result ⊤ FileFault) → AsksLatest by given files after out answer → HasStatusThree answer
  latest_opened rose answer (inl limit) = let same = ap by.unopened limit.unopened in absurd (omega (arith, same, rose))
  latest_opened rose answer (inr (limit, spelled, asks)) = elim (files_opened _ _ answer asks) [
    | inl same ↦ absurd (omega (arith, same, rose))
    | inr three ↦ three
  ]

  -- and where a write failed
  pub latest_written : out.failures out.old < out.failures out.new → (answer : Result ⊤ FileFault) → AsksLatest by given files after out answer → HasStatusThree answer
  latest_written rose answer (inl limit) = let same = ap out.failures limit.unwritten in absurd (omega (arith, same, rose))
  latest_written rose answer (inr (limit, spelled, inl failed)) = let same = ap out.failures failed.unwritten in absurd (omega (arith, same, rose))
  latest_written rose answer (inr (limit, spelled, inr wrote)) = three_of_write _ _ _ wrote.written answer wrote.is wrote.counted rose
