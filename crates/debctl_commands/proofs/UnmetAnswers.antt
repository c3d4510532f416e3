-- What the answer of `unmet` says of failed openings and writes.
use Rattle.std.proofs.Common.{◌≡◌, ◌⊎◌, ◌<◌, ℕ, Bor, length, List, [], ◌∷◌, Option, Some, None, Result, Ok, Err, inl, inr, arith, refl, ap, ◌∙◌, subst, sym}
use Rattle.std.specs.Option.{option_copied, option_map}
use Rattle.deb_base.specs.Devices.{failures_after, write_failures_after}
use Rattle.deb_base.specs.declared.fault.Fault.{Fault}
use Rattle.deb_base.specs.declared.fault.Fault.TheVariants.{Read}
use Rattle.deb_relation.specs.Applying.{Environment}
use Rattle.deb_relation.specs.Views.{names_of}
use Rattle.deb_index.specs.Indexes.{packages_of}
use Rattle.deb_index.specs.Listed.{Listed}
use Rattle.deb_index.specs.Without.{without}
use Rattle.deb_index.specs.declared.index.Index.{Index}
use Rattle.deb_index.specs.declared.members.Members.{Members}
use Rattle.deb_unmet.specs.Scopes.{Scope, old_packages}
use Rattle.deb_unmet.specs.declared.asking.Summary.{Summary}
use Rattle.debctl_args.specs.declared.jobs.Unmet.{Unmet}
use Rattle.debctl_commands.specs.FileFaults.{at_role}
use Rattle.debctl_commands.specs.IndexFiles.{FailsAtIndexes}
use Rattle.debctl_commands.specs.JobDevices.{WriterOfJob}
use Rattle.debctl_commands.specs.OpenedFiles.{OpensFile, Opener, ReadsOpened}
use Rattle.debctl_commands.specs.Reporting.{status_of}
use Rattle.debctl_commands.specs.UnmetJob.{AsksGroups, AsksUnmet, ReadsOld, members_given}
use Rattle.debctl_commands.specs.declared.file_fault.FileFault.{FileFault}
use Rattle.debctl_commands.specs.declared.file_fault.Role.{Role}
use Rattle.debctl_commands.specs.declared.unopened.Unopened.{Unopened}
use Rattle.debctl_commands.proofs.Endings.{HasStatusThree}
use Rattle.debctl_commands.proofs.IndexesRead.{failed_or_opened, read_or_opened}
use Rattle.debctl_commands.proofs.QueryOvers.{three_of_fault, three_of_write}

-- the packages of an old index that is lent
pub old_lent : (lent : Option (Bor Index)) (old : Option Index) → option_copied lent ≡ old → old_packages lent ≡ option_map (λ index. packages_of index) old
old_lent lent old is = same lent ∙ ap (option_map (λ index. packages_of index)) is
  where
    same : (lent : Option (Bor Index)) → old_packages lent ≡ option_map (λ index. packages_of index) (option_copied lent)
    same None = refl
    same (Some index) = refl

-- no package is left out for no name
pub none_left_out : (packages : List Listed) → without [] packages ≡ packages
none_left_out [] = refl
none_left_out (p ∷ packages) = ap (λ l. p ∷ l) (none_left_out packages)

pub no_names : (names : List (Bor (List ℕ))) (packages : List Listed) → length names ≡ 0 → packages ≡ without (names_of names) packages
no_names [] packages none = sym (none_left_out packages)
no_names (name ∷ names) packages none = let bad : ⊥ = omega (arith, none) in absurd bad

-- The last file: an opening fails only with a failed read, and a write only with a failed write.
module _ {F R W : Type 0} (by : Opener F R) (Asks : R → R → Type 0) (role : Role) (path : List ℕ) (files after : F) (out : WriterOfJob W) (tried : Result Summary Fault) (answer : Result Summary FileFault) (is : answer ≡ at_role role tried)
    (tries : OpensFile by path Asks ((tried ≡ Err Read) × (out.new ≡ out.old)) files after) where
  pub last_opened : (by.unopened after ≡ by.unopened files) ⊎ HasStatusThree answer
  last_opened = go tries.opened tries.rest tries.counts_unopened tries.reads
    where
      go : (opened rest : Result R Unopened) → by.unopened after ≡ failures_after (by.unopened files) opened → ReadsOpened Asks ((tried ≡ Err Read) × (out.new ≡ out.old)) opened rest → (by.unopened after ≡ by.unopened files) ⊎ HasStatusThree answer
      go (Ok reader) (Ok rest) counted was = inl counted
      go (Ok reader) (Err why) counted was = absurd was
      go (Err why) rest counted was = inr (subst HasStatusThree (sym (is ∙ ap (at_role role) was.1.0)) refl)

  pub last_written : (writes : (reader rest : R) → Asks reader rest → out.failures out.new ≡ write_failures_after (out.failures out.old) tried) → out.failures out.old < out.failures out.new → HasStatusThree answer
  last_written writes rose = go tries.opened tries.rest tries.reads
    where
      go : (opened rest : Result R Unopened) → ReadsOpened Asks ((tried ≡ Err Read) × (out.new ≡ out.old)) opened rest → HasStatusThree answer
      go (Ok reader) (Ok rest) was = three_of_write role _ _ tried answer is (writes reader rest was) rose
      go (Ok reader) (Err why) was = absurd was
      go (Err why) rest was = let same = ap out.failures was.1.1 in absurd (omega (arith, same, rose))

module _ {F R W : Type 0} (by : Opener F R) (given : Unmet) (after : F) (out : WriterOfJob W) where
  at_indexes : (members : Members) (role : Role) (count : ℕ) (paths : List (List ℕ)) (files : F) (answer : Result Summary FileFault) → FailsAtIndexes by members role count paths files after out answer → (by.unopened after ≡ by.unopened files) ⊎ HasStatusThree answer
  at_indexes members role count paths files answer failed = elim (failed_or_opened members by paths files after failed.told failed.fails.in_order) [
    | inl same ↦ inl same
    | inr bad ↦ inr (three_of_fault _ failed.told.fault answer failed.is (ap status_of bad))
  ]

  joined : (files between : F) (answer : Result Summary FileFault) → by.unopened between ≡ by.unopened files → (by.unopened after ≡ by.unopened between) ⊎ HasStatusThree answer → (by.unopened after ≡ by.unopened files) ⊎ HasStatusThree answer
  joined files between answer same (inl more) = inl (more ∙ same)
  joined files between answer same (inr three) = inr three

  groups_opened : (environment : Environment) (scope : Scope) (path : Option (List ℕ)) (files : F) (answer : Result Summary FileFault) → AsksGroups by given environment scope path files after out answer → (by.unopened after ≡ by.unopened files) ⊎ HasStatusThree answer
  groups_opened environment scope (Some path) files answer (inl failed) = at_indexes _ _ _ _ files answer failed
  groups_opened environment scope (Some path) files answer (inr (inl failed)) = inl (read_or_opened _ by _ files after failed.index failed.read.in_order)
  groups_opened environment scope (Some path) files answer (inr (inr over)) =
      joined files over.between answer (read_or_opened _ by _ files over.between over.index over.read.in_order)
      (last_opened by _ _ path over.between after out over.tried answer over.is over.tries)
  groups_opened environment scope None files answer (inl none) = inl (ap by.unopened none.unopened)
  groups_opened environment scope None files answer (inr last) = elim last.asks [
    | inl failed ↦ at_indexes _ _ _ _ files answer failed
    | inr own ↦ joined files own.between answer (read_or_opened _ by _ files own.between own.index own.read.in_order)
        (last_opened by _ _ last.last own.between after out own.tried answer own.is own.tries)
  ]

  old_opened : (members : Members) (unless : Option (List ℕ)) (old : Option Index) (files between : F) → ReadsOld by members unless old files between → by.unopened between ≡ by.unopened files
  old_opened members None None files between reads = ap by.unopened reads
  old_opened members None (Some index) files between reads = absurd reads
  old_opened members (Some path) None files between reads = absurd reads
  old_opened members (Some path) (Some index) files between reads = read_or_opened members by (path ∷ []) files between index reads.in_order

  unmet_opened_or : (files : F) (answer : Result Summary FileFault) → AsksUnmet by given files after out answer → (by.unopened after ≡ by.unopened files) ⊎ HasStatusThree answer
  unmet_opened_or files answer (inl words) = inl (ap by.unopened words.unopened)
  unmet_opened_or files answer (inr (good, inl old)) = elim (failed_or_opened (members_given given) by (old.fails.path ∷ []) files after old.fails.told old.fails.fails.in_order) [
    | inl same ↦ inl same
    | inr bad ↦ inr (three_of_fault _ old.fault answer old.is (ap status_of (old.fails.is ∙ bad)))
  ]
  unmet_opened_or files answer (inr (good, inr rest)) =
      joined files rest.between answer (old_opened _ _ rest.old files rest.between rest.reads) (groups_opened _ _ _ rest.between answer rest.asks)

  -- where an opening failed, the answer has the status 3
  pub unmet_opened : (files : F) → by.unopened files < by.unopened after → (answer : Result Summary FileFault) → AsksUnmet by given files after out answer → HasStatusThree answer
  unmet_opened files rose answer says = elim (unmet_opened_or files answer says) [
    | inl same ↦ absurd (omega (arith, same, rose))
    | inr three ↦ three
  ]

  unwritten : {T : Type 0} → out.failures out.old < out.failures out.new → out.new ≡ out.old → T
  unwritten rose same = let even = ap out.failures same in absurd (omega (arith, even, rose))

  groups_written : (environment : Environment) (scope : Scope) (path : Option (List ℕ)) (files : F) → out.failures out.old < out.failures out.new → (answer : Result Summary FileFault) → AsksGroups by given environment scope path files after out answer → HasStatusThree answer
  groups_written environment scope (Some path) files rose answer (inl failed) = unwritten rose failed.unwritten
  groups_written environment scope (Some path) files rose answer (inr (inl failed)) = unwritten rose failed.unwritten
  groups_written environment scope (Some path) files rose answer (inr (inr over)) =
      last_written by _ _ path over.between after out over.tried answer over.is over.tries (λ reader rest asks. asks.1.writes) rose
  groups_written environment scope None files rose answer (inl none) = unwritten rose none.unwritten
  groups_written environment scope None files rose answer (inr last) = elim last.asks [
    | inl failed ↦ unwritten rose failed.unwritten
    | inr own ↦ last_written by _ _ last.last own.between after out own.tried answer own.is own.tries (λ reader rest asks. asks.1.writes) rose
  ]

  -- and where a write failed
  pub unmet_written : (files : F) → out.failures out.old < out.failures out.new → (answer : Result Summary FileFault) → AsksUnmet by given files after out answer → HasStatusThree answer
  unmet_written files rose answer (inl words) = unwritten rose words.unwritten
  unmet_written files rose answer (inr (good, inl old)) = unwritten rose old.unwritten
  unmet_written files rose answer (inr (good, inr rest)) = groups_written _ _ _ rest.between rose answer rest.asks
