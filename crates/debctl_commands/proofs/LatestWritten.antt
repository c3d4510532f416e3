-- What reading files again and writing their chosen paragraphs gives.
use Rattle.std.proofs.Common.{◌≡◌, ◌⊎◌, ℕ, List, [], ◌∷◌, ◌++◌, Option, Some, Result, Ok, Err, inl, inr, refl, sym, ap, ◌∙◌, subst, append-nil, append_assoc}
use Rattle.std.specs.Prelude.{⊤, IfErr, IfOk, length}
use Rattle.std.specs.Io.KnownBytes.{Appends}
use Rattle.std.proofs.KnownBytes.{Appends-nil}
use Rattle.deb_base.specs.Devices.{AppendsFront, failures_after, write_failures_after}
use Rattle.deb_base.specs.Faults.{MatchFault}
use Rattle.deb_base.specs.declared.fault.Fault.{Fault}
use Rattle.deb_base.specs.declared.fault.Fault.TheVariants.{Refused, Memory, Read, Write}
use Rattle.deb_control.specs.Calls.{IfCutOff, IfRefused, IfWriteFailed}
use Rattle.deb_syntax.specs.Lines.{Paragraph, paragraphs_of}
use Rattle.deb_latest.specs.Files.{HasWrittenFiles, paragraphs_in}
use Rattle.deb_latest.specs.Requests.{Asked, latest_of}
use Rattle.deb_latest.specs.Writes.{WritesRead, WritesRefused}
use Rattle.deb_latest.specs.Written.{chosen_text, text_after}
use Rattle.deb_latest.specs.declared.winners.Winners.{Winners}
use Rattle.deb_latest.proofs.FilesWritten.{faults_leave_a_prefix, files_are_written, no_file_is_written, parts_are_written}
use Rattle.debctl_commands.specs.JobDevices.{WriterOfJob}
use Rattle.debctl_commands.specs.LatestJob.{HasLatest, WritesAgain, WritesChosen, WritesFront, WritesLatest, WritesPath, step_status, unless_changed}
use Rattle.debctl_commands.specs.OpenedFiles.{AreTexts, Opener, ReadsOpened, TakesFor}
use Rattle.debctl_commands.specs.Turns.{InTurn}
use Rattle.debctl_commands.specs.declared.unopened.Unopened.{Unopened}
use Rattle.debctl_commands.proofs.InOrderSteps.{ok_unread}

-- a fault of a step is none of a file that is refused
no_refusal_of : (fault other : Fault) → fault ≡ other → MatchFault other (λ _. ⊥) (Unit {0}) (Unit {0}) (Unit {0}) → MatchFault fault (λ _. ⊥) (Unit {0}) (Unit {0}) (Unit {0})
no_refusal_of fault other same is = subst (λ f. MatchFault f (λ _. ⊥) (Unit {0}) (Unit {0}) (Unit {0})) (sym same) is

no_refusal : (answer : Result ⊤ Fault) (fault : Fault) (status : Result ℕ Fault) → status ≡ Err fault → status ≡ step_status (unless_changed answer) → MatchFault fault (λ _. ⊥) (Unit {0}) (Unit {0}) (Unit {0})
no_refusal (Ok done) fault status so is = let bad : ⊥ = cc in absurd bad
no_refusal (Err (Refused refusal)) fault status so is = let same : fault ≡ Read = cc in no_refusal_of fault Read same tt
no_refusal (Err Memory) fault status so is = let same : fault ≡ Memory = cc in no_refusal_of fault Memory same tt
no_refusal (Err Read) fault status so is = let same : fault ≡ Read = cc in no_refusal_of fault Read same tt
no_refusal (Err Write) fault status so is = let same : fault ≡ Write = cc in no_refusal_of fault Write same tt

-- the count of failed writes after a step
counts_step : (answer : Result ⊤ Fault) (n : ℕ) → write_failures_after n answer ≡ write_failures_after n (step_status (unless_changed answer))
counts_step (Ok done) n = refl
counts_step (Err (Refused refusal)) n = refl
counts_step (Err Memory) n = refl
counts_step (Err Read) n = refl
counts_step (Err Write) n = refl

-- after a fault a prefix of what is chosen of the file was written
pub front_written : (numbers : List ℕ) (before : List Paragraph) (text : List ℕ) (old new : Option (List ℕ)) (answer : Result ⊤ Fault) → IfRefused answer (λ refusal. WritesRefused numbers before text refusal old new) → IfCutOff answer (WritesRead numbers before text old new)
    → IfWriteFailed answer (AppendsFront old new (text_after numbers before (paragraphs_of text))) → IfErr answer (λ _. AppendsFront old new (text_after numbers before (paragraphs_of text)))
front_written numbers before text old new (Ok done) refused cut_off write = tt
front_written numbers before text old new (Err (Refused refusal)) refused cut_off write = parts_are_written numbers before text old new refused.reads
front_written numbers before text old new (Err Memory) refused cut_off write = parts_are_written numbers before text old new cut_off
front_written numbers before text old new (Err Read) refused cut_off write = parts_are_written numbers before text old new cut_off
front_written numbers before text old new (Err Write) refused cut_off write = write

module _ {F R W : Type 0} (by : Opener F R) (held : W → Option (List ℕ)) (failures : W → ℕ) where
  -- one file
  one_written : (numbers : List ℕ) (count : ℕ) (old : Option (List ℕ)) (before : List (List ℕ)) (path text : List ℕ) (files after : F) (s s' : Winners × W) (n : ℕ) → WritesPath by held failures path files s (Ok n) after s' → by.text files path ≡ Some text
      → HasWrittenFiles numbers count before s.0 old (held s.1) → HasWrittenFiles numbers count (before ++ text ∷ []) s'.0 old (held s'.1)
  one_written numbers count old before path text files after s s' n wrote known has = go wrote.answer wrote.is wrote.opens.opened wrote.opens.rest wrote.opens.known wrote.opens.reads
    where
      go : (answer : Result ⊤ Fault) → Ok n ≡ step_status (unless_changed answer) → (opened rest : Result R Unopened) → IfOk opened (λ reader. by.left reader ≡ by.text files path) → ReadsOpened (λ reader rest. TakesFor by answer reader rest × WritesChosen (by.left reader) s.0 s'.0 held failures s.1 s'.1 answer) ((answer ≡ Err Read) × (s' ≡ s)) opened rest → HasWrittenFiles numbers count (before ++ text ∷ []) s'.0 old (held s'.1)
      go (Ok done) is (Ok reader) (Ok rest) left was = files_are_written numbers count before text s.0 s'.0 old (held s.1) (held s'.1) has (was.1.ok numbers count (paragraphs_in before) text has.has (left ∙ known))
      go (Ok done) is (Ok reader) (Err why) left was = absurd was
      go (Ok done) is (Err why) rest left was = let bad : ⊥ = cc in absurd bad
      go (Err (Refused refusal)) is opened rest left was = let bad : ⊥ = cc in absurd bad
      go (Err Memory) is opened rest left was = let bad : ⊥ = cc in absurd bad
      go (Err Read) is opened rest left was = let bad : ⊥ = cc in absurd bad
      go (Err Write) is opened rest left was = let bad : ⊥ = cc in absurd bad

  -- and a fault at it: a prefix of what it has was written
  one_begun : (numbers : List ℕ) (count : ℕ) (before : List (List ℕ)) (path text : List ℕ) (files after : F) (s s' : Winners × W) (fault : Fault) → WritesPath by held failures path files s (Err fault) after s' → by.text files path ≡ Some text
      → (old : Option (List ℕ)) → HasWrittenFiles numbers count before s.0 old (held s.1) → AppendsFront (held s.1) (held s'.1) (text_after numbers (paragraphs_in before) (paragraphs_of text))
  one_begun numbers count before path text files after s s' fault wrote known old has = go wrote.answer wrote.is wrote.opens.opened wrote.opens.rest wrote.opens.known wrote.opens.reads
    where
      nothing : s' ≡ s → AppendsFront (held s.1) (held s'.1) (text_after numbers (paragraphs_in before) (paragraphs_of text))
      nothing same = subst (λ (t : Winners × W). AppendsFront (held s.1) (held t.1) (text_after numbers (paragraphs_in before) (paragraphs_of text))) (sym same)
          (record { front = []; rest = text_after numbers (paragraphs_in before) (paragraphs_of text); whole = refl; appended = Appends-nil (held s.1) })

      go : (answer : Result ⊤ Fault) → Err fault ≡ step_status (unless_changed answer) → (opened rest : Result R Unopened) → IfOk opened (λ reader. by.left reader ≡ by.text files path) → ReadsOpened (λ reader rest. TakesFor by answer reader rest × WritesChosen (by.left reader) s.0 s'.0 held failures s.1 s'.1 answer) ((answer ≡ Err Read) × (s' ≡ s)) opened rest → AppendsFront (held s.1) (held s'.1) (text_after numbers (paragraphs_in before) (paragraphs_of text))
      go (Ok done) is opened rest left was = let bad : ⊥ = cc in absurd bad
      go (Err told) is (Ok reader) (Ok rest) left was = was.1.front numbers count (paragraphs_in before) text has.has (left ∙ known)
      go (Err told) is (Ok reader) (Err why) left was = absurd was
      go (Err told) is (Err why) rest left was = nothing was.1.1

  -- all files: exactly what is chosen of them was written
  pub all_written : (numbers : List ℕ) (count : ℕ) (old : Option (List ℕ)) (paths texts before : List (List ℕ)) (files after : F) (s s' : Winners × W) (n : ℕ) → InTurn (WritesPath by held failures) paths files s (Ok n) after s' → AreTexts (by.text files) paths texts
      → HasWrittenFiles numbers count before s.0 old (held s.1) → HasWrittenFiles numbers count (before ++ texts) s'.0 old (held s'.1)
  all_written numbers count old [] [] before files after s s' n turn known has =
      subst (λ (t : Winners × W). HasWrittenFiles numbers count (before ++ []) t.0 old (held t.1)) (sym turn.2) (subst (λ all. HasWrittenFiles numbers count all s.0 old (held s.1)) (sym (append-nil before)) has)
  all_written numbers count old [] (text ∷ texts) before files after s s' n turn known has = absurd known
  all_written numbers count old (path ∷ paths) [] before files after s s' n turn known has = absurd known
  all_written numbers count old (path ∷ paths) (text ∷ texts) before files after s s' n (f, w, one, others, wrote, turn, worst) (is, known) has =
      subst (λ all. HasWrittenFiles numbers count all s'.0 old (held s'.1)) (append_assoc before (text ∷ []) texts)
      (all_written numbers count old paths texts (before ++ text ∷ []) f after w s' others turn (subst (λ text. AreTexts text paths texts) (sym wrote.opens.unchanged) known) (one_written numbers count old before path text files f s w one wrote is has))

  -- a fault at one of them: a prefix of that was written
  pub some_written : (numbers : List ℕ) (count : ℕ) (old : Option (List ℕ)) (paths texts before : List (List ℕ)) (files after : F) (s s' : Winners × W) (fault : Fault) → InTurn (WritesPath by held failures) paths files s (Err fault) after s' → AreTexts (by.text files) paths texts
      → HasWrittenFiles numbers count before s.0 old (held s.1) → AppendsFront old (held s'.1) (chosen_text numbers (paragraphs_in (before ++ texts)))
  some_written numbers count old [] texts before files after s s' fault turn known has = absurd turn
  some_written numbers count old (path ∷ paths) [] before files after s s' fault turn known has = absurd known
  some_written numbers count old (path ∷ paths) (text ∷ texts) before files after s s' fault (inl failed) (is, known) has =
      faults_leave_a_prefix numbers count before text texts s.0 old (held s.1) (held s'.1) has (one_begun numbers count before path text files after s s' fault failed is old has)
  some_written numbers count old (path ∷ paths) (text ∷ texts) before files after s s' fault (inr (f, w, one, wrote, turn)) (is, known) has =
      subst (λ all. AppendsFront old (held s'.1) (chosen_text numbers (paragraphs_in all))) (append_assoc before (text ∷ []) texts)
      (some_written numbers count old paths texts (before ++ text ∷ []) f after w s' fault turn (subst (λ text. AreTexts text paths texts) (sym wrote.opens.unchanged) known) (one_written numbers count old before path text files f s w one wrote is has))

  -- the count of failed writes, and of failed openings
  step_counts : (path : List ℕ) (files after : F) (s s' : Winners × W) (status : Result ℕ Fault) → WritesPath by held failures path files s status after s' → failures s'.1 ≡ write_failures_after (failures s.1) status
  step_counts path files after s s' status wrote = go wrote.answer wrote.is wrote.opens.opened wrote.opens.rest wrote.opens.reads
    where
      go : (answer : Result ⊤ Fault) → status ≡ step_status (unless_changed answer) → (opened rest : Result R Unopened) → ReadsOpened (λ reader rest. TakesFor by answer reader rest × WritesChosen (by.left reader) s.0 s'.0 held failures s.1 s'.1 answer) ((answer ≡ Err Read) × (s' ≡ s)) opened rest → failures s'.1 ≡ write_failures_after (failures s.1) status
      go answer is (Ok reader) (Ok rest) was = was.1.counted ∙ counts_step answer (failures s.1) ∙ ap (write_failures_after (failures s.1)) (sym is)
      go answer is (Ok reader) (Err why) was = absurd was
      go answer is (Err why) rest was =
          ap (λ (t : Winners × W). failures t.1) was.1.1 ∙ ap (λ (a : Result ⊤ Fault). write_failures_after (failures s.1) a) (sym was.1.0) ∙ counts_step answer (failures s.1) ∙ ap (write_failures_after (failures s.1)) (sym is)

  step_opened : (path : List ℕ) (files after : F) (s s' : Winners × W) (status : Result ℕ Fault) → WritesPath by held failures path files s status after s' → (by.unopened after ≡ by.unopened files) ⊎ (status ≡ Err Read)
  step_opened path files after s s' status wrote = go wrote.answer wrote.is wrote.opens.opened wrote.opens.rest wrote.opens.counts_unopened wrote.opens.reads
    where
      go : (answer : Result ⊤ Fault) → status ≡ step_status (unless_changed answer) → (opened rest : Result R Unopened) → by.unopened after ≡ failures_after (by.unopened files) opened → ReadsOpened (λ reader rest. TakesFor by answer reader rest × WritesChosen (by.left reader) s.0 s'.0 held failures s.1 s'.1 answer) ((answer ≡ Err Read) × (s' ≡ s)) opened rest → (by.unopened after ≡ by.unopened files) ⊎ (status ≡ Err Read)
      go answer is (Ok reader) (Ok rest) counted was = inl counted
      go answer is (Ok reader) (Err why) counted was = absurd was
      go answer is (Err why) rest counted was = inr (is ∙ ap (λ a. step_status (unless_changed a)) was.1.0)

  pub turn_counts : (paths : List (List ℕ)) (files after : F) (s s' : Winners × W) (status : Result ℕ Fault) → InTurn (WritesPath by held failures) paths files s status after s' → failures s'.1 ≡ write_failures_after (failures s.1) status
  turn_counts [] files after s s' (Ok n) turn = ap (λ (t : Winners × W). failures t.1) turn.2
  turn_counts [] files after s s' (Err fault) turn = absurd turn
  turn_counts (path ∷ paths) files after s s' (Ok n) (f, w, one, others, wrote, turn, worst) = turn_counts paths f after w s' (Ok others) turn ∙ step_counts path files f s w (Ok one) wrote
  turn_counts (path ∷ paths) files after s s' (Err fault) (inl failed) = step_counts path files after s s' (Err fault) failed
  turn_counts (path ∷ paths) files after s s' (Err fault) (inr (f, w, one, wrote, turn)) =
      turn_counts paths f after w s' (Err fault) turn ∙ ap (λ n. write_failures_after {T = ℕ} n (Err fault)) (step_counts path files f s w (Ok one) wrote)

  pub turn_opened : (paths : List (List ℕ)) (files after : F) (s s' : Winners × W) (status : Result ℕ Fault) → InTurn (WritesPath by held failures) paths files s status after s' → (by.unopened after ≡ by.unopened files) ⊎ (status ≡ Err Read)
  turn_opened [] files after s s' (Ok n) turn = inl (ap by.unopened turn.1)
  turn_opened [] files after s s' (Err fault) turn = absurd turn
  turn_opened (path ∷ paths) files after s s' (Ok n) (f, w, one, others, wrote, turn, worst) = elim (step_opened path files f s w (Ok one) wrote) [
    | inl same ↦ elim (turn_opened paths f after w s' (Ok others) turn) [
      | inl more ↦ inl (more ∙ same)
      | inr bad ↦ absurd (ok_unread others (Ok others) refl bad)
    ]
    | inr bad ↦ absurd (ok_unread one (Ok one) refl bad)
  ]
  turn_opened (path ∷ paths) files after s s' (Err fault) (inl failed) = step_opened path files after s s' (Err fault) failed
  turn_opened (path ∷ paths) files after s s' (Err fault) (inr (f, w, one, wrote, turn)) = elim (step_opened path files f s w (Ok one) wrote) [
    | inl same ↦ elim (turn_opened paths f after w s' (Err fault) turn) [
      | inl more ↦ inl (more ∙ same)
      | inr bad ↦ inr bad
    ]
    | inr bad ↦ absurd (ok_unread one (Ok one) refl bad)
  ]

  pub turn_unrefused : (paths : List (List ℕ)) (files after : F) (s s' : Winners × W) (fault : Fault) → InTurn (WritesPath by held failures) paths files s (Err fault) after s' → MatchFault fault (λ _. ⊥) (Unit {0}) (Unit {0}) (Unit {0})
  turn_unrefused [] files after s s' fault turn = absurd turn
  turn_unrefused (path ∷ paths) files after s s' fault (inl failed) = no_refusal failed.answer fault (Err fault) refl failed.is
  turn_unrefused (path ∷ paths) files after s s' fault (inr (f, w, one, wrote, turn)) = turn_unrefused paths f after w s' fault turn

-- The second pass: what is written, and its answer.
module _ {F R W : Type 0} (by : Opener F R) (asked : Asked) (paths : List (List ℕ)) (winners : Winners) (files after : F) (out : WriterOfJob W) where
  begun : (texts : List (List ℕ)) (has : HasLatest asked texts winners) → HasWrittenFiles (latest_of asked has.meaning) (length has.meaning) [] winners (out.held out.old) (out.held out.old)
  begun texts has = no_file_is_written (latest_of asked has.meaning) (length has.meaning) winners (out.held out.old) has.has

  whole : (bytes : List ℕ) → Appends (out.held out.old) (out.held out.new) bytes → AppendsFront (out.held out.old) (out.held out.new) bytes
  whole bytes written = record { front = bytes; rest = []; whole = sym (append-nil bytes); appended = written }

  pub wrote_ok : (written : Result ⊤ Fault) → WritesAgain by paths winners files after out written → (texts : List (List ℕ)) → AreTexts (by.text files) paths texts → HasLatest asked texts winners → IfOk written (λ _. WritesLatest asked texts (out.held out.old) (out.held out.new))
  wrote_ok (Err fault) again texts known has = tt
  wrote_ok (Ok done) again texts known has = go again.status again.in_turn again.failed
    where
      go : (status : Result ℕ Fault) → InTurn (WritesPath by out.held out.failures) paths files (winners, out.old) status after (again.rest, out.new) → IfErr status (λ fault. Ok done ≡ Err fault) → WritesLatest asked texts (out.held out.old) (out.held out.new)
      go (Ok n) turn failed =
          let all = all_written by out.held out.failures (latest_of asked has.meaning) (length has.meaning) (out.held out.old) paths texts [] files after (winners, out.old) (again.rest, out.new) n turn known (begun texts has) in
          record { meaning = has.meaning; mean = has.mean; written = all.written }
      go (Err fault) turn failed = let bad : ⊥ = cc in absurd bad

  pub wrote_front : (written : Result ⊤ Fault) → WritesAgain by paths winners files after out written → (texts : List (List ℕ)) → AreTexts (by.text files) paths texts → HasLatest asked texts winners → IfErr written (λ _. WritesFront asked texts (out.held out.old) (out.held out.new))
  wrote_front (Ok done) again texts known has = tt
  wrote_front (Err told) again texts known has = go again.status again.in_turn
    where
      go : (status : Result ℕ Fault) → InTurn (WritesPath by out.held out.failures) paths files (winners, out.old) status after (again.rest, out.new) → WritesFront asked texts (out.held out.old) (out.held out.new)
      go (Ok n) turn =
          let all = all_written by out.held out.failures (latest_of asked has.meaning) (length has.meaning) (out.held out.old) paths texts [] files after (winners, out.old) (again.rest, out.new) n turn known (begun texts has) in
          record { meaning = has.meaning; mean = has.mean; written = whole _ all.written }
      go (Err fault) turn =
          record { meaning = has.meaning; mean = has.mean; written = some_written by out.held out.failures (latest_of asked has.meaning) (length has.meaning) (out.held out.old) paths texts [] files after (winners, out.old) (again.rest, out.new) fault turn known (begun texts has) }

  pub wrote_fault : (written : Result ⊤ Fault) → WritesAgain by paths winners files after out written → IfErr written (λ fault. MatchFault fault (λ _. ⊥) (Unit {0}) (Unit {0}) (Unit {0}))
  wrote_fault (Ok done) again = tt
  wrote_fault (Err told) again = go again.status again.in_turn (same_told (Err told) refl again.status again.failed) again.done
    where
      same_told : (answer : Result ⊤ Fault) → answer ≡ Err told → (status : Result ℕ Fault) → IfErr status (λ fault. answer ≡ Err fault) → IfErr status (λ fault. told ≡ fault)
      same_told answer is (Ok n) failed = tt
      same_told answer is (Err fault) failed = let same : told ≡ fault = cc in same

      go : (status : Result ℕ Fault) → InTurn (WritesPath by out.held out.failures) paths files (winners, out.old) status after (again.rest, out.new) → IfErr status (λ fault. told ≡ fault) → IfOk status (λ _. told ≡ Read) → MatchFault told (λ _. ⊥) (Unit {0}) (Unit {0}) (Unit {0})
      go (Ok n) turn failed done = no_refusal_of told Read done tt
      go (Err fault) turn failed done = no_refusal_of told fault failed (turn_unrefused by out.held out.failures paths files after (winners, out.old) (again.rest, out.new) fault turn)

  pub wrote_counted : (written : Result ⊤ Fault) → WritesAgain by paths winners files after out written → out.failures out.new ≡ write_failures_after (out.failures out.old) written
  wrote_counted written again = go written again.status again.failed again.done (turn_counts by out.held out.failures paths files after (winners, out.old) (again.rest, out.new) again.status again.in_turn)
    where
      go : (written : Result ⊤ Fault) (status : Result ℕ Fault) → IfErr status (λ fault. written ≡ Err fault) → IfOk status (λ _. IfErr written (λ fault. fault ≡ Read)) → out.failures out.new ≡ write_failures_after (out.failures out.old) status → out.failures out.new ≡ write_failures_after (out.failures out.old) written
      go (Ok done) (Ok n) failed only counted = counted
      go (Err told) (Ok n) failed only counted = counted ∙ ap (λ fault. write_failures_after {T = ⊤} (out.failures out.old) (Err fault)) (sym only)
      go written (Err fault) failed only counted = counted ∙ ap (write_failures_after (out.failures out.old)) (sym failed)
