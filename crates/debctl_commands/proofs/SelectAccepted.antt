-- What files that were read in order, and gone on with after what is refused, say of what passes.
use Rattle.std.proofs.Common.{◌≡◌, ◌+◌, ℕ, List, [], ◌∷◌, ◌++◌, Option, Some, Result, Ok, Err, length, inl, inr, refl, sym, ap, ◌∙◌, append-nil, append_assoc}
use Rattle.std.proofs.KnownBytes.{Appends-nil}
use Rattle.std.proofs.lemmas.List.Concat.{flat_map-append}
use Rattle.std.specs.Io.KnownBytes.{Appends}
use Rattle.std.specs.Prelude.{IfErr, IfOk}
use Rattle.deb_base.specs.Devices.{AppendsFront, read_failures_after}
use Rattle.deb_base.specs.Lines.{refusal_line}
use Rattle.deb_base.specs.declared.doc.Doc.{Doc}
use Rattle.deb_base.specs.declared.fault.Fault.{Fault}
use Rattle.deb_base.specs.declared.fault.Fault.TheVariants.{Refused, Memory, Read, Write}
use Rattle.deb_control.specs.AllRefusals.{file_lines, lines_of_refusals, passed_of, refusals_of, total_line}
use Rattle.deb_control.specs.Calls.{IfCutOff, IfWriteFailed}
use Rattle.deb_control.specs.WrittenRefusals.{IsNoRefusal, WritesAll, WritesFirst}
use Rattle.deb_select.specs.Accepting.{CountsWriteFailure, WritesAccepted, WritesFirstAccepted, WritesPartAccepted, passed_in_file, sink_failures}
use Rattle.deb_select.specs.Selecting.{Request}
use Rattle.deb_select.specs.declared.accepting.Accepted.{Accepted}
use Rattle.debctl_commands.specs.JobDevices.{WriterOfJob, writer_of}
use Rattle.debctl_commands.specs.OpenedFiles.{InOrder, Opener, ReadsMore}
use Rattle.debctl_commands.specs.SelectAcceptedJob.{AddsAccepted, IsTotalAfter, ReadSoFar, read_so_far, with_both}
use Rattle.debctl_commands.specs.SelectJob.{request_after}
use Rattle.debctl_commands.specs.declared.file_fault.PlaceFault.{PlaceFault}
use Rattle.debctl_commands.specs.declared.select_accepted_job.Total.{Total}

-- ---- the writers after the last file

module _ {W E : Type 0} (asked : Request) (held : W → Option (List ℕ)) (failures : W → ℕ) (held_err : E → Option (List ℕ)) (failures_err : E → ℕ) where
  abbrev Adds : W → W → E → E → ReadSoFar W E → Option (List ℕ) → Result (ReadSoFar W E) Fault → Type 0
  Adds old last old_err last_err = AddsAccepted asked (writer_of held failures old last) (writer_of held_err failures_err old_err last_err)

  -- Where there is no fault, they don't matter, and the first ones never do.
  pub reads_any : {F R : Type 0} (by : Opener F R) (old last old_other other : W) (old_err last_err old_err_other err_other : E) (path : List ℕ) (files after : F) (before next : ReadSoFar W E) → ReadsMore by (Adds old last old_err last_err) path files before (Ok next) after
      → ReadsMore by (Adds old_other other old_err_other err_other) path files before (Ok next) after
  reads_any by old last old_other other old_err last_err old_err_other err_other path files after before next read = record {
    reads = read.reads;
    adds = record {
      ok = λ text known.
          let file = read.adds.ok text known in
          record { done = file.done; writes = file.writes; reports = file.reports; total = file.total };
      front = λ text known. tt;
      fault = tt;
      counted = read.adds.counted;
    };
  }

  pub fault_any : {F R : Type 0} (by : Opener F R) (old last old_other : W) (old_err last_err old_err_other : E) (path : List ℕ) (files after : F) (before : ReadSoFar W E) (fault : Fault) → ReadsMore by (Adds old last old_err last_err) path files before (Err fault) after
      → ReadsMore by (Adds old_other last old_err_other last_err) path files before (Err fault) after
  fault_any by old last old_other old_err last_err old_err_other path files after before fault read = record {
    reads = read.reads;
    adds = record {
      ok = λ text known. tt;
      front = λ text known.
          let part = read.adds.front text known in
          record { written = part.written; reported = part.reported };
      fault = read.adds.fault;
      counted = read.adds.counted;
    };
  }

-- ---- what all files say

module _ {F R W E : Type 0} (by : Opener F R) (asked : Request) (out : WriterOfJob W) (err : WriterOfJob E) where
  -- where all were read, no write failed
  pub none_failed : (place : ℕ) (paths : List (List ℕ)) (f₀ f₁ : F) (state next : ReadSoFar W E) → InOrder (ReadsMore by (AddsAccepted asked out err)) place paths f₀ state (Ok next) f₁ → (out.failures next.out ≡ out.failures state.out) × (err.failures next.err ≡ err.failures state.err)
  none_failed place [] f₀ f₁ state next order = (ap (λ (s : ReadSoFar W E). out.failures s.out) order.0, ap (λ (s : ReadSoFar W E). err.failures s.err) order.0)
  none_failed place (path ∷ paths) f₀ f₁ state next (f, s, done, others) =
      let more = none_failed (place + 1) paths f f₁ s next others in
      (more.0 ∙ ap (λ n. n.writer) done.adds.counted, more.1 ∙ ap (λ n. n.reports) done.adds.counted)

  -- and where one wasn't, the fault is no refusal
  pub no_refusal : (place : ℕ) (paths : List (List ℕ)) (f₀ f₁ : F) (state : ReadSoFar W E) (told : PlaceFault) → InOrder (ReadsMore by (AddsAccepted asked out err)) place paths f₀ state (Err told) f₁ → IsNoRefusal told.fault
  no_refusal place [] f₀ f₁ state told order = absurd order
  no_refusal place (path ∷ paths) f₀ f₁ state told (inl failed) = failed.0.adds.fault
  no_refusal place (path ∷ paths) f₀ f₁ state told (inr (f, s, done, others)) = no_refusal (place + 1) paths f f₁ s told others

-- ---- one file

-- whoever reads the answer counts failed reads alike
pub reads_counted : {W E : Type 0} (n : ℕ) (out : W) (err : E) (answer : Result Total Fault) → read_failures_after n answer ≡ read_failures_after n (with_both out err answer)
reads_counted n out err (Ok total) = refl
reads_counted n out err (Err (Refused refusal)) = refl
reads_counted n out err (Err Memory) = refl
reads_counted n out err (Err Read) = refl
reads_counted n out err (Err Write) = refl

whole : (old new : Option (List ℕ)) (bytes : List ℕ) → Appends old new bytes → AppendsFront old new bytes
whole old new bytes written = record { front = bytes; rest = []; whole = sym (append-nil bytes); appended = written }

-- All that was written of a file is a part of it, and so is what was written of the first
-- paragraphs, and nothing.
all_is_part : (asks : Request) (text : List ℕ) (done : _) (old new : Option (List ℕ)) → WritesAccepted asks text done old new → WritesPartAccepted asks text old new
all_is_part asks text done old new writes = record {
  passed = passed_in_file asks.kind text;
  more = [];
  all = sym (append-nil _);
  meaning = writes.meaning;
  spelled = writes.spelled;
  written = whole old new _ writes.written;
}

first_is_part : (asks : Request) (text : List ℕ) (old new : Option (List ℕ)) → WritesFirstAccepted asks text old new → WritesPartAccepted asks text old new
first_is_part asks text old new first = record {
  passed = first.passed;
  more = first.more;
  all = first.all;
  meaning = first.meaning;
  spelled = first.spelled;
  written = whole old new _ first.written;
}

none_is_part : (asks : Request) (text : List ℕ) (old : Option (List ℕ)) → WritesPartAccepted asks text old old
none_is_part asks text old = record {
  passed = [];
  more = passed_in_file asks.kind text;
  all = refl;
  meaning = [];
  spelled = tt;
  written = record { front = []; rest = []; whole = refl; appended = Appends-nil old };
}

-- The lines of the first refusals begin those of the file, and so does nothing.
first_lines : (doc : Doc) (text : List ℕ) (old new : Option (List ℕ)) → WritesFirst doc text old new → AppendsFront old new (file_lines doc text)
first_lines doc text old new first =
    let end = total_line (passed_of doc text) (length (refusals_of doc text)) in
    record {
      front = lines_of_refusals first.first;
      rest = lines_of_refusals first.more ++ end;
      whole =
          ap (λ all. lines_of_refusals all ++ end) first.all
          ∙ ap (λ l. l ++ end) (flat_map-append refusal_line first.first first.more)
          ∙ append_assoc (lines_of_refusals first.first) (lines_of_refusals first.more) end;
      appended = first.written;
    }

no_line : (bytes : List ℕ) (old : Option (List ℕ)) → AppendsFront old old bytes
no_line bytes old = record { front = []; rest = bytes; whole = refl; appended = Appends-nil old }

module _ {W E : Type 0} (asked : Request) (out : WriterOfJob W) (err : WriterOfJob E) (total : Total) (left : Option (List ℕ)) where
  abbrev asks : Request
  asks = request_after asked total.selected

  abbrev Failed : Result Accepted Fault → Type 0
  Failed answer = CountsWriteFailure (sink_failures (out.failures out.old) (err.failures err.old)) (sink_failures (out.failures out.new) (err.failures err.new)) answer

  -- it was read
  pub file_added : (done : Accepted) (answer : Result Total Fault) → ((text : List ℕ) → left ≡ Some text → WritesAccepted asks text done.outcome (out.held out.old) (out.held out.new))
      → ((text : List ℕ) → left ≡ Some text → WritesAll asked.kind text done.summary (err.held err.old) (err.held err.new)) → Failed (Ok done) → IfOk answer (IsTotalAfter total done) → IfErr answer (λ fault. fault ≡ Memory)
      → AddsAccepted asked out err (read_so_far total out.old err.old) left (with_both out.new err.new answer)
  file_added done (Ok next) writes reports counted after memory = record {
    ok = λ text known. record { done = done; writes = writes text known; reports = reports text known; total = after };
    front = λ text known. tt;
    fault = tt;
    counted = counted;
  }
  file_added done (Err (Refused refusal)) writes reports counted after memory = let bad : ⊥ = cc in absurd bad
  file_added done (Err Memory) writes reports counted after memory = record {
    ok = λ text known. tt;
    front = λ text known. record {
      written = all_is_part asks text done.outcome (out.held out.old) (out.held out.new) (writes text known);
      reported = whole (err.held err.old) (err.held err.new) _ (reports text known).written;
    };
    fault = tt;
    counted = counted;
  }
  file_added done (Err Read) writes reports counted after memory = let bad : ⊥ = cc in absurd bad
  file_added done (Err Write) writes reports counted after memory = let bad : ⊥ = cc in absurd bad

  -- or it wasn't
  pub fault_added : (fault : Fault) → ((text : List ℕ) → left ≡ Some text → IfCutOff {T = Accepted} (Err fault) (WritesFirstAccepted asks text (out.held out.old) (out.held out.new)))
      → ((text : List ℕ) → left ≡ Some text → IfCutOff {T = Accepted} (Err fault) (WritesFirst asked.kind text (err.held err.old) (err.held err.new)))
      → ((text : List ℕ) → left ≡ Some text → IfWriteFailed {T = Accepted} (Err fault) (WritesPartAccepted asks text (out.held out.old) (out.held out.new)))
      → ((text : List ℕ) → left ≡ Some text → IfWriteFailed {T = Accepted} (Err fault) (AppendsFront (err.held err.old) (err.held err.new) (file_lines asked.kind text)))
      → IsNoRefusal fault → Failed (Err fault)
      → AddsAccepted asked out err (read_so_far total out.old err.old) left (Err fault)
  fault_added (Refused refusal) cut lines write part none counted = absurd none
  fault_added Memory cut lines write part none counted = record {
    ok = λ text known. tt;
    front = λ text known. record {
      written = first_is_part asks text (out.held out.old) (out.held out.new) (cut text known);
      reported = first_lines asked.kind text (err.held err.old) (err.held err.new) (lines text known);
    };
    fault = tt;
    counted = counted;
  }
  fault_added Read cut lines write part none counted = record {
    ok = λ text known. tt;
    front = λ text known. record {
      written = first_is_part asks text (out.held out.old) (out.held out.new) (cut text known);
      reported = first_lines asked.kind text (err.held err.old) (err.held err.new) (lines text known);
    };
    fault = tt;
    counted = counted;
  }
  fault_added Write cut lines write part none counted = record {
    ok = λ text known. tt;
    front = λ text known. record { written = write text known; reported = part text known };
    fault = tt;
    counted = counted;
  }

-- or it couldn't be opened
pub unopened_added : {W E : Type 0} (asked : Request) (held : W → Option (List ℕ)) (failures : W → ℕ) (held_err : E → Option (List ℕ)) (failures_err : E → ℕ) (before : ReadSoFar W E) (left : Option (List ℕ))
    → AddsAccepted asked (writer_of held failures before.out before.out) (writer_of held_err failures_err before.err before.err) before left (Err Read)
unopened_added asked held failures held_err failures_err before left = record {
  ok = λ text known. tt;
  front = λ text known. record {
    written = none_is_part (request_after asked before.total.selected) text (held before.out);
    reported = no_line _ (held_err before.err);
  };
  fault = tt;
  counted = refl;
}
