-- What files that were read in order say of what is selected of them.
use Rattle.std.proofs.Common.{◌≡◌, ◌+◌, ℕ, List, [], ◌∷◌, ◌++◌, Option, Some, None, Result, Ok, Err, length, inl, inr, refl, sym, ap, ◌∙◌, subst, append-nil, append_assoc, arith, true}
use Rattle.std.specs.Io.KnownBytes.{Appends}
use Rattle.std.specs.Prelude.{IfErr, IfOk, ◌==◌, map, String, string_bytes}
use Rattle.std.specs.declared.alloc.Global.{Global}
use Rattle.std.proofs.lemmas.Bool.{eqb-true}
use Rattle.deb_base.specs.Devices.{AppendsFront, read_failures_after, write_failures_after}
use Rattle.deb_base.specs.Faults.{MatchFault}
use Rattle.deb_base.specs.declared.fault.Fault.{Fault}
use Rattle.deb_base.specs.declared.fault.Fault.TheVariants.{Refused, Memory, Read, Write}
use Rattle.deb_control.proofs.ComparedSoFar.{none_refused}
use Rattle.deb_control.specs.Calls.{IfCutOff, IfRefused, IfWriteFailed}
use Rattle.deb_control.specs.Checking.{IsRefusalOfDocument}
use Rattle.deb_control.specs.Documents.{refusal_of}
use Rattle.deb_select.specs.Selecting.{Request, WritesFirst, WritesPart, WritesRefused, WritesSelected}
use Rattle.deb_select.specs.declared.writing.Outcome.{Outcome}
use Rattle.debctl_commands.specs.JobDevices.{WriterOfJob}
use Rattle.debctl_commands.specs.OpenedFiles.{AreTexts, InOrder, Opener, ReadsMore}
use Rattle.debctl_commands.specs.Opening.{standard_input}
use Rattle.debctl_commands.specs.SelectJob.{AddsSelected, SelectsFiles, IsTallyAfter, SelectsFront, SelectsPaths, SoFar, no_file, paths_or_input, request_after, so_far, with_writers}
use Rattle.debctl_commands.specs.declared.file_fault.PlaceFault.{PlaceFault}
use Rattle.debctl_commands.specs.declared.select_job.Tally.{Tally}
use Rattle.debctl_commands.proofs.InOrderSteps.{gathered, refused_place}
use Rattle.debctl_commands.proofs.SelectWritten.{file_begun, file_selected, no_file_selected, nothing_is_part, whole_is_part}

module _ {W E : Type 0} (asked : Request) (held : W → Option (List ℕ)) (failures : W → ℕ) where
  -- Where there is no fault, the last writers don't matter.
  pub adds_any : (last other : W) (last_err other_err : E) (before next : SoFar W E) (left : Option (List ℕ)) → AddsSelected asked held failures last last_err before left (Ok next) → AddsSelected asked held failures other other_err before left (Ok next)
  adds_any last other last_err other_err before next left adds = record {
    ok = adds.ok;
    refused = λ text known. tt;
    front = λ text known. tt;
    refusal = tt;
    counted = adds.counted;
    unreported = adds.unreported;
  }

  pub reads_any : {F R : Type 0} (by : Opener F R) (last other : W) (last_err other_err : E) (path : List ℕ) (files after : F) (before next : SoFar W E) → ReadsMore by (AddsSelected asked held failures last last_err) path files before (Ok next) after
      → ReadsMore by (AddsSelected asked held failures other other_err) path files before (Ok next) after
  reads_any by last other last_err other_err path files after before next read = record {
    reads = read.reads;
    adds = adds_any last other last_err other_err before next (by.text files path) read.adds;
  }

  module _ (last : W) (last_err : E) (old : Option (List ℕ)) where
    abbrev Adds : SoFar W E → Option (List ℕ) → Result (SoFar W E) Fault → Type 0
    Adds = AddsSelected asked held failures last last_err

    abbrev Has : List (List ℕ) → SoFar W E → Type 0
    Has texts state = SelectsFiles asked texts state.tally old (held state.out)

    one_more : (before : List (List ℕ)) (text : List ℕ) (state next : SoFar W E) → Has before state → Adds state (Some text) (Ok next) → Has (before ++ text ∷ []) next
    one_more before text state next has adds = file_selected asked held old before text state next has (adds.ok text refl)

    accepted : (before : List (List ℕ)) (text : List ℕ) (state next : SoFar W E) → Has before state → Adds state (Some text) (Ok next) → refusal_of asked.kind text ≡ None
    accepted before text state next has adds =
        let file = (adds.ok text refl).writes in
        none_refused asked.kind text (length file.meaning) (record { meaning = file.meaning; accepted = file.accepted; count = refl })

    refused : (before : List (List ℕ)) (text : List ℕ) (state : SoFar W E) (fault : Fault) → Has before state → Adds state (Some text) (Err fault) → MatchFault fault (λ refusal. refusal_of asked.kind text ≡ Some refusal) (Unit {0}) (Unit {0}) (Unit {0})
    refused before text state (Refused refusal) has adds = (adds.refused text refl).refused
    refused before text state Memory has adds = tt
    refused before text state Read has adds = tt
    refused before text state Write has adds = tt

    module _ {F R : Type 0} (by : Opener F R) where
      -- a prefix of what is selected was written before a fault
      front : (place : ℕ) (paths texts before : List (List ℕ)) (f₀ f₁ : F) (state : SoFar W E) (told : PlaceFault) → InOrder (ReadsMore by Adds) place paths f₀ state (Err told) f₁ → AreTexts (by.text f₀) paths texts → Has before state → SelectsFront asked (before ++ texts) old (held last)
      front place [] texts before f₀ f₁ state told order known has = absurd order
      front place (path ∷ paths) [] before f₀ f₁ state told order known has = absurd known
      front place (path ∷ paths) (text ∷ texts) before f₀ f₁ state told (inl failed) (is, known) has =
          let adds = subst (λ left. Adds state left (Err told.fault)) is failed.0.adds in
          file_begun asked held old (held last) before text texts state has (adds.front text refl)
      front place (path ∷ paths) (text ∷ texts) before f₀ f₁ state told (inr (f, s, done, others)) (is, known) has =
          let next = one_more before text state s has (subst (λ left. Adds state left (Ok s)) is done.adds) in
          subst (λ all. SelectsFront asked all old (held last)) (append_assoc before (text ∷ []) texts)
          (front (place + 1) paths texts (before ++ text ∷ []) f f₁ s told others (subst (λ text. AreTexts text paths texts) (sym done.reads.unchanged) known) next)

  -- the count of failed writes, and what was reported meanwhile
  module _ {F R : Type 0} (by : Opener F R) (last : W) (last_err : E) where
    pub all_counted : (place : ℕ) (paths : List (List ℕ)) (f₀ f₁ : F) (state next : SoFar W E) → InOrder (ReadsMore by (AddsSelected asked held failures last last_err)) place paths f₀ state (Ok next) f₁ → (failures next.out ≡ failures state.out) × (next.err ≡ state.err)
    all_counted place [] f₀ f₁ state next order = (ap (λ (s : SoFar W E). failures s.out) order.0, ap (λ (s : SoFar W E). s.err) order.0)
    all_counted place (path ∷ paths) f₀ f₁ state next (f, s, done, others) =
        let more = all_counted (place + 1) paths f f₁ s next others in
        (more.0 ∙ done.adds.counted, more.1 ∙ done.adds.unreported)

    pub fault_counted : (place : ℕ) (paths : List (List ℕ)) (f₀ f₁ : F) (state : SoFar W E) (told : PlaceFault) → InOrder (ReadsMore by (AddsSelected asked held failures last last_err)) place paths f₀ state (Err told) f₁
        → (failures last ≡ write_failures_after {T = ℕ} (failures state.out) (Err told.fault)) × (last_err ≡ state.err)
    fault_counted place [] f₀ f₁ state told order = absurd order
    fault_counted place (path ∷ paths) f₀ f₁ state told (inl failed) = (failed.0.adds.counted ∙ same told.fault (failures state.out), failed.0.adds.unreported)
      where
        same : (fault : Fault) (n : ℕ) → write_failures_after {T = SoFar W E} n (Err fault) ≡ write_failures_after {T = ℕ} n (Err fault)
        same (Refused refusal) n = refl
        same Memory n = refl
        same Read n = refl
        same Write n = refl
    fault_counted place (path ∷ paths) f₀ f₁ state told (inr (f, s, done, others)) =
        let more = fault_counted (place + 1) paths f f₁ s told others in
        (more.0 ∙ ap (λ n. write_failures_after {T = ℕ} n (Err told.fault)) done.adds.counted, more.1 ∙ done.adds.unreported)

-- ---- one file

-- whoever reads the answer counts failed reads alike
pub reads_counted : {W E : Type 0} (n : ℕ) (out : W) (err : E) (answer : Result Tally Fault) → read_failures_after n answer ≡ read_failures_after n (with_writers out err answer)
reads_counted n out err (Ok tally) = refl
reads_counted n out err (Err (Refused refusal)) = refl
reads_counted n out err (Err Memory) = refl
reads_counted n out err (Err Read) = refl
reads_counted n out err (Err Write) = refl

module _ {W E : Type 0} (asked : Request) (held : W → Option (List ℕ)) (failures : W → ℕ) (tally : Tally) (out new : W) (err : E) (left : Option (List ℕ)) where
  abbrev asks : Request
  asks = request_after asked tally

  whole : (bytes : List ℕ) → Appends (held out) (held new) bytes → AppendsFront (held out) (held new) bytes
  whole bytes written = record { front = bytes; rest = []; whole = sym (append-nil bytes); appended = written }

  first_is_part : (text : List ℕ) → WritesFirst asks text (held out) (held new) → WritesPart asks text (held out) (held new)
  first_is_part text first = record { first = first.first; are = first.are; written = whole _ first.written }

  refused_is_part : (text : List ℕ) (refusal : _) → WritesRefused asks text refusal (held out) (held new) → WritesPart asks text (held out) (held new)
  refused_is_part text refusal refused = record {
    first = refused.first;
    are = record { bodies = _; more = []; passed = sym (append-nil _); spelled = refused.spelled };
    written = whole _ refused.written;
  }

  -- it was read
  pub file_added : (done : Outcome) (answer : Result Tally Fault) → ((text : List ℕ) → left ≡ Some text → WritesSelected asks text done (held out) (held new)) → failures new ≡ failures out → IfOk answer (IsTallyAfter tally done) → IfErr answer (λ fault. fault ≡ Memory)
      → AddsSelected asked held failures new err (so_far tally out err) left (with_writers new err answer)
  file_added done (Ok next) writes counted after memory = record {
    ok = λ text known. record { done = done; writes = writes text known; tally = after };
    refused = λ text known. tt;
    front = λ text known. tt;
    refusal = tt;
    counted = counted;
    unreported = refl;
  }
  file_added done (Err (Refused refusal)) writes counted after memory = let bad : ⊥ = cc in absurd bad
  file_added done (Err Memory) writes counted after memory = record {
    ok = λ text known. tt;
    refused = λ text known. tt;
    front = λ text known. let w = writes text known in whole_is_part asks text (held out) (held new) w.meaning w.accepted w.written;
    refusal = tt;
    counted = counted;
    unreported = refl;
  }
  file_added done (Err Read) writes counted after memory = let bad : ⊥ = cc in absurd bad
  file_added done (Err Write) writes counted after memory = let bad : ⊥ = cc in absurd bad

  -- or it wasn't
  pub fault_added : (fault : Fault) → ((text : List ℕ) → left ≡ Some text → IfRefused {T = Outcome} (Err fault) (λ refusal. WritesRefused asks text refusal (held out) (held new)))
      → ((text : List ℕ) → left ≡ Some text → IfCutOff {T = Outcome} (Err fault) (WritesFirst asks text (held out) (held new)))
      → ((text : List ℕ) → left ≡ Some text → IfWriteFailed {T = Outcome} (Err fault) (WritesPart asks text (held out) (held new)))
      → IfRefused {T = Outcome} (Err fault) IsRefusalOfDocument → failures new ≡ write_failures_after {T = Outcome} (failures out) (Err fault)
      → AddsSelected asked held failures new err (so_far tally out err) left (Err fault)
  fault_added (Refused refusal) refused cut write document counted = record {
    ok = λ text known. tt;
    refused = refused;
    front = λ text known. refused_is_part text refusal (refused text known);
    refusal = document;
    counted = counted;
    unreported = refl;
  }
  fault_added Memory refused cut write document counted = record { ok = λ text known. tt; refused = λ text known. tt; front = λ text known. first_is_part text (cut text known); refusal = tt; counted = counted; unreported = refl }
  fault_added Read refused cut write document counted = record { ok = λ text known. tt; refused = λ text known. tt; front = λ text known. first_is_part text (cut text known); refusal = tt; counted = counted; unreported = refl }
  fault_added Write refused cut write document counted = record { ok = λ text known. tt; refused = λ text known. tt; front = write; refusal = tt; counted = counted; unreported = refl }

-- or it couldn't be opened
pub unopened_added : {W E : Type 0} (asked : Request) (held : W → Option (List ℕ)) (failures : W → ℕ) (before : SoFar W E) (left : Option (List ℕ)) → AddsSelected asked held failures before.out before.err before left (Err Read)
unopened_added asked held failures before left = record {
  ok = λ text known. tt;
  refused = λ text known. tt;
  front = λ text known. nothing_is_part (request_after asked before.tally) text (held before.out);
  refusal = tt;
  counted = refl;
  unreported = refl;
}

-- ---- the files of some paths

module _ {F R W E : Type 0} (by : Opener F R) (asked : Request) (paths : List (List ℕ)) (files after : F) (out : WriterOfJob W) (err : WriterOfJob E) where
  pub selects_paths : (answer : Result Tally PlaceFault) → InOrder (ReadsMore by (AddsSelected asked out.held out.failures out.new err.new)) 1 paths files (so_far no_file out.old err.old) (with_writers out.new err.new answer) after → SelectsPaths by asked paths files after out err answer
  selects_paths (Ok tally) order = record {
    in_order = order;
    ok = λ texts known.
        let old = out.held out.old in
        gathered by (Adds asked out.held out.failures out.new err.new old) asked.kind (Has asked out.held out.failures out.new err.new old) (one_more asked out.held out.failures out.new err.new old) (accepted asked out.held out.failures out.new err.new old) (refused asked out.held out.failures out.new err.new old)
        1 paths texts [] files after (so_far no_file out.old err.old) (so_far tally out.new err.new) order known (no_file_selected asked old);
    refused = λ texts known. tt;
    front = λ texts known. tt;
  }
  selects_paths (Err told) order = record {
    in_order = order;
    ok = λ texts known. tt;
    refused = λ texts known.
        let old = out.held out.old in
        refused_place by (Adds asked out.held out.failures out.new err.new old) asked.kind (Has asked out.held out.failures out.new err.new old) (one_more asked out.held out.failures out.new err.new old) (accepted asked out.held out.failures out.new err.new old) (refused asked out.held out.failures out.new err.new old)
        1 paths texts [] files after (so_far no_file out.old err.old) told order known (no_file_selected asked old);
    front = λ texts known. front asked out.held out.failures out.new err.new (out.held out.old) by 1 paths texts [] files after (so_far no_file out.old err.old) told order known (no_file_selected asked (out.held out.old));
  }

-- without a path standard input is read
pub no_path : (paths : List (String Global)) → true ≡ (length paths == 0) → paths_or_input (map string_bytes paths) ≡ standard_input ∷ []
no_path [] none = refl
no_path (path ∷ paths) none = absurd (omega (arith, eqb-true (length (path ∷ paths)) 0 (sym none)))
