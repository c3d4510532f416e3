-- Reading on in a file, a call at a time.
use Rattle.deb_control.proofs.Common.{◌≡◌, ℕ, List, [], Option, None, Some, Result, Ok, Err, IfOk, refl, ap, ◌∙◌, ⊤, Shown, read_failures_after, Fault, Doc, checked_state, checked_moment, Passing, FitsChecked, ChecksOn, all_pass, ReadsFile, ReadsOn, Checked}
use Rattle.deb_control.proofs.CheckedSoFar.{goes_on, sound_on, failed_on, checked_on, counted_on, has_taken, refusal_behind}

-- nothing was read yet
pub reads-none : (checked : Checked) (source : Shown) → checked.fault ≡ None → ReadsOn {T = ⊤} checked source (Ok tt) checked source
reads-none checked source sound = record {
  files = λ text has. record { taken = has_taken checked checked.doc text source.bytes has; refused = tt; given = has };
  failures = refl;
  fault = tt;
  sound = sound;
  failed = tt;
  doc = refl;
}

module _ (before now after : Checked) (source source_now source_after : Shown) (reads : ReadsOn {T = ⊤} before source (Ok tt) now source_now) where
  -- then a call that answers a paragraph or none
  pub reads-ok : {T : Type 0} (x : T) (given : Option Passing) → ChecksOn now.doc (checked_moment now source_now.bytes source_now.failures) (Ok given) (checked_moment after source_after.bytes source_after.failures) → after.doc ≡ now.doc → ReadsOn before source (Ok x) after source_after
  reads-ok x given checks same =
      let goes = goes_on _ _ _ _ reads.sound (rw reads.doc at checks) in
      record {
        files = λ text has.
            let so_far = (reads.files text has).given in
            record { taken = goes.taken text (all_pass so_far.before) so_far.fits; refused = tt; given = checked_on _ text so_far.before given _ _ (goes.answers text (all_pass so_far.before) so_far.fits) };
        failures = goes.counted ∙ reads.failures;
        fault = tt;
        sound = sound_on _ _ _ _ reads.sound checks;
        failed = tt;
        doc = same ∙ reads.doc;
      }

  -- or a fault
  pub reads-err : {T : Type 0} (fault : Fault) → ChecksOn now.doc (checked_moment now source_now.bytes source_now.failures) (Err fault) (checked_moment after source_after.bytes source_after.failures) → ReadsOn {T = T} before source (Err fault) after source_after
  reads-err {T} fault checks =
      let goes = goes_on _ _ _ _ reads.sound (rw reads.doc at checks) in
      record {
        files = λ text has.
            let so_far = (reads.files text has).given in
            record { taken = goes.taken text (all_pass so_far.before) so_far.fits; refused = refusal_behind T _ text _ _ _ _ fault so_far (goes.answers text (all_pass so_far.before) so_far.fits); given = tt };
        failures = counted_on T _ _ fault _ _ goes reads.failures;
        fault = goes.fault;
        sound = tt;
        failed = failed_on _ _ fault _ reads.sound checks;
        doc = tt;
      }

  -- or one that reads on
  pub reads-then : {T : Type 0} (result : Result T Fault) → ReadsOn now source_now result after source_after → ReadsOn before source result after source_after
  reads-then {T} result more = record {
    files = λ text has. rw reads.doc at more.files text (reads.files text has).given;
    failures = more.failures ∙ ap (λ n. read_failures_after n result) reads.failures;
    fault = more.fault;
    sound = more.sound;
    failed = more.failed;
    doc = go result more.doc;
  }
    where
      go : (r : Result T Fault) → IfOk r (λ _. after.doc ≡ now.doc) → IfOk r (λ _. after.doc ≡ before.doc)
      go (Ok x) same = same ∙ reads.doc
      go (Err fault) same = tt

-- The answer says no more than whether there was a fault, and which.
pub reads-well : {T : Type 0} {x : T} {before after : Checked} {source source_after : Shown} → ReadsOn before source (Ok x) after source_after → ReadsOn {T = ⊤} before source (Ok tt) after source_after
reads-well reads = record {
  files = λ text has. let file = reads.files text has in record { taken = file.taken; refused = tt; given = file.given };
  failures = reads.failures;
  fault = tt;
  sound = reads.sound;
  failed = tt;
  doc = reads.doc;
}

pub reads-fault : {T : Type 0} {fault : Fault} {before after : Checked} {source source_after : Shown} → ReadsOn {T = T} before source (Err fault) after source_after → ReadsOn {T = ⊤} before source (Err fault) after source_after
reads-fault reads = record {
  files = λ text has. let file = reads.files text has in record { taken = file.taken; refused = file.refused; given = tt };
  failures = reads.failures;
  fault = reads.fault;
  sound = tt;
  failed = reads.failed;
  doc = tt;
}

-- what it says of a file that wasn't read before
pub reads-new : {T : Type 0} {doc : Doc} {result : Result T Fault} {before after : Checked} {source source_after : Shown} (text : List ℕ) → before.doc ≡ doc → FitsChecked doc text [] (checked_state before) source.bytes → ReadsOn before source result after source_after → ReadsFile doc text result (checked_state after) source_after.bytes
reads-new text same fits reads = rw same at reads.files text (record { before = []; fits = fits })

pub reads-file : {T : Type 0} {doc : Doc} {result : Result T Fault} {before after : Checked} {source source_after : Shown} (text : List ℕ) → before.doc ≡ doc → ((t : List ℕ) → FitsChecked doc t [] (checked_state before) (Some t)) → source.bytes ≡ Some text → ReadsOn before source result after source_after → ReadsFile doc text result (checked_state after) source_after.bytes
reads-file text same fits told reads = rw same at reads.files text (record { before = []; fits = rw told (fits text) })
