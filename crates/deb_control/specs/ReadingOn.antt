-- What a call says that reads on in a file whose first paragraphs were given (Debian Policy
-- 5.1; the limits and the order of the refusals are this project's own).
use Rattle.std.specs.Prelude.{refl, ◌≡◌, ℕ, List, Option, Some, None, IfOk, IfErr, Result, codes}
use Rattle.deb_base.specs.Bodies.{file_limit}
use Rattle.deb_base.specs.Devices.{Shown, read_failures_after}
use Rattle.deb_base.specs.Faults.{IsReadersFault}
use Rattle.deb_base.specs.declared.fault.Fault.{Fault}
use Rattle.deb_base.specs.Reading.{TakesNoMore}
use Rattle.deb_base.specs.declared.doc.Doc.{Doc}
use Rattle.deb_control.specs.Calls.{IfRefused}
use Rattle.deb_control.specs.Checking.{CheckedState, HasChecked, IsRefusalOfDocument}
use Rattle.deb_control.specs.CheckedStates.{checked_state}
use Rattle.deb_control.specs.Documents.{refusal_of}
use Rattle.deb_control.specs.declared.checked.Checked.{Checked}

-- what a source shows
abbrev pub shown : Option (List ℕ) → ℕ → Shown
shown left failures = record { bytes = left; failures = failures }

-- What the answer says of one file: how much of it was taken, which refusal is its own, and that
-- without a fault its first paragraphs were given.
pub record ReadsFile {T : Type 0} (doc : Doc) (text : List ℕ) (result : Result T Fault)
    (state : CheckedState) (left : Option (List ℕ)) : Type 0 where
  pub taken : TakesNoMore text file_limit left
  pub refused : IfRefused result (λ refusal. refusal_of doc text ≡ Some refusal)
  pub given : IfOk result (λ _. HasChecked doc text state left)

-- The reader went from one moment to another, with this answer: what that says of each file of
-- which the first paragraphs were given before, how often the source failed, and which faults there
-- are; without one the reader has none, and with one it has that fault.
pub record ReadsOn {T : Type 0} (before : Checked) (source : Shown) (result : Result T Fault)
    (after : Checked) (source_after : Shown) : Type 0 where
  pub files : (text : List ℕ) → HasChecked before.doc text (checked_state before) source.bytes
      → ReadsFile before.doc text result (checked_state after) source_after.bytes
  pub failures : source_after.failures ≡ read_failures_after source.failures result
  pub fault : IfErr result (λ fault. IsReadersFault fault IsRefusalOfDocument)
  pub sound : IfOk result (λ _. after.fault ≡ None)
  pub failed : IfErr result (λ fault. after.fault ≡ Some fault)
  pub doc : IfOk result (λ _. after.doc ≡ before.doc)

devices_shown : shown (Some (codes "D")) 3 ≡ record { bytes = Some (codes "D"); failures = 3 }
devices_shown = refl
