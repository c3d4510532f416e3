-- What sorting a file answers and writes. Its refusals are in Refusals, its order is in Sorting.
use Rattle.std.specs.Prelude.{◌≡◌, ℕ, Bool, List, Option, Some, None, Result, IfOk, IfErr}
use Rattle.std.specs.Io.KnownBytes.{Appends}
use Rattle.deb_base.specs.Bodies.{Line}
use Rattle.deb_base.specs.Devices.{AppendsFront, read_failures_after, write_failures_after}
use Rattle.deb_base.specs.Faults.{IfRefused, MatchFault}
use Rattle.deb_base.specs.declared.fault.Fault.{Fault}
use Rattle.deb_syntax.specs.Lines.{lines_of, with_newlines}
use Rattle.deb_sort.specs.Refusals.{refusal_of, IsRefusalOfText}
use Rattle.deb_sort.specs.Sorting.{Sorts}

-- All lines of the text are versions, and exactly they were written, in order and each with a
-- newline; or a prefix of that was, before a write failed.
pub record WritesSorted (reverse : Bool) (text : List ℕ) (old new : Option (List ℕ)) : Type 0 where
  pub accepted : refusal_of text ≡ None
  pub sorted : List Line
  pub sorts : Sorts reverse (lines_of text) sorted
  pub written : Appends old new (with_newlines sorted)

pub record WritesFrontOfSorted (reverse : Bool) (text : List ℕ) (old new : Option (List ℕ))
    : Type 0 where
  pub accepted : refusal_of text ≡ None
  pub sorted : List Line
  pub sorts : Sorts reverse (lines_of text) sorted
  pub written : AppendsFront old new (with_newlines sorted)

-- a fact for the fault that a write failed, and one for all others
abbrev pub IfWriteFailed : Fault → Type 0 → Type 0
IfWriteFailed fault P = MatchFault fault (λ _. Unit {0}) (Unit {0}) (Unit {0}) P

abbrev pub IfNotWriteFailed : Fault → Type 0 → Type 0
IfNotWriteFailed fault P = MatchFault fault (λ _. P) P P (Unit {0})

-- The answer to sorting a file, and what was written: by the source's text, its count of failed
-- calls before and after, and the sink before and after.
pub record SortsFile {T W : Type 0} (reverse : Bool) (left : Option (List ℕ))
    (count count_after : ℕ) (held : W → Option (List ℕ)) (failures : W → ℕ) (old new : W)
    (answer : Result T Fault) : Type 0 where
  pub ok : (text : List ℕ) → left ≡ Some text →
      IfOk answer (λ _. WritesSorted reverse text (held old) (held new))
  pub refused : (text : List ℕ) → left ≡ Some text →
      IfErr answer (λ fault. IfRefused fault (λ refusal. refusal_of text ≡ Some refusal))
  pub write : (text : List ℕ) → left ≡ Some text → IfErr answer
      (λ fault. IfWriteFailed fault (WritesFrontOfSorted reverse text (held old) (held new)))
  pub refusal : IfErr answer (λ fault. IfRefused fault IsRefusalOfText)
  pub unwritten : IfErr answer (λ fault. IfNotWriteFailed fault (new ≡ old))
  pub reads : count_after ≡ read_failures_after count answer
  pub writes : failures new ≡ write_failures_after (failures old) answer
