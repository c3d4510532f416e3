-- What is written of two files.
use Rattle.std.specs.Prelude.{◌≡◌, ◌↔◌, ℕ, Bool, true, false, IsTrue, List, [], Option, refl}
use Rattle.std.specs.Io.KnownBytes.{Appends}
use Rattle.deb_base.specs.Devices.{AppendsFront}
use Rattle.deb_base.specs.Faults.{MatchFault}
use Rattle.deb_base.specs.declared.fault.Fault.{Fault}
use Rattle.deb_control.specs.Checking.{IsRefusalOfDocument}
use Rattle.deb_control.specs.Documents.{Accepted, Meaning}
use Rattle.deb_control.specs.declared.side.Side.TheVariants.{Second}
use Rattle.deb_control.specs.declared.side.SideFault.{SideFault}
use Rattle.deb_diff.specs.Kinds.{doc_of}
use Rattle.deb_diff.specs.Lines.{diff_text}
use Rattle.deb_diff.specs.declared.form.Form.{Form}
use Rattle.deb_diff.specs.declared.kind.Kind.{Kind}

-- Both files are accepted, and exactly the lines that say what changed between them were written;
-- this is whether there is none.
pub record WritesDiff (kind : Kind) (form : Form) (text other : List ℕ)
    (old new : Option (List ℕ)) (is_empty : Bool) : Type 0 where
  pub old_meaning : Meaning
  pub new_meaning : Meaning
  pub accepted : Accepted (doc_of kind) text old_meaning
  pub other_accepted : Accepted (doc_of kind) other new_meaning
  pub written : Appends old new (diff_text kind form text other old_meaning new_meaning)
  pub no_line : IsTrue is_empty ↔ (diff_text kind form text other old_meaning new_meaning ≡ [])

-- Both files are accepted, and a prefix of the lines was written.
pub record WritesSome (kind : Kind) (form : Form) (text other : List ℕ)
    (old new : Option (List ℕ)) : Type 0 where
  pub old_meaning : Meaning
  pub new_meaning : Meaning
  pub accepted : Accepted (doc_of kind) text old_meaning
  pub other_accepted : Accepted (doc_of kind) other new_meaning
  pub written : AppendsFront old new (diff_text kind form text other old_meaning new_meaning)

-- Out of memory, or a failed write.
abbrev pub IsWritersFault : Fault → Type 0
IsWritersFault fault = MatchFault fault (λ _. ⊥) (Unit {0}) ⊥ (Unit {0})

-- A refusal of a document, out of memory or a failed read, at the file of that side; or a failed
-- write, after the second file was read.
abbrev pub IsDiffFault : SideFault → Type 0
IsDiffFault told =
    MatchFault told.fault IsRefusalOfDocument (Unit {0}) (Unit {0}) (told.side ≡ Second)

-- If no write failed, an error leaves what the writer holds.
abbrev pub KeepsHeld : Option (List ℕ) → Option (List ℕ) → Fault → Type 0
KeepsHeld old new fault = MatchFault fault (λ _. new ≡ old) (new ≡ old) (new ≡ old) (Unit {0})

-- true only without a line, and false only with one
worked-no_line : (kind : Kind) (form : Form) (text other : List ℕ) (old new : Option (List ℕ))
    → ((w : WritesDiff kind form text other old new true)
    → diff_text kind form text other w.old_meaning w.new_meaning ≡ [])
    × ((w : WritesDiff kind form text other old new false)
    → diff_text kind form text other w.old_meaning w.new_meaning ≡ [] → false ≡ true)
worked-no_line kind form text other old new = (λ w. w.no_line.0 refl, λ w. w.no_line.1)
