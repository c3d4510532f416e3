-- What the calls that check and normalise a file answer and write (Debian Policy 5.1; the canonical
-- text is this project's own).
use Rattle.std.specs.Prelude.{◌≡◌, ◌⊎◌, ℕ, List, [], ◌++◌, length, Option, Some, Result, Ok, Err}
use Rattle.std.specs.Io.KnownBytes.{Appends}
use Rattle.deb_base.specs.Faults.{MatchFault}
use Rattle.deb_base.specs.declared.fault.Fault.{Fault}
use Rattle.deb_base.specs.declared.fault.Fault.TheVariants.{Refused, Memory, Read, Write}
use Rattle.deb_base.specs.declared.refusal.Refusal.{Refusal}
use Rattle.deb_syntax.specs.Lines.{IsClosed}
use Rattle.deb_syntax.specs.Meaning.{Entries}
use Rattle.deb_syntax.specs.Reading.{passed_count}
use Rattle.deb_base.specs.declared.doc.Doc.{Doc}
use Rattle.deb_control.specs.Canonical.{file_text}
use Rattle.deb_control.specs.Documents.{rules_of, Meaning, Accepted, canonical_text, refusal_of, out_of}
use Rattle.deb_control.specs.Refusals.{outcome}

-- a fact for the answer that the file is refused, and one each for out of memory, a failed read
-- and a failed write
abbrev pub IfRefused : {T : Type 0} → Result T Fault → (Refusal → Type 0) → Type 0
IfRefused (Ok _) P = Unit {0}
IfRefused (Err fault) P = MatchFault fault P (Unit {0}) (Unit {0}) (Unit {0})

abbrev pub IfCutOff : {T : Type 0} → Result T Fault → Type 0 → Type 0
IfCutOff (Ok _) P = Unit {0}
IfCutOff (Err fault) P = MatchFault fault (λ _. Unit {0}) P P (Unit {0})

abbrev pub IfWriteFailed : {T : Type 0} → Result T Fault → Type 0 → Type 0
IfWriteFailed (Ok _) P = Unit {0}
IfWriteFailed (Err fault) P = MatchFault fault (λ _. Unit {0}) (Unit {0}) (Unit {0}) P

-- The file is accepted with a meaning of n paragraphs.
pub record HasParagraphs (doc : Doc) (text : List ℕ) (n : ℕ) : Type 0 where
  pub meaning : Meaning
  pub accepted : Accepted doc text meaning
  pub count : length meaning ≡ n

-- And exactly its canonical text was written.
pub record WritesCanonical (doc : Doc) (text : List ℕ) (n : ℕ)
    (old new : Option (List ℕ)) : Type 0 where
  pub meaning : Meaning
  pub accepted : Accepted doc text meaning
  pub count : length meaning ≡ n
  pub written : Appends old new (canonical_text meaning)

-- The file is refused so, and exactly the canonical text of the paragraphs before the first that
-- fails was written.
pub record WritesRefused (doc : Doc) (text : List ℕ) (refusal : Refusal)
    (old new : Option (List ℕ)) : Type 0 where
  pub refused : refusal_of doc text ≡ Some refusal
  pub written : Appends old new (out_of doc text)

-- A prefix of the file was read that ends with a blank line and its newline, or is all of it: its
-- paragraphs are the first of those that pass, and so they are where that prefix is a file of its
-- own; exactly their canonical text was written.
pub record WritesRead (doc : Doc) (text : List ℕ) (old new : Option (List ℕ)) : Type 0 where
  pub read : List ℕ
  pub behind : List ℕ
  pub whole : text ≡ read ++ behind
  pub closed : IsClosed read ⊎ (behind ≡ [])
  pub first : List Entries
  pub more : List Entries
  pub passed : (outcome (rules_of doc) text).passed ≡ first ++ more
  pub all : passed_count read ≡ length first
  pub alone : (outcome (rules_of doc) read).passed ≡ first
  pub written : Appends old new (file_text first)

-- A fact for an answer says something of that answer: of a refusal, of out of memory and a failed
-- read alike, and of a failed write.
facts_of_answers : (T : Type 0) (refusal : Refusal) (Fact : Refusal → Type 0) (P : Type 0)
    → (IfRefused {T = T} (Err (Refused refusal)) Fact → Fact refusal)
    × (IfCutOff {T = T} (Err Memory) P → P) × (IfCutOff {T = T} (Err Read) P → P)
    × (IfWriteFailed {T = T} (Err Write) P → P)
facts_of_answers T refusal Fact P = (λ fact. fact, λ fact. fact, λ fact. fact, λ fact. fact)
