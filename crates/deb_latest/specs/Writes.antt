-- What a call that writes chosen paragraphs does: this project's own.
use Rattle.std.specs.Prelude.{◌≡◌, ◌⊎◌, ℕ, List, [], ◌∷◌, ◌++◌, eqb, length, Option, Result, Ok, Err}
use Rattle.std.specs.Io.KnownBytes.{Appends}
use Rattle.std.specs.List.{list_any}
use Rattle.std.specs.List.Sorted.{IsSorted}
use Rattle.std.specs.Ordering.{nat_cmp}
use Rattle.deb_base.specs.Devices.{AppendsFront}
use Rattle.deb_base.specs.declared.fault.Fault.{Fault}
use Rattle.deb_base.specs.declared.fault.Fault.TheVariants.{Refused, Memory, Read, Write}
use Rattle.deb_base.specs.declared.refusal.Refusal.{Refusal}
use Rattle.deb_syntax.specs.Answers.{next_answer}
use Rattle.deb_syntax.specs.Lines.{IsClosed, Paragraph, paragraphs_of}
use Rattle.deb_syntax.specs.Reading.{passed_count}
use Rattle.deb_latest.specs.Written.{chosen, is_some, text_after}
use Rattle.deb_latest.specs.declared.winners.Winners.{Winners}

-- Of the paragraphs with these numbers, in files that together have so many, those were written
-- that are among the paragraphs that have passed.
pub record HasWritten (numbers : List ℕ) (count : ℕ) (paragraphs : List Paragraph)
    (winners : Winners) : Type 0 where
  pub sorted : IsSorted nat_cmp winners.numbers.items
  pub same : (k : ℕ) → list_any (eqb k) winners.numbers.items ≡ list_any (eqb k) numbers
  pub counted : winners.count ≡ count
  pub passed : winners.passed ≡ length paragraphs
  pub begun : winners.begun ≡ is_some (chosen numbers paragraphs)

-- The paragraphs of the file have passed, and exactly the chosen ones were written.
pub record WritesFile (numbers : List ℕ) (count : ℕ) (before : List Paragraph) (text : List ℕ)
    (winners : Winners) (old new : Option (List ℕ)) : Type 0 where
  pub has : HasWritten numbers count (before ++ paragraphs_of text) winners
  pub written : Appends old new (text_after numbers before (paragraphs_of text))

-- A prefix of the file was read that ends with a blank line and its newline, or is all of it, and
-- exactly the chosen ones of its paragraphs were written.
pub record WritesRead (numbers : List ℕ) (before : List Paragraph) (text : List ℕ)
    (old new : Option (List ℕ)) : Type 0 where
  pub read : List ℕ
  pub rest : List ℕ
  pub whole : text ≡ read ++ rest
  pub closed : IsClosed read ⊎ (rest ≡ [])
  pub written : Appends old new (text_after numbers before (paragraphs_of read))

-- And what follows that prefix is refused so.
pub record WritesRefused (numbers : List ℕ) (before : List Paragraph) (text : List ℕ)
    (refusal : Refusal) (old new : Option (List ℕ)) : Type 0 where
  pub reads : WritesRead numbers before text old new
  pub refused : next_answer text (passed_count reads.read) ≡ Err refusal

-- Ok: one more paragraph has passed, and was written if it is chosen. Out of memory: nothing was
-- written. A failed write: a prefix was.
abbrev pub PutsParagraph : List ℕ → ℕ → List Paragraph → Paragraph → Result (Unit {0}) Fault
    → Winners → Option (List ℕ) → Option (List ℕ) → Type 0
PutsParagraph numbers count before p (Ok done) winners old new =
    HasWritten numbers count (before ++ p ∷ []) winners
    × Appends old new (text_after numbers before (p ∷ []))
PutsParagraph numbers count before p (Err (Refused refusal)) winners old new = ⊥
PutsParagraph numbers count before p (Err Memory) winners old new = old ≡ new
PutsParagraph numbers count before p (Err Read) winners old new = ⊥
PutsParagraph numbers count before p (Err Write) winners old new =
    AppendsFront old new (text_after numbers before (p ∷ []))

-- out of memory or a failed write
abbrev pub IsWritersFault : Result (Unit {0}) Fault → Type 0
IsWritersFault (Ok done) = Unit {0}
IsWritersFault (Err (Refused refusal)) = ⊥
IsWritersFault (Err Memory) = Unit {0}
IsWritersFault (Err Read) = ⊥
IsWritersFault (Err Write) = Unit {0}

-- A fact for an answer says something of that answer.
worked-answers : (numbers : List ℕ) (count : ℕ) (before : List Paragraph) (p : Paragraph)
    (winners : Winners) (old new : Option (List ℕ))
    → (PutsParagraph numbers count before p (Err Memory) winners old new → old ≡ new)
    × (PutsParagraph numbers count before p (Err Write) winners old new
    → AppendsFront old new (text_after numbers before (p ∷ [])))
    × (PutsParagraph numbers count before p (Err Read) winners old new → ⊥)
    × IsWritersFault (Err Write) × (IsWritersFault (Err Read) → ⊥)
worked-answers numbers count before p winners old new =
    (λ put. put, λ put. put, λ put. put, tt, λ fault. fault)
