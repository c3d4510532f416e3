-- What is said of a file that was read as far as need be, by each of the answers.
use Rattle.std.proofs.Common.{◌≡◌, ℕ, Bool, List, ◌++◌, length, take, Option, Some, None, Result, Ok, Err, IfErr, inl, inr, refl, sym, ap, ◌∙◌, subst, arith, append-nil, length-append, is_some, true≢false}
use Rattle.std.specs.Prelude.{⊤}
use Rattle.std.proofs.lemmas.List.{take-append-le}
use Rattle.deb_base.specs.Bodies.{Line, pieces_of, file_limit}
use Rattle.deb_base.specs.Devices.{Puts, read_failures_after, write_failures_after}
use Rattle.deb_base.specs.Faults.{RefusedOrMemory}
use Rattle.deb_base.specs.declared.code.Code.TheVariants.{FileTooLong}
use Rattle.deb_base.specs.declared.fault.Fault.{Fault}
use Rattle.deb_base.specs.declared.fault.Fault.TheVariants.{Refused, Memory, Read, Write}
use Rattle.deb_base.specs.Reading.{IsEnough, IsMemoryOrRead, ReadsEnough, TakesNoMore}
use Rattle.deb_sort.specs.Files.{SortsFile}
use Rattle.deb_sort.specs.Refusals.{refusal_of}
use Rattle.deb_sort.specs.Sorting.{Sorts}
use Rattle.deb_sort.proofs.Refusals.{beyond}
use Rattle.deb_syntax.specs.Lines.{lines_of, with_newlines}

-- what was read has the refusal of the whole file
refusal_of_read : (text read : List ℕ) → IsEnough file_limit text read → refusal_of text ≡ refusal_of read
refusal_of_read text read enough = elim enough.enough [
  | inl nothing ↦ ap refusal_of (enough.whole ∙ ap (λ rest. read ++ rest) nothing ∙ append-nil read)
  | inr long ↦
      ap refusal_of enough.whole
      ∙ beyond (read ++ enough.rest) (omega (arith, long, length-append read enough.rest))
      ∙ ap (λ front. Some (record { code = FileTooLong; line = length (pieces_of front) })) (take-append-le file_limit read enough.rest (omega (arith, long)))
      ∙ sym (beyond read long)
]

-- a file without refusal was read whole
whole_read : (text read : List ℕ) → IsEnough file_limit text read → refusal_of read ≡ None → text ≡ read
whole_read text read enough good = elim enough.enough [
  | inl nothing ↦ enough.whole ∙ ap (λ rest. read ++ rest) nothing ∙ append-nil read
  | inr long ↦ let bad : Some (record { code = FileTooLong; line = length (pieces_of (take file_limit read)) }) ≡ None = sym (beyond read long) ∙ good in absurd (true≢false (ap is_some bad))
]

module _ {W : Type 0} (reverse : Bool) (left : Option (List ℕ)) (count count_after : ℕ) (held : W → Option (List ℕ)) (failures : W → ℕ) (old : W) where
  pub unread : (fault : Fault) → IsMemoryOrRead fault → count_after ≡ read_failures_after {T = ⊤} count (Err fault)
      → SortsFile {T = ⊤} reverse left count count_after held failures old old (Err fault)
  unread (Refused refusal) is counted = absurd is
  unread Memory is counted = record { ok = λ _ _. tt; refused = λ _ _. tt; write = λ _ _. tt; refusal = tt; unwritten = refl; reads = counted; writes = refl }
  unread Read is counted = record { ok = λ _ _. tt; refused = λ _ _. tt; write = λ _ _. tt; refusal = tt; unwritten = refl; reads = counted; writes = refl }
  unread Write is counted = absurd is

  module _ (read : List ℕ) (enough : ReadsEnough file_limit left read) (counted : count_after ≡ count) where
    pub refused : (fault : Fault) → RefusedOrMemory fault (λ refusal. refusal_of read ≡ Some refusal) → SortsFile {T = ⊤} reverse left count count_after held failures old old (Err fault)
    refused (Refused refusal) is = record {
      ok = λ _ _. tt;
      refused = λ text told. refusal_of_read text read (enough text told) ∙ is;
      write = λ _ _. tt;
      refusal = (read, is);
      unwritten = refl;
      reads = counted;
      writes = refl;
    }
    refused Memory is = unread Memory tt counted
    refused Read is = absurd is
    refused Write is = absurd is

    pub written : (new : W) (sorted : List Line) (answer : Result ⊤ Fault) → refusal_of read ≡ None → Sorts reverse (lines_of read) sorted
        → Puts (held old) (held new) answer (with_newlines sorted) → IfErr answer (λ fault. fault ≡ Write) → failures new ≡ write_failures_after (failures old) answer
        → SortsFile reverse left count count_after held failures old new answer
    written new sorted (Ok done) good sorts puts is writes = record {
      ok = λ text told. let same = whole_read text read (enough text told) good in record {
        accepted = ap refusal_of same ∙ good;
        sorted = sorted;
        sorts = subst (λ t. Sorts reverse (lines_of t) sorted) (sym same) sorts;
        written = puts;
      };
      refused = λ _ _. tt;
      write = λ _ _. tt;
      refusal = tt;
      unwritten = tt;
      reads = counted;
      writes = writes;
    }
    written new sorted (Err (Refused refusal)) good sorts puts is writes = let bad : ⊥ = cc in absurd bad
    written new sorted (Err Memory) good sorts puts is writes = let bad : ⊥ = cc in absurd bad
    written new sorted (Err Read) good sorts puts is writes = let bad : ⊥ = cc in absurd bad
    written new sorted (Err Write) good sorts puts is writes = record {
      ok = λ _ _. tt;
      refused = λ _ _. tt;
      write = λ text told. let same = whole_read text read (enough text told) good in record {
        accepted = ap refusal_of same ∙ good;
        sorted = sorted;
        sorts = subst (λ t. Sorts reverse (lines_of t) sorted) (sym same) sorts;
        written = puts;
      };
      refusal = tt;
      unwritten = tt;
      reads = counted;
      writes = writes;
    }

-- as much was read as the limit of a file asks for
pub enough_of_file : {left : Option (List ℕ)} {read : List ℕ} → ReadsEnough 4294967295 left read → ReadsEnough file_limit left read
unfolding file_limit
enough_of_file enough = enough

-- and no more was taken than it allows
pub no_more_than_file : {text : List ℕ} {left : Option (List ℕ)} → TakesNoMore text 4294967295 left → TakesNoMore text file_limit left
unfolding file_limit
no_more_than_file few = few
