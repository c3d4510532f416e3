-- From what is read of a file, and answered of that, to what is answered of the file.
use Rattle.std.proofs.Common.{◌≡◌, ℕ, zero, suc, ◌==◌, ◌||◌, true, false, not, List, [], ◌∷◌, ◌++◌, length, get_or, Option, Some, Result, Ok, Err, IfErr, inl, inr, refl, sym, ap, subst, ◌∙◌, arith, append-nil}
use Rattle.deb_base.specs.Bodies.{newline, file_limit}
use Rattle.deb_base.specs.Devices.{one_more, read_failures_after}
use Rattle.deb_base.specs.Faults.{IsReadersFault, RefusedOrMemory}
use Rattle.deb_base.specs.Reading.{IsEnough, IsMemoryOrRead, ReadsEnough, TakesNoMore}
use Rattle.deb_base.specs.declared.doc.Doc.{Doc}
use Rattle.deb_base.specs.declared.fault.Fault.{Fault}
use Rattle.deb_base.specs.declared.fault.Fault.TheVariants.{Refused, Memory, Read, Write}
use Rattle.deb_control.specs.Calls.{HasParagraphs, IfRefused}
use Rattle.deb_control.specs.Checking.{IsRefusalOfDocument}
use Rattle.deb_control.specs.Documents.{refusal_of}
use Rattle.deb_syntax.specs.Lines.{ends_line}
use Rattle.debctl_commands.specs.Taking.{TakesFile}
use Rattle.debctl_commands.specs.Verdicts.{verdict_by, AnswersFile}
use Rattle.debctl_commands.specs.declared.verdict.Verdict.{Verdict}
use Rattle.debctl_args.specs.declared.jobs.Demands.{Demands}
use Rattle.debctl_commands.proofs.LongFiles.{refusal_of_read}

-- the byte that ends a text
pub ends_line-last : (text : List ℕ) (n : ℕ) → length text ≡ suc n → ends_line text ≡ (get_or text n 0 == newline)
ends_line-last [] n long = absurd (omega arith)
ends_line-last (b ∷ []) zero long = refl
ends_line-last (b ∷ []) (suc n) long = absurd (omega arith)
ends_line-last (b ∷ c ∷ bs) zero long = absurd (omega arith)
ends_line-last (b ∷ c ∷ bs) (suc n) long = ends_line-last (c ∷ bs) n (omega arith)

-- as much was read as the limit of a file asks for, and no more was taken than it allows
pub enough_of_file : {left : Option (List ℕ)} {read : List ℕ} → ReadsEnough 4294967295 left read → ReadsEnough file_limit left read
unfolding file_limit
enough_of_file enough = enough

pub takes_file : {left left_after : Option (List ℕ)} → ((text : List ℕ) → left ≡ Some text → TakesNoMore text 4294967295 left_after) → TakesFile left left_after
unfolding file_limit
takes_file takes = takes

-- an accepted file was read whole
whole_read : (doc : Doc) (text read : List ℕ) (n : ℕ) → IsEnough file_limit text read → HasParagraphs doc read n → text ≡ read
whole_read doc text read n enough has = elim enough.enough [
  | inl nothing ↦ enough.whole ∙ ap (λ rest. read ++ rest) nothing ∙ append-nil read
  | inr long ↦ absurd (omega (arith, long, has.accepted.short))
]

module _ (doc : Doc) (left left_after : Option (List ℕ)) (count count_after : ℕ) (takes : TakesFile left left_after) where
  -- the file couldn't be read
  pub unread : (T : Type 0) (demands : Demands) (fault : Fault) → IsMemoryOrRead fault → count_after ≡ read_failures_after {T = T} count (Err fault) → AnswersFile doc demands left left_after count count_after (Err fault)
  unread T demands (Refused refusal) is counted = absurd is
  unread T demands Memory is counted = record { ok = λ _ _. tt; refused = λ _ _. tt; fault = tt; reads = counted; reads_at_most = takes }
  unread T demands Read is counted = record { ok = λ _ _. tt; refused = λ _ _. tt; fault = tt; reads = counted; reads_at_most = takes }
  unread T demands Write is counted = absurd is

  -- or isn't accepted
  pub not_accepted : (demands : Demands) (fault : Fault) → ((text : List ℕ) → left ≡ Some text → IfRefused {T = ℕ} (Err fault) (λ refusal. refusal_of doc text ≡ Some refusal)) → IsReadersFault fault IsRefusalOfDocument
      → count_after ≡ read_failures_after {T = ℕ} count (Err fault) → AnswersFile doc demands left left_after count count_after (Err fault)
  not_accepted demands (Refused refusal) refused is counted = record { ok = λ _ _. tt; refused = refused; fault = is; reads = counted; reads_at_most = takes }
  not_accepted demands Memory refused is counted = unread ℕ demands Memory tt counted
  not_accepted demands Read refused is counted = unread ℕ demands Read tt counted
  not_accepted demands Write refused is counted = absurd is

  -- it is accepted, and its end isn't asked for
  pub found_plainly : (demands : Demands) → demands.complete ≡ false → (n : ℕ) (verdict : Verdict) → verdict ≡ verdict_by true demands.least n → ((text : List ℕ) → left ≡ Some text → HasParagraphs doc text n) → count_after ≡ count
      → AnswersFile doc demands left left_after count count_after (Ok verdict)
  found_plainly demands any n verdict is has counted = record {
    ok = λ text told. record { count = n; paragraphs = has text told; is = is ∙ ap (λ b. verdict_by (not b || ends_line text) demands.least n) (sym any) };
    refused = λ _ _. tt;
    fault = tt;
    reads = counted;
    reads_at_most = takes;
  }

  -- what is answered with its end asked for
  pub answers_complete : (demands : Demands) → demands.complete ≡ true → {answer : _} → AnswersFile doc (record { complete = true; least = demands.least }) left left_after count count_after answer → AnswersFile doc demands left left_after count count_after answer
  answers_complete demands is {answer} answers = subst (λ b. AnswersFile doc (record { complete = b; least = demands.least }) left left_after count count_after answer) (sym is) answers

  module _ (read : List ℕ) (enough : ReadsEnough file_limit left read) (counted : count_after ≡ count) where
    pub refused : (demands : Demands) (fault : Fault) → IfRefused {T = ℕ} (Err fault) (λ refusal. refusal_of doc read ≡ Some refusal) → RefusedOrMemory fault IsRefusalOfDocument → AnswersFile doc demands left left_after count count_after (Err fault)
    refused demands (Refused refusal) of is = record { ok = λ _ _. tt; refused = λ text told. refusal_of_read doc text read (enough text told) ∙ of; fault = is; reads = counted; reads_at_most = takes }
    refused demands Memory of is = unread ℕ demands Memory tt counted
    refused demands Read of is = absurd is
    refused demands Write of is = absurd is

    pub found : (least n : ℕ) (verdict : Verdict) → verdict ≡ verdict_by (ends_line read) least n → HasParagraphs doc read n → AnswersFile doc (record { complete = true; least = least }) left left_after count count_after (Ok verdict)
    found least n verdict is has = record {
      ok = λ text told. (let same = whole_read doc text read n (enough text told) has in record {
        count = n;
        paragraphs = subst (λ t. HasParagraphs doc t n) (sym same) has;
        is = is ∙ ap (λ t. verdict_by (ends_line t) least n) (sym same);
      });
      refused = λ _ _. tt;
      fault = tt;
      reads = counted;
      reads_at_most = takes;
    }

-- no read of a file in memory fails
pub unfailed : (answer : Result ℕ Fault) → 0 ≡ read_failures_after 0 answer → IfErr answer (λ fault. IsReadersFault fault IsRefusalOfDocument) → IfErr answer (λ fault. RefusedOrMemory fault IsRefusalOfDocument)
unfailed (Ok n) counted is = tt
unfailed (Err (Refused refusal)) counted is = is
unfailed (Err Memory) counted is = tt
unfailed (Err Read) counted is = let bad : 0 ≡ one_more 0 = counted in absurd (omega (arith, bad))
unfailed (Err Write) counted is = absurd is
