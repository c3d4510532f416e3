-- From what is found of a file, and written, to what `check` with demands answers and reports.
use Rattle.std.proofs.Common.{◌≡◌, ℕ, Bool, true, false, List, Option, Ok, Err, refl, sym, ap, subst, ◌∙◌}
use Rattle.std.specs.Prelude.{⊤, if◌then◌else◌, nat_lt}
use Rattle.deb_base.specs.declared.doc.Doc.{Doc}
use Rattle.deb_base.specs.declared.fault.Fault.{Fault}
use Rattle.deb_base.specs.declared.fault.Fault.TheVariants.{Refused, Memory, Read, Write}
use Rattle.deb_control.specs.Calls.{HasParagraphs}
use Rattle.debctl_commands.specs.Verdicts.{verdict_by, verdict_of, AnswersFile}
use Rattle.debctl_commands.specs.WholeJob.{ChecksWhole, PutsVerdict}
use Rattle.debctl_commands.specs.declared.verdict.Verdict.{Verdict}
use Rattle.debctl_commands.specs.declared.verdict.Verdict.TheVariants.{Whole, NoNewline, TooFew}
use Rattle.debctl_args.specs.declared.jobs.Demands.{Demands}

-- a file that meets the demands has the paragraphs that are found
counts : (ends : Bool) (least m n : ℕ) → Whole n ≡ verdict_by ends least m → n ≡ m
counts false least m n is = cc
counts true least m n is = go (nat_lt m least) is
  where
    go : (t : Bool) → Whole n ≡ (if t then TooFew m least else Whole m) → n ≡ m
    go true is = cc
    go false is = cc

module _ {W : Type 0} (doc : Doc) (demands : Demands) (left left_after : Option (List ℕ)) (count count_after : ℕ) (held : W → Option (List ℕ)) (failures : W → ℕ) (old : W) where
  -- the file isn't accepted, and nothing was written
  pub not_checked : (fault : Fault) → AnswersFile doc demands left left_after count count_after (Err fault) → ChecksWhole doc demands left count count_after held failures old old (Err fault)
  not_checked (Refused refusal) a = record { ok = λ _ _. tt; written = tt; refused = a.refused; write = λ _ _. tt; refusal = a.fault; unwritten = refl; reads = a.reads; writes = refl }
  not_checked Memory a = record { ok = λ _ _. tt; written = tt; refused = λ _ _. tt; write = λ _ _. tt; refusal = tt; unwritten = refl; reads = a.reads; writes = refl }
  not_checked Read a = record { ok = λ _ _. tt; written = tt; refused = λ _ _. tt; write = λ _ _. tt; refusal = tt; unwritten = refl; reads = a.reads; writes = refl }
  not_checked Write a = absurd a.fault

  -- it is accepted, and what is found of it was written
  pub checked : (new : W) (verdict : Verdict) (done : ⊤) → AnswersFile doc demands left left_after count count_after (Ok verdict) → PutsVerdict held failures old new verdict (Ok done) → ChecksWhole doc demands left count count_after held failures old new (Ok verdict)
  checked new (Whole n) done a puts = record { ok = a.ok; written = puts.written; refused = λ _ _. tt; write = λ _ _. tt; refusal = tt; unwritten = tt; reads = a.reads; writes = puts.counts_failure }
  checked new NoNewline done a (same, ok) = record { ok = a.ok; written = same; refused = λ _ _. tt; write = λ _ _. tt; refusal = tt; unwritten = tt; reads = a.reads; writes = ap failures same }
  checked new (TooFew n least) done a (same, ok) = record { ok = a.ok; written = same; refused = λ _ _. tt; write = λ _ _. tt; refusal = tt; unwritten = tt; reads = a.reads; writes = ap failures same }

  -- or a prefix of that was
  cut : (new : W) (n : ℕ) (fault : Fault) → fault ≡ Write → AnswersFile doc demands left left_after count count_after (Ok (Whole n)) → PutsVerdict held failures old new (Whole n) (Err Write) → ChecksWhole doc demands left count count_after held failures old new (Err fault)
  cut new n fault is a puts = rw is (record {
    ok = λ _ _. tt;
    written = tt;
    refused = λ _ _. tt;
    write = λ text told. (let f = a.ok text told in record {
      count = n;
      paragraphs = subst (HasParagraphs doc text) (sym (counts _ demands.least f.count n f.is)) f.paragraphs;
      whole = ap (verdict_of demands text) (counts _ demands.least f.count n f.is) ∙ sym f.is;
      written = puts.written;
    });
    refusal = tt;
    unwritten = tt;
    reads = a.reads;
    writes = puts.counts_failure;
  })

  pub unwritten : (new : W) (verdict : Verdict) (fault : Fault) → AnswersFile doc demands left left_after count count_after (Ok verdict) → PutsVerdict held failures old new verdict (Err fault) → ChecksWhole doc demands left count count_after held failures old new (Err fault)
  unwritten new (Whole n) fault a puts = cut new n fault puts.fault a (subst (λ f. PutsVerdict held failures old new (Whole n) (Err f)) puts.fault puts)
  unwritten new NoNewline fault a (same, none) = absurd none
  unwritten new (TooFew n least) fault a (same, none) = absurd none
