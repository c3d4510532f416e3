-- From what is written of a file that is explained to what its job answers.
use Rattle.std.proofs.Common.{◌≡◌, ℕ, Bool, List, Option, Some, Ok, Err, sym, ap, ◌∙◌, subst}
use Rattle.std.specs.Prelude.{⊤}
use Rattle.deb_base.specs.Devices.{one_more, write_failures_after}
use Rattle.deb_base.specs.declared.fault.Fault.{Fault}
use Rattle.deb_base.specs.declared.fault.Fault.TheVariants.{Write}
use Rattle.deb_base.specs.declared.doc.Doc.{Doc}
use Rattle.debctl_commands.specs.ExplainJob.{Explains, WritesAnswer, WritesFront}

module _ (W : Type 0) (doc : Doc) (path : List ℕ) (left : Option (List ℕ)) (count count_after : ℕ) (held : W → Option (List ℕ)) (failures : W → ℕ) (old new : W) (reads : count_after ≡ count) where
  -- the answer was written
  pub answer_written : (accepted : Bool) → ((text : List ℕ) → left ≡ Some text → WritesAnswer doc path text (held old) (held new) accepted) → failures new ≡ failures old → Explains doc path left count count_after held failures old new (Ok accepted)
  answer_written accepted written counted =
      record { ok = written; write = λ text shown. tt; unrefused = tt; unwritten = tt; reads = reads; writes = counted }

  -- a prefix of it was, before a write failed
  pub front_written : (fault : Fault) → fault ≡ Write → ((text : List ℕ) → left ≡ Some text → WritesFront doc path text (held old) (held new)) → failures new ≡ write_failures_after {T = ⊤} (failures old) (Err fault) → Explains doc path left count count_after held failures old new (Err fault)
  front_written fault is written counted =
      let rises : failures new ≡ one_more (failures old) = counted ∙ ap (λ f. write_failures_after {T = ⊤} (failures old) (Err f)) is in
      subst (λ f. Explains doc path left count count_after held failures old new (Err f)) (sym is)
      (record { ok = λ text shown. tt; write = written; unrefused = tt; unwritten = tt; reads = reads; writes = rises })
