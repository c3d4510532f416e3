use Rattle.std.proofs.Common.{arith, ◌∙◌, length-drop}
use Rattle.std.proofs.lemmas.List.{take_rest}
use Rattle.std.proofs.KnownBytes.{Appends-kept}
use Rattle.deb_base.proofs.Writes.{Appends-take, AppendsFront-take}
use Rattle.deb_base.proofs.put.put_all.Goals as goal

pub loop-written-preserved : goal.loop-written-preserved
loop-written-preserved g c = record {
  within = let taken = rw (take_rest c.args.bytes.now c.loop-written.written, length-drop) at c.in-Ok.ensures.takes_some.0 in omega arith;
  bytes = Appends-take _ _ _ c.args.bytes.now c.loop-written.written c.in-Ok.taken c.loop-written.invariant.bytes c.in-Ok.ensures.bytes;
  counted = c.in-Ok.ensures.counts_failure ∙ c.loop-written.invariant.counted;
}

pub returns-in-Err-clause-written : goal.returns-in-Err-clause-written
returns-in-Err-clause-written g c =
    AppendsFront-take _ _ c.args.bytes.now c.loop-written.written (Appends-kept _ _ _ _ c.loop-written.invariant.bytes c.in-Err.ensures.bytes)
