-- One name more.
use Rattle.deb_index.proofs.Gathered.{kept_more}
use Rattle.deb_index.proofs.crowds.Crowds.of.Goals as goal

pub loop-name-preserved-in_ok-insert : goal.loop-name-preserved-in_ok-insert
loop-name-preserved-in_ok-insert c =
    kept_more c.args.store.now c.in-Some.name.items c.loop-name.offers c.insert.new.self c.in_ok-under.under c.in_ok-insert.ensures.updates (rw c.deref.ensures.value at c.in_ok-under.ensures) c.loop-name.invariant

pub loop-name-preserved : goal.loop-name-preserved
loop-name-preserved c =
    kept_more c.args.store.now c.in-Some.name.items c.loop-name.offers c.insert.new.self c.in_ok-under.under c.in_ok-insert.ensures.updates (rw c.deref.ensures.value at c.in_ok-under.ensures) c.loop-name.invariant
