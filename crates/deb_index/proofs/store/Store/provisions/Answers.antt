-- The entries are among those of the store.
use Rattle.deb_index.proofs.Stored.{own-faultless}
use Rattle.deb_index.proofs.store.Store.provisions.Goals as goal

pub invariant_of-result-clause-faultless : goal.invariant_of-result-clause-faultless
invariant_of-result-clause-faultless c =
    let store = c.args.self.now in
    rw (c.entries.ensures, c.deref.ensures.value) (own-faultless store.bytes.items store.entries.items c.requires.entries c.args.of.now)
