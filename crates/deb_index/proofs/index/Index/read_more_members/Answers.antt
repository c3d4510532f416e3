-- The store is that of the index.
use Rattle.deb_index.proofs.index.Index.read_more_members.Goals as goal

pub returns-clause-ok : goal.returns-clause-ok
returns-clause-ok g c = rw c.into_store.ensures.store at c.append_file.ensures.ok

pub returns-clause-lines : goal.returns-clause-lines
returns-clause-lines g c = rw c.into_store.ensures.store at c.append_file.ensures.lines

pub returns-clause-spellings : goal.returns-clause-spellings
returns-clause-spellings g c = rw c.into_store.ensures.store at c.append_file.ensures.spellings
