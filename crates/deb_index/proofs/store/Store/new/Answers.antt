use Rattle.std.proofs.Common.{map, ap}
use Rattle.deb_index.specs.Stores.{line_by, listed_by, spelling_by}
use Rattle.deb_index.proofs.Stored.{no_packages}
use Rattle.deb_index.proofs.store.Store.new.Goals as goal

pub returns-clause-kept : goal.returns-clause-kept
returns-clause-kept c = no_packages _ c.new-2.ensures.items c.new-3.ensures.items

pub returns-clause-listed : goal.returns-clause-listed
returns-clause-listed c = ap (map (listed_by c.new.result.items c.new-2.result.items)) c.new-3.ensures.items

pub returns-clause-lines : goal.returns-clause-lines
returns-clause-lines c = ap (map line_by) c.new-3.ensures.items

pub returns-clause-spellings : goal.returns-clause-spellings
returns-clause-spellings c = ap (map (spelling_by c.new.result.items)) c.new-3.ensures.items
