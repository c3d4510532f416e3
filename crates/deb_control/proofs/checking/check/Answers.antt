use Rattle.deb_control.proofs.Common.{[]}
use Rattle.deb_control.proofs.CheckedSoFar.{counted_all}
use Rattle.deb_control.proofs.ReadingOn.{reads-file}
use Rattle.deb_control.proofs.checking.check.Goals as goal

pub returns-clause-ok : goal.returns-clause-ok
returns-clause-ok g c = λ text told. counted_all c.args.doc text c.count_rest.result (rw c.new.ensures.doc at c.count_rest.ensures.ok text [] (rw told (c.new.ensures.fits text)))

pub returns-clause-refused : goal.returns-clause-refused
returns-clause-refused g c = λ text told. (reads-file text c.new.ensures.doc c.new.ensures.fits told c.count_rest.ensures.on).refused

pub returns-clause-reads_at_most : goal.returns-clause-reads_at_most
returns-clause-reads_at_most g c = λ text told. (reads-file text c.new.ensures.doc c.new.ensures.fits told c.count_rest.ensures.on).taken
