use Rattle.deb_control.proofs.ReadingOn.{reads-file}
use Rattle.deb_control.proofs.comparing.same.Goals as goal

pub returns-clause-ok : goal.returns-clause-ok
returns-clause-ok g c = λ text other told told_too.
    rw c.new-one.ensures.doc at c.compare.ensures.same text other (rw told (c.new-one.ensures.fits text)) (rw told_too (c.new-other.ensures.fits other))

pub returns-clause-first : goal.returns-clause-first
returns-clause-first g c = λ text told. (reads-file text c.new-one.ensures.doc c.new-one.ensures.fits told c.compare.ensures.first).refused

pub returns-clause-second : goal.returns-clause-second
returns-clause-second g c = λ text other told told_too.
    rw c.new-one.ensures.doc at c.compare.ensures.refused text other (rw told (c.new-one.ensures.fits text)) (rw told_too (c.new-other.ensures.fits other))

pub returns-clause-first_reads_at_most : goal.returns-clause-first_reads_at_most
returns-clause-first_reads_at_most g c = λ text told. (reads-file text c.new-one.ensures.doc c.new-one.ensures.fits told c.compare.ensures.first).taken

pub returns-clause-second_reads_at_most : goal.returns-clause-second_reads_at_most
returns-clause-second_reads_at_most g c = λ text told.
    rw c.new-one.ensures.doc at c.compare.ensures.second_reads_at_most text (rw told (c.new-other.ensures.fits text))
