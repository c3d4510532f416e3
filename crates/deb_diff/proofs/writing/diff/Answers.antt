-- The old file was read.
use Rattle.deb_diff.proofs.writing.diff.Goals as goal

pub returns-in-Ok-clause-first_accepted_if_second : goal.returns-in-Ok-clause-first_accepted_if_second
returns-in-Ok-clause-first_accepted_if_second g c = λ text left second. c.in-Ok.ensures.first_accepted text left
