use Rattle.deb_latest.specs.Entries.{entries_of}
use Rattle.deb_latest.proofs.Reading.{entries-numbered}
use Rattle.deb_latest.proofs.latest.Latest.winners.Goals as goal

pub returns : goal.returns
returns c = λ asked meaning has. c.numbers.ensures asked.limit (entries_of asked.by meaning) (entries-numbered asked.by 0 meaning) has.bests
