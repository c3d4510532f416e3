use Rattle.std.proofs.Common.{◌∙◌}
use Rattle.deb_latest.proofs.Reading.{entries-length}
use Rattle.deb_latest.proofs.latest.Latest.count.Goals as goal

pub returns : goal.returns
returns c = λ asked meaning has. has.counted ∙ entries-length asked.by 0 meaning
