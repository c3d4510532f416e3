use Rattle.deb_syntax.proofs.JudgingLawsRefusals.{judged-sound}
use Rattle.deb_syntax.proofs.laws.what_is_judged_is_spelled.Goals as goal

pub returns : goal.returns
returns c = judged-sound
