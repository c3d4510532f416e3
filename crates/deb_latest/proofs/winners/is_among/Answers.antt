use Rattle.std.proofs.Common.{◌∙◌}
use Rattle.deb_latest.proofs.Among.{found_among}
use Rattle.deb_latest.proofs.winners.is_among.Goals as goal

pub returns : goal.returns
returns c = λ sorted. c.is_ok.ensures.value ∙ found_among c.args.number c.args.numbers.now c.binary_search.result sorted c.binary_search.ensures.bound c.binary_search.ensures.position
