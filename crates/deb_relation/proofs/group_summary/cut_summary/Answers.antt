use Rattle.std.proofs.Common.{◌∙◌, sym}
use Rattle.deb_relation.proofs.InPlace.{group_in_place}
use Rattle.deb_relation.proofs.group_summary.cut_summary.Goals as goal

pub returns : goal.returns
returns c = group_in_place c.args.text.now c.in_ok-front.front.now c.in_ok-front.has_two c.in_ok-front.only_equals c.in_ok-front.behind.now c.skip_white-rest.result.now c.in_ok-front.ensures c.skip_white-rest.ensures.value (sym c.ends_piece.ensures ∙ c.if-not-ends_piece.false)
