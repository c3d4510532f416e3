use Rattle.std.proofs.Common.{◌∙◌, sym}
use Rattle.deb_relation.proofs.InPlace.{bound_begins}
use Rattle.deb_relation.proofs.in_place.cut_bound.Goals as goal

pub returns : goal.returns
returns c = bound_begins c.args.text.now c.in-Some.behind.now c.in_ok-rest.rest.now c.in-Some.operator c.is_equal.result c.in_ok-canonical_prefix.field-0 c.is_equal.ensures c.in-Some.ensures c.in_ok-canonical_prefix.ensures.faultless c.in_ok-canonical_prefix.ensures.canonical (sym c.split_at.ensures.back ∙ c.in_ok-rest.ensures)
