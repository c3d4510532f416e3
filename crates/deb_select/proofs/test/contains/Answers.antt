use Rattle.std.proofs.Common.{◌∙◌}
use Rattle.deb_select.proofs.Contained.{found-contains}
use Rattle.deb_select.proofs.test.contains.Goals as goal

pub returns : goal.returns
returns c = c.is_some.ensures ∙ found-contains c.args.text.now c.args.part.now c.find.result c.find.ensures
