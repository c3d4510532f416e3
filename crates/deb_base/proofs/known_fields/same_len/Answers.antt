use Rattle.deb_base.proofs.NearRows.{same_before, same_most}
use Rattle.deb_base.proofs.known_fields.same_len.Goals as goal

pub returns-clause-most : goal.returns-clause-most
returns-clause-most c = same_most c.args.text.now c.args.other.now _ c.requires c.told-other c.first_set.ensures

pub returns-clause-same : goal.returns-clause-same
returns-clause-same c = same_before c.args.text.now c.args.other.now _ c.requires c.told-other c.first_set.ensures
