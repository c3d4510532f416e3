-- Those that stand among what meets the bound are those of packages that meet it.
use Rattle.std.proofs.Common.{rules}
use Rattle.deb_relation.specs.Views.{alternative_of, lent_bound_of}
use Rattle.deb_index.proofs.Offering.{if_meeting}
use Rattle.deb_index.proofs.index.Index.offers.Goals as goal

pub returns : goal.returns
returns c = if_meeting (lent_bound_of c.in_ok-bound.bound) (alternative_of c.args.alternative.now) c.args.self.now.store c.args.self.now.crowds c.name.result.now c.meeting.result (search rules) c.name.ensures c.args.self.now.crowds_are c.meeting.ensures
