use Rattle.std.proofs.Common.{sym, ◌∙◌}
use Rattle.deb_index.specs.Indexes.{packages_of}
use Rattle.deb_unmet.proofs.LeftOut.{all-left}
use Rattle.deb_unmet.proofs.own.leave_out.Goals as goal

pub returns-then-is_empty : goal.returns-then-is_empty
returns-then-is_empty c = all-left c.args.names.now (packages_of c.args.index) (sym c.is_empty.ensures ∙ c.if-is_empty.true)
