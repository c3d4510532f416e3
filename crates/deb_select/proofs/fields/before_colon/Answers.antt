use Rattle.std.proofs.Common.{take, ap}
use Rattle.deb_select.proofs.fields.before_colon.Goals as goal

pub returns : goal.returns
returns c = ap (λ n. take n c.args.line.now) c.colon_at.ensures.value
