use Rattle.debctl_ffi.proofs.ShownFields.{spans_show}
use Rattle.debctl_ffi.proofs.laws.spans_show_fields.Goals as goal

pub returns : goal.returns
returns c = spans_show
