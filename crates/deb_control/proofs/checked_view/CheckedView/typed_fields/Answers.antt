use Rattle.deb_control.proofs.Common.{seen_of}
use Rattle.deb_control.proofs.OrderedFields.{none_refused}
use Rattle.deb_control.proofs.PassingParagraphs.{only_memory}
use Rattle.deb_control.proofs.checked_view.CheckedView.typed_fields.Goals as goal

pub want_of_memory-requires : goal.want_of_memory-requires
want_of_memory-requires c =
    let view = c.args.self.now in
    only_memory c.in-Err.fault _ c.in-Err.ensures.fault (λ refusal. none_refused view.doc (seen_of view.raw) view.passes)
