use Rattle.deb_control.proofs.Common.{sym, seen_of, field_of, value_meaning}
use Rattle.deb_control.proofs.PassingParagraphs.{none-passing, value-passing, only_memory, unrefused-passing}
use Rattle.deb_control.proofs.checked_view.CheckedView.value.Goals as goal

pub returns-in_default : goal.returns-in_default
returns-in_default c =
    let view = c.args.self.now in
    none-passing view.doc (seen_of view.raw) view.passes view.raw.fields c.args.name.now (sym c.in_default.ensures.field)

pub want_of_memory-requires : goal.want_of_memory-requires
want_of_memory-requires c =
    let view = c.args.self.now in
    only_memory c.in-Err.fault _ c.in-Err.ensures.fault
    (λ refusal refused. unrefused-passing view.doc (seen_of view.raw) view.passes view.raw.fields c.args.name.now (field_of c.in-Some.field) refusal.code (sym c.in-Some.ensures.field) refused.1)

pub returns-in-Ok : goal.returns-in-Ok
returns-in-Ok c =
    let view = c.args.self.now in
    value-passing view.doc (seen_of view.raw) view.passes view.raw.fields c.args.name.now (field_of c.in-Some.field) (value_meaning c.in-Ok.value)
    (sym c.in-Some.ensures.field) c.in-Ok.ensures.ok
