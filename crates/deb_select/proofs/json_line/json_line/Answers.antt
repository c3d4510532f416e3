use Rattle.std.proofs.Common.{ap, ◌∙◌}
use Rattle.deb_control.specs.CheckedStates.{doc_judged, passing_judged}
use Rattle.deb_control.specs.Paragraphs.{values_in}
use Rattle.deb_select.proofs.JsonWritten.{line_written}
use Rattle.deb_select.proofs.json_line.json_line.Goals as goal

pub returns : goal.returns
returns c = λ values are.
    line_written (doc_judged c.args.paragraph.now) (passing_judged c.args.paragraph.now).seen values (values_in c.in_ok-fields.fields.items) (values_in c.deref.result.now) c.put_fields_of.new.out.before c.into_inner-line.result.items c.push.new.self.items c.new-out.result.tokens c.put_fields_of.new.out.tokens
    are c.in_ok-fields.ensures.values (ap values_in c.deref.ensures.value)
    (c.in_ok-put_fields_of.ensures.before ∙ c.new-out.ensures.before ∙ c.in_ok-with_capacity.ensures.items) c.new-out.ensures.tokens c.in_ok-put_fields_of.ensures.tokens c.into_inner-line.ensures.items c.in_ok-push.ensures.items
