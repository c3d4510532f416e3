use Rattle.deb_field.specs.ValueMeanings.{value_meaning}
use Rattle.deb_control.specs.CheckedStates.{doc_judged, passing_judged}
use Rattle.deb_select.proofs.TableCells.{no_cell, none_there, one_cell, one_there}
use Rattle.deb_select.proofs.cells.push_cell.Goals as goal

pub returns-in_default-clause-written : goal.returns-in_default-clause-written
returns-in_default-clause-written c values are =
    no_cell value_meaning (doc_judged c.args.paragraph.now) (passing_judged c.args.paragraph.now).seen c.args.name.now c.in_ok-value.field-0 c.in_ok-value.ensures values are
    c.in_default.is c.args.out.now.items

pub returns-in_default-clause-there : goal.returns-in_default-clause-there
returns-in_default-clause-there c values are =
    none_there value_meaning (doc_judged c.args.paragraph.now) (passing_judged c.args.paragraph.now).seen c.args.name.now c.in_ok-value.field-0 c.in_ok-value.ensures values are
    c.in_default.is

pub returns-clause-written : goal.returns-clause-written
returns-clause-written c values are =
    one_cell value_meaning (doc_judged c.args.paragraph.now) (passing_judged c.args.paragraph.now).seen c.args.name.now c.in_ok-value.field-0 c.in_ok-value.ensures values are
    c.in-Some.value c.in-Some.is c.in_ok-text.text.items c.in_ok-text.ensures c.args.out.now.items c.push_text.new.out.items (rw c.as_slice.ensures.value at c.in_ok-push_text.ensures)

pub returns-clause-there : goal.returns-clause-there
returns-clause-there c values are =
    one_there value_meaning (doc_judged c.args.paragraph.now) (passing_judged c.args.paragraph.now).seen c.args.name.now c.in_ok-value.field-0 c.in_ok-value.ensures values are
    c.in-Some.value c.in-Some.is
