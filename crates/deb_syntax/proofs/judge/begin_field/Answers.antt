use Rattle.deb_syntax.proofs.Common.{err_from_is_err_and, begun_fields, sym}
use Rattle.deb_syntax.proofs.FieldLines.{LiesWithin-begun, name_at-begun}
use Rattle.deb_syntax.proofs.FieldSpanLemmas.{StandsAt-push}
use Rattle.deb_syntax.proofs.judge.begin_field.Goals as goal

pub returns-in_err-front-clause-fault : goal.returns-in_err-front-clause-fault
returns-in_err-front-clause-fault c =
    let p = err_from_is_err_and c.from_residual.result c.from_residual.ensures.1 in
    rw (p.1, p.2) (c.in_err-front.ensures.refused (begun_fields c.args.text.now c.args.spans.now.items))

pub returns-clause-stands : goal.returns-clause-stands
returns-clause-stands c =
    let text = c.args.text.now in
    let line = c.args.line in
    let spans = c.args.spans.now.items in
    let front = c.in_ok-front.front in
    let keeps = rw c.as_slice.ensures.value at c.in_ok-add.ensures.keeps c.if-not-branch.false in
    let items = rw c.in_ok-push.was at c.push.ensures.items in
    let named = name_at-begun text line.start line.end front.len c.requires.after c.requires.within c.in_ok-front.ensures.within in
    let lies = LiesWithin-begun text line.start line.end front.len c.requires.after c.requires.within c.in_ok-front.ensures.within line.number front.id c.in_ok-front.ensures.id in
    rw items (StandsAt-push text spans c.add.new.names _ c.requires.stands.within lies (keeps _ (sym named) c.in_ok-front.ensures.id))
