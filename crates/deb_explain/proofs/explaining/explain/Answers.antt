use Rattle.std.proofs.Common.{[], sym, subst}
use Rattle.deb_control.specs.GivenRefusals.{HasGiven}
use Rattle.deb_control.proofs.AcceptedStreams.{nothing_refused}
use Rattle.deb_explain.proofs.Explanations.{is_explanation}
use Rattle.deb_explain.proofs.explaining.explain.Goals as goal

pub returns-in_default-clause-accepted : goal.returns-in_default-clause-accepted
returns-in_default-clause-accepted g c = λ text left.
    let starts = subst (λ l. HasGiven c.args.doc text c.new-refusals.result l []) (sym left) (c.new-refusals.ensures.starts text) in
    let gives = rw c.in_default.is at (c.in_ok-next.ensures.gives c.args.doc text [] starts) in
    rw c.summary.ensures (nothing_refused c.args.doc text _ gives.refusals gives.passed)

pub returns-clause-refused : goal.returns-clause-refused
returns-clause-refused g c = λ text left.
    let starts = subst (λ l. HasGiven c.args.doc text c.new-refusals.result l []) (sym left) (c.new-refusals.ensures.starts text) in
    let gives = rw c.in-Some.is at (c.in_ok-next.ensures.gives c.args.doc text [] starts) in
    let told = rw c.in-Some-2.is at (c.in_ok-explanation.ensures.explains c.args.doc text _ _ gives.given) in
    is_explanation c.args.doc text gives.seen _ gives.given.first told

pub returns-in_err-next-clause-reads_at_most : goal.returns-in_err-next-clause-reads_at_most
returns-in_err-next-clause-reads_at_most g c = λ text left.
    c.next.ensures.reads_at_most c.args.doc text [] (subst (λ l. HasGiven c.args.doc text c.new-refusals.result l []) (sym left) (c.new-refusals.ensures.starts text))

pub returns-in_default-clause-reads_at_most : goal.returns-in_default-clause-reads_at_most
returns-in_default-clause-reads_at_most g c = λ text left.
    c.next.ensures.reads_at_most c.args.doc text [] (subst (λ l. HasGiven c.args.doc text c.new-refusals.result l []) (sym left) (c.new-refusals.ensures.starts text))

pub returns-in_err-explanation-clause-reads_at_most : goal.returns-in_err-explanation-clause-reads_at_most
returns-in_err-explanation-clause-reads_at_most g c = λ text left.
    c.next.ensures.reads_at_most c.args.doc text [] (subst (λ l. HasGiven c.args.doc text c.new-refusals.result l []) (sym left) (c.new-refusals.ensures.starts text))

pub returns-clause-reads_at_most : goal.returns-clause-reads_at_most
returns-clause-reads_at_most g c = λ text left.
    c.next.ensures.reads_at_most c.args.doc text [] (subst (λ l. HasGiven c.args.doc text c.new-refusals.result l []) (sym left) (c.new-refusals.ensures.starts text))
