use Rattle.std.proofs.Common.{sym, ◌∙◌, subst}
use Rattle.std.proofs.lemmas.Result.{err_from_is_err_and}
use Rattle.deb_index.specs.Members.{KeepsMembers}
use Rattle.deb_unmet.proofs.OwnFiles.{unread, unrefused, write_told}
use Rattle.deb_install.specs.Keeping.{HoldsGiven}
use Rattle.deb_install.proofs.FileAnswers.{unstarted}
use Rattle.deb_install.proofs.Held.{none_held}
use Rattle.deb_install.proofs.verdicts.installable.Goals as goal

pub returns-in_err-index-clause-refused : goal.returns-in_err-index-clause-refused
returns-in_err-index-clause-refused g c = λ text told.
    let p = err_from_is_err_and c.from_residual.result c.from_residual.ensures.1 in
    rw (p.1, p.2) (c.in_err-index.ensures.refused text told)

pub returns-in_err-index-clause-stopped : goal.returns-in_err-index-clause-stopped
returns-in_err-index-clause-stopped g c = λ text told.
    let p = err_from_is_err_and c.from_residual.result c.from_residual.ensures.1 in
    rw (p.1, p.2) (unstarted c.in_err-index.field-0.0 _ _ text (g.W.Sink.held c.args.writer.now) c.in_err-index.ensures.fault)

pub returns-clause-ok : goal.returns-clause-ok
returns-clause-ok g c = λ text told.
    let members = c.args.request.now.members in
    let keeps = c.in_ok-index.ensures.keeps text told (none_held members _ c.new-kept.ensures) in
    c.write_answers.ensures.ok text (c.in_ok-index.ensures.ok text told) (subst (λ kept. KeepsMembers members (HoldsGiven members kept) text) (sym c.deref.ensures.value) keeps)

pub returns-clause-stopped : goal.returns-clause-stopped
returns-clause-stopped g c = λ text told.
    let members = c.args.request.now.members in
    let keeps = c.in_ok-index.ensures.keeps text told (none_held members _ c.new-kept.ensures) in
    c.write_answers.ensures.stopped text (c.in_ok-index.ensures.ok text told) (subst (λ kept. KeepsMembers members (HoldsGiven members kept) text) (sym c.deref.ensures.value) keeps)

pub returns-clause-refused : goal.returns-clause-refused
returns-clause-refused g c = λ text told. unrefused c.write_answers.result _ c.write_answers.ensures.fault

pub returns-clause-unwritten : goal.returns-clause-unwritten
returns-clause-unwritten g c = unrefused c.write_answers.result _ c.write_answers.ensures.fault

pub returns-clause-refusal : goal.returns-clause-refusal
returns-clause-refusal g c = unrefused c.write_answers.result _ c.write_answers.ensures.fault

pub returns-clause-counts_read_failure : goal.returns-clause-counts_read_failure
returns-clause-counts_read_failure g c = c.in_ok-index.ensures.counts_read_failure ∙ sym (unread _ c.write_answers.result c.write_answers.ensures.fault)

pub returns-clause-fault_iff_write_failed : goal.returns-clause-fault_iff_write_failed
returns-clause-fault_iff_write_failed g c = write_told _ _ c.write_answers.result c.write_answers.ensures.counts_failure
