use Rattle.std.proofs.Common.{sym, ◌∙◌, subst}
use Rattle.std.proofs.lemmas.Result.{err_from_is_err_and}
use Rattle.deb_unmet.proofs.OwnFiles.{unread, unrefused, write_told}
use Rattle.deb_install.specs.KeptSources.{HoldsSources}
use Rattle.deb_install.proofs.BuildFiles.{unbegun}
use Rattle.deb_install.proofs.builds.buildable.Goals as goal

pub returns-in_err-sources-clause-refused : goal.returns-in_err-sources-clause-refused
returns-in_err-sources-clause-refused g c = λ text told.
    let p = err_from_is_err_and c.from_residual.result c.from_residual.ensures.1 in
    rw (p.1, p.2) (c.in_err-sources.ensures.refused text told)

pub returns-in_err-sources-clause-stopped : goal.returns-in_err-sources-clause-stopped
returns-in_err-sources-clause-stopped g c = λ members index text holds told.
    let p = err_from_is_err_and c.from_residual.result c.from_residual.ensures.1 in
    rw (p.1, p.2) (unbegun c.in_err-sources.field-0.0 _ _ text (g.W.Sink.held c.args.writer.now) c.in_err-sources.ensures.fault)

pub returns-clause-ok : goal.returns-clause-ok
returns-clause-ok g c = λ members index text holds told.
    c.write_sources.ensures.ok members index text holds (subst (HoldsSources c.args.request.kind text) (sym c.deref.ensures.value) (c.in_ok-sources.ensures.ok text told))

pub returns-clause-stopped : goal.returns-clause-stopped
returns-clause-stopped g c = λ members index text holds told.
    c.write_sources.ensures.stopped members index text holds (subst (HoldsSources c.args.request.kind text) (sym c.deref.ensures.value) (c.in_ok-sources.ensures.ok text told))

pub returns-clause-refused : goal.returns-clause-refused
returns-clause-refused g c = λ text told. unrefused c.write_sources.result _ c.write_sources.ensures.fault

pub returns-clause-unwritten : goal.returns-clause-unwritten
returns-clause-unwritten g c = unrefused c.write_sources.result _ c.write_sources.ensures.fault

pub returns-clause-refusal : goal.returns-clause-refusal
returns-clause-refusal g c = unrefused c.write_sources.result _ c.write_sources.ensures.fault

pub returns-clause-counts_read_failure : goal.returns-clause-counts_read_failure
returns-clause-counts_read_failure g c = c.in_ok-sources.ensures.counts_read_failure ∙ sym (unread _ c.write_sources.result c.write_sources.ensures.fault)

pub returns-clause-fault_iff_write_failed : goal.returns-clause-fault_iff_write_failed
returns-clause-fault_iff_write_failed g c = write_told _ _ c.write_sources.result c.write_sources.ensures.counts_failure
