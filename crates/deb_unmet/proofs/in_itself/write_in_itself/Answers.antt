use Rattle.std.proofs.Common.{sym, ◌∙◌, subst}
use Rattle.std.proofs.lemmas.Result.{err_from_is_err_and}
use Rattle.deb_index.specs.Indexes.{packages_of}
use Rattle.deb_unmet.specs.Own.{asks_after}
use Rattle.deb_unmet.specs.Parts.{AreParts, IsOther, ReadsOver}
use Rattle.deb_unmet.proofs.OwnFiles.{unread, unrefused, unstarted, write_told}
use Rattle.deb_unmet.proofs.in_itself.write_in_itself.Goals as goal

pub returns-in_err-index-clause-stopped : goal.returns-in_err-index-clause-stopped
returns-in_err-index-clause-stopped g c = λ text told.
    let p = err_from_is_err_and c.from_residual.result c.from_residual.ensures.1 in
    rw (p.1, p.2) (unstarted c.in_err-index.field-0.0 _ (asks_after (packages_of c.args.index) (g.L.OwnLines.asks c.args.lines.now)) text (g.W.Sink.held c.args.writer.now) c.in_err-index.ensures.fault)

pub returns-clause-ok : goal.returns-clause-ok
returns-clause-ok g c = λ text told.
    let asks = g.L.OwnLines.asks c.args.lines.now in
    let before = packages_of c.args.index in
    c.write_kept.ensures.ok before text
    (subst (λ parts. ReadsOver (asks_after before asks) (AreParts asks.members g.L.OwnLines.Holds (IsOther g.L.OwnLines.asks) parts) text (packages_of c.in_ok-index.index)) (sym c.deref.ensures.value) (c.in_ok-index.ensures.ok text told c.new-kept.ensures))

pub returns-clause-refused : goal.returns-clause-refused
returns-clause-refused g c = λ text told. unrefused c.write_kept.result _ c.write_kept.ensures.fault

pub returns-clause-stopped : goal.returns-clause-stopped
returns-clause-stopped g c = λ text told.
    let asks = g.L.OwnLines.asks c.args.lines.now in
    let before = packages_of c.args.index in
    c.write_kept.ensures.stopped before text
    (subst (λ parts. ReadsOver (asks_after before asks) (AreParts asks.members g.L.OwnLines.Holds (IsOther g.L.OwnLines.asks) parts) text (packages_of c.in_ok-index.index)) (sym c.deref.ensures.value) (c.in_ok-index.ensures.ok text told c.new-kept.ensures))

pub returns-clause-unwritten : goal.returns-clause-unwritten
returns-clause-unwritten g c = unrefused c.write_kept.result _ c.write_kept.ensures.fault

pub returns-clause-refusal : goal.returns-clause-refusal
returns-clause-refusal g c = unrefused c.write_kept.result _ c.write_kept.ensures.fault

pub returns-clause-counts_read_failure : goal.returns-clause-counts_read_failure
returns-clause-counts_read_failure g c = c.in_ok-index.ensures.counts_read_failure ∙ sym (unread _ c.write_kept.result c.write_kept.ensures.fault)

pub returns-clause-fault_iff_write_failed : goal.returns-clause-fault_iff_write_failed
returns-clause-fault_iff_write_failed g c = write_told _ _ c.write_kept.result c.write_kept.ensures.counts_failure

pub returns-in_err-index-clause-refused : goal.returns-in_err-index-clause-refused
returns-in_err-index-clause-refused g c = λ text told.
    let p = err_from_is_err_and c.from_residual.result c.from_residual.ensures.1 in
    rw (p.1, p.2) (c.in_err-index.ensures.refused text told)
