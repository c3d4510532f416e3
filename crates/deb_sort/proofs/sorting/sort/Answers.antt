-- The answer is reported by what was read.
use Rattle.std.proofs.Common.{sym, subst}
use Rattle.std.proofs.lemmas.Result.{err_from_is_err_and}
use Rattle.deb_sort.specs.Sorting.{Sorts}
use Rattle.deb_sort.specs.VersionLines.{lines_of_runs}
use Rattle.deb_sort.proofs.SortedFiles.{enough_of_file, no_more_than_file, refused, written}
use Rattle.deb_sort.proofs.sorting.sort.Goals as goal

pub returns-in_err-runs-clause-sorts : goal.returns-in_err-runs-clause-sorts
returns-in_err-runs-clause-sorts g c =
    let p = err_from_is_err_and c.from_residual-in_err-runs.result c.from_residual-in_err-runs.ensures.1 in
    rw (p.1, p.2)
    (refused c.args.reverse (g.R.Source.left c.args.source.now) (g.R.Source.failures c.args.source.now) (g.R.Source.failures c.read_text.new.source) g.W.Sink.held g.W.Sink.failures c.args.out.now
    c.in_ok-text.text.items (enough_of_file c.in_ok-text.ensures.ok) c.in_ok-text.ensures.counts_failure _ (rw c.as_slice.ensures.value at c.in_err-runs.ensures.fault))

pub returns-clause-sorts : goal.returns-clause-sorts
returns-clause-sorts g c =
    written c.args.reverse (g.R.Source.left c.args.source.now) (g.R.Source.failures c.args.source.now) (g.R.Source.failures c.read_text.new.source) g.W.Sink.held g.W.Sink.failures c.args.out.now
    c.in_ok-text.text.items (enough_of_file c.in_ok-text.ensures.ok) c.in_ok-text.ensures.counts_failure c.write_runs.new.out (lines_of_runs c.as_slice-2.result.now) c.write_runs.result
    (rw c.as_slice.ensures.value at c.in_ok-runs.ensures.accepted)
    (subst (λ lines. Sorts c.args.reverse lines (lines_of_runs c.as_slice-2.result.now)) (rw c.as_slice.ensures.value at c.in_ok-runs.ensures.ok)
    (subst (λ items. Sorts c.args.reverse (lines_of_runs c.in_ok-runs.runs.items) (lines_of_runs items)) (sym c.as_slice-2.ensures.value) c.in_ok-sort_runs.ensures))
    c.write_runs.ensures.written c.write_runs.ensures.fault c.write_runs.ensures.counts_failure

pub returns-clause-reads_at_most : goal.returns-clause-reads_at_most
returns-clause-reads_at_most g c text is = no_more_than_file (c.in_ok-text.ensures.reads_at_most text is)

pub returns-in_err-text-clause-reads_at_most : goal.returns-in_err-text-clause-reads_at_most
returns-in_err-text-clause-reads_at_most g c text is = no_more_than_file (c.in_err-text.ensures.reads_at_most text is)

pub returns-in_err-runs-clause-reads_at_most : goal.returns-in_err-runs-clause-reads_at_most
returns-in_err-runs-clause-reads_at_most g c text is = no_more_than_file (c.in_ok-text.ensures.reads_at_most text is)

pub returns-in_err-sort_runs-clause-reads_at_most : goal.returns-in_err-sort_runs-clause-reads_at_most
returns-in_err-sort_runs-clause-reads_at_most g c text is = no_more_than_file (c.in_ok-text.ensures.reads_at_most text is)
