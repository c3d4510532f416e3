use Rattle.std.proofs.Common.{ℕ, true, rules}
use Rattle.std.specs.Prelude.{Vec}
use Rattle.std.specs.declared.alloc.Global.{Global}
use Rattle.std.proofs.lemmas.Result.{err_from_is_err_and}
use Rattle.debctl_commands.proofs.WholeReports.{enough_of_file, found, refused, takes_file, unread}
use Rattle.debctl_commands.proofs.whole_job.check_complete.Goals as goal

pub returns-in_err-text : goal.returns-in_err-text
returns-in_err-text g c =
    let p = err_from_is_err_and c.from_residual.result c.from_residual.ensures.1 in
    rw (p.1, p.2)
    (unread c.args.doc (g.R.Source.left c.args.reader.now) (g.R.Source.left c.read_text.new.source) (g.R.Source.failures c.args.reader.now) (g.R.Source.failures c.read_text.new.source) (takes_file c.in_err-text.ensures.reads_at_most)
    (Vec ℕ Global) (record { complete = true; least = c.args.least }) _ c.in_err-text.ensures.fault c.in_err-text.ensures.counts_failure)

pub returns-in_err-paragraphs : goal.returns-in_err-paragraphs
returns-in_err-paragraphs g c =
    let p = err_from_is_err_and c.from_residual-in_err-paragraphs.result c.from_residual-in_err-paragraphs.ensures.1 in
    rw (p.1, p.2)
    (refused c.args.doc (g.R.Source.left c.args.reader.now) (g.R.Source.left c.read_text.new.source) (g.R.Source.failures c.args.reader.now) (g.R.Source.failures c.read_text.new.source) (takes_file c.in_ok-text.ensures.reads_at_most)
    c.in_ok-text.text.items (enough_of_file c.in_ok-text.ensures.ok) c.in_ok-text.ensures.counts_failure
    (record { complete = true; least = c.args.least }) _ (rw c.as_slice.ensures.value at c.in_err-paragraphs.ensures.refused) c.in_err-paragraphs.ensures.fault)

pub returns : goal.returns
returns g c =
    found c.args.doc (g.R.Source.left c.args.reader.now) (g.R.Source.left c.read_text.new.source) (g.R.Source.failures c.args.reader.now) (g.R.Source.failures c.read_text.new.source) (takes_file c.in_ok-text.ensures.reads_at_most)
    c.in_ok-text.text.items (enough_of_file c.in_ok-text.ensures.ok) c.in_ok-text.ensures.counts_failure
    c.args.least c.in_ok-paragraphs.paragraphs c.by.result (search rules) (rw c.as_slice.ensures.value at c.in_ok-paragraphs.ensures.ok)
