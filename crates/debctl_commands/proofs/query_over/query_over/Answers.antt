use Rattle.std.proofs.Common.{subst, sym}
use Rattle.debctl_args.specs.declared.jobs.RelationArgument.{RelationArgument}
use Rattle.debctl_commands.specs.JobDevices.{writer_of}
use Rattle.debctl_commands.specs.OpenedFiles.{opener}
use Rattle.debctl_commands.specs.QueryOver.{QueriesSource}
use Rattle.debctl_commands.proofs.query_over.query_over.Goals as goal

pub returns-in-Text : goal.returns-in-Text
returns-in-Text g c =
    subst (λ (source : RelationArgument). QueriesSource (opener g.F.Opens.opens g.F.Opens.text g.F.Opens.failures g.F.Reader.Source.left g.F.Reader.Source.failures) c.args.query.now source c.args.files.now c.query_indexes.new.files (writer_of g.W.Sink.held g.W.Sink.failures c.args.out.now c.query_indexes.new.out) c.query_indexes.result) (sym c.in-Text.is)
    (rw c.as_bytes.ensures.value at c.query_indexes.ensures)

pub returns-in-From : goal.returns-in-From
returns-in-From g c =
    subst (λ (source : RelationArgument). QueriesSource (opener g.F.Opens.opens g.F.Opens.text g.F.Opens.failures g.F.Reader.Source.left g.F.Reader.Source.failures) c.args.query.now source c.args.files.now c.query_file.new.files (writer_of g.W.Sink.held g.W.Sink.failures c.args.out.now c.query_file.new.out) c.query_file.result) (sym c.in-From.is)
    (rw c.as_bytes-in-From.ensures.value at c.query_file.ensures)
