use Rattle.std.proofs.Common.{map, string_bytes}
use Rattle.debctl_commands.specs.IndexFiles.{AddsIndex}
use Rattle.debctl_commands.specs.OpenedFiles.{opener}
use Rattle.debctl_commands.proofs.InOrderSteps.{texts_stay}
use Rattle.debctl_commands.proofs.IndexesRead.{answers_read, answers_unread}
use Rattle.debctl_commands.proofs.index_files.read_indexes.Goals as goal

pub returns-in-Ok-clause-answers : goal.returns-in-Ok-clause-answers
returns-in-Ok-clause-answers g c =
    answers_read c.args.members (opener g.F.Opens.opens g.F.Opens.text g.F.Opens.failures g.F.Reader.Source.left g.F.Reader.Source.failures) (map string_bytes c.args.paths.now) c.args.files.now c.read_into.new.files c.in-Ok.index c.read_into.result
    (record { packages = c.in-Ok.ensures.packages; spellings = c.in-Ok.ensures.spellings; counts = c.in-Ok.ensures.counts }) c.read_into.ensures

pub returns-in-Ok-clause-unchanged : goal.returns-in-Ok-clause-unchanged
returns-in-Ok-clause-unchanged g c = texts_stay (opener g.F.Opens.opens g.F.Opens.text g.F.Opens.failures g.F.Reader.Source.left g.F.Reader.Source.failures) (AddsIndex c.args.members) 1 (map string_bytes c.args.paths.now) c.args.files.now c.read_into.new.files c.in-Ok.index c.read_into.result c.read_into.ensures

pub returns-in-Err-clause-answers : goal.returns-in-Err-clause-answers
returns-in-Err-clause-answers g c = answers_unread c.args.members (opener g.F.Opens.opens g.F.Opens.text g.F.Opens.failures g.F.Reader.Source.left g.F.Reader.Source.failures) (map string_bytes c.args.paths.now) c.args.files.now
