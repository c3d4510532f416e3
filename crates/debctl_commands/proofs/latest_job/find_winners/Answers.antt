use Rattle.std.proofs.Common.{map, string_bytes}
use Rattle.deb_latest.specs.Requests.{asked_of}
use Rattle.debctl_commands.specs.OpenedFiles.{opener}
use Rattle.debctl_commands.proofs.LatestFiles.{answers_failed, answers_found}
use Rattle.debctl_commands.proofs.latest_job.find_winners.Goals as goal

pub returns-in-Ok-read_files : goal.returns-in-Ok-read_files
returns-in-Ok-read_files g c =
    answers_found (opener g.F.Opens.opens g.F.Opens.text g.F.Opens.failures g.F.Reader.Source.left g.F.Reader.Source.failures) (asked_of c.args.request.now) (map string_bytes c.args.paths.now) c.args.files.now c.read_files.new.files c.in-Ok.none c.in-Ok.ensures.read c.in-Ok.ensures.kind
    c.in-Ok-read_files.latest c.in-Ok-read_files.ensures c.winners_of.result c.winners_of.ensures.ok c.winners_of.ensures.fault

pub returns-in-Err-read_files : goal.returns-in-Err-read_files
returns-in-Err-read_files g c =
    answers_failed (opener g.F.Opens.opens g.F.Opens.text g.F.Opens.failures g.F.Reader.Source.left g.F.Reader.Source.failures) (asked_of c.args.request.now) (map string_bytes c.args.paths.now) c.args.files.now c.read_files.new.files c.in-Ok.none c.in-Ok.ensures.read c.in-Ok.ensures.kind
    c.in-Err-read_files.told c.in-Err-read_files.ensures
