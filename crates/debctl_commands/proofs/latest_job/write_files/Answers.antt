use Rattle.std.proofs.Common.{inr, map, string_bytes, subst, sym}
use Rattle.deb_latest.specs.Requests.{asked_of}
use Rattle.debctl_commands.specs.JobDevices.{writer_of}
use Rattle.debctl_commands.specs.OpenedFiles.{AreTexts, opener}
use Rattle.debctl_commands.proofs.LatestWritten.{wrote_counted, wrote_fault, wrote_front, wrote_ok}
use Rattle.debctl_commands.proofs.latest_job.write_files.Goals as goal

pub returns-in-Ok : goal.returns-in-Ok
returns-in-Ok g c =
    let finds = c.in-Ok.ensures in
    let again = c.write_winners.ensures in
    let paths = map string_bytes c.args.paths.now in
    let out = writer_of g.W.Sink.held g.W.Sink.failures c.args.out.now c.write_winners.new.out in
    inr (record {
      winners = c.in-Ok.winners;
      between = c.find_winners.new.files;
      finds = finds;
      written = c.write_winners.result;
      is = c.at_role.ensures;
      again = again;
      ok = λ texts known. wrote_ok (opener g.F.Opens.opens g.F.Opens.text g.F.Opens.failures g.F.Reader.Source.left g.F.Reader.Source.failures) (asked_of c.args.request.now) paths c.in-Ok.winners c.find_winners.new.files c.write_winners.new.files out c.write_winners.result again texts
          (subst (λ text. AreTexts text paths texts) (sym finds.unchanged) known) (finds.has texts known);
      front = λ texts known. wrote_front (opener g.F.Opens.opens g.F.Opens.text g.F.Opens.failures g.F.Reader.Source.left g.F.Reader.Source.failures) (asked_of c.args.request.now) paths c.in-Ok.winners c.find_winners.new.files c.write_winners.new.files out c.write_winners.result again texts
          (subst (λ text. AreTexts text paths texts) (sym finds.unchanged) known) (finds.has texts known);
      fault = wrote_fault (opener g.F.Opens.opens g.F.Opens.text g.F.Opens.failures g.F.Reader.Source.left g.F.Reader.Source.failures) (asked_of c.args.request.now) paths c.in-Ok.winners c.find_winners.new.files c.write_winners.new.files out c.write_winners.result again;
      counted = wrote_counted (opener g.F.Opens.opens g.F.Opens.text g.F.Opens.failures g.F.Reader.Source.left g.F.Reader.Source.failures) (asked_of c.args.request.now) paths c.in-Ok.winners c.find_winners.new.files c.write_winners.new.files out c.write_winners.result again;
    })
