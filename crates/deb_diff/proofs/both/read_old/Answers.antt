use Rattle.std.proofs.Common.{[]}
use Rattle.deb_diff.proofs.Boths.{if_ok, reads_all}
use Rattle.deb_diff.proofs.both.read_old.Goals as goal

pub returns-clause-ok : goal.returns-clause-ok
returns-clause-ok g c = λ text left.
    if_ok (λ kept. reads_all c.args.kind text c.in_ok-pool.pool c.read_others.new.pool kept.items) c.read_others.result (c.read_others.ensures.ok text [] left c.in_ok-pool.ensures.pool)
