use Rattle.debctl_ffi.proofs.KeptLines.{line-rest, with_long-same}
use Rattle.debctl_ffi.proofs.kept.Kept.line_from.Goals as goal

pub returns-then-self-eq0-clause-same : goal.returns-then-self-eq0-clause-same
returns-then-self-eq0-clause-same c =
    let self = c.args.self.now in
    with_long-same self.between c.line_start-from.result self.long c.args.later.now c.if-self-eq0.true

pub returns-clause-line : goal.returns-clause-line
returns-clause-line c = line-rest c.line_start-from.result c.args.self.now.between c.args.later.now c.if-from-self.false c.line_start-from.ensures.line
