use Rattle.debctl_ffi.proofs.Readings.{drops-line, ok-then}
use Rattle.debctl_ffi.proofs.reader.Reader.drop_line.Goals as goal

pub returns-clause-fed : goal.returns-clause-fed
returns-clause-fed c = λ doc fed given is.
    ok-then c.drop_line.result _ _ (drops-line doc fed given c.args.self.now c.drop_line.new.self is) c.drop_line.ensures
