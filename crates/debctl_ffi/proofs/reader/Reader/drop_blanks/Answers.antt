use Rattle.debctl_ffi.proofs.Readings.{drops-blanks, ok-then}
use Rattle.debctl_ffi.proofs.reader.Reader.drop_blanks.Goals as goal

pub returns-clause-fed : goal.returns-clause-fed
returns-clause-fed c = λ doc fed given is.
    ok-then c.drop_blanks.result _ _ (drops-blanks doc fed given c.args.self.now c.drop_blanks.new.self is) c.drop_blanks.ensures
