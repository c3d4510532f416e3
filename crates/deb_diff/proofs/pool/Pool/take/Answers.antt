use Rattle.std.proofs.Common.{refl, rules}
use Rattle.deb_diff.proofs.Pooled.{takes-none, takes-some}
use Rattle.deb_diff.proofs.pool.Pool.take.Goals as goal

pub returns-in_default-clause-takes : goal.returns-in_default-clause-takes
returns-in_default-clause-takes c = λ items key pool.
    takes-none items key c.args.key.now c.args.self.now (record { waiting = c.take.new.self; waits = c.args.self.now.waits }) pool (search rules) c.take.ensures.rest refl

pub returns-then-number-len-clause-takes : goal.returns-then-number-len-clause-takes
returns-then-number-len-clause-takes c = λ items key pool.
    takes-some items key c.args.key.now c.args.self.now _ pool c.in-Some.number (search rules) c.take.ensures.rest (λ below. refl)

pub returns-else-number-len-clause-takes : goal.returns-else-number-len-clause-takes
returns-else-number-len-clause-takes c = λ items key pool.
    takes-some items key c.args.key.now c.args.self.now (record { waiting = c.take.new.self; waits = c.args.self.now.waits }) pool c.in-Some.number (search rules) c.take.ensures.rest (λ below. absurd (search (rules, below)))
