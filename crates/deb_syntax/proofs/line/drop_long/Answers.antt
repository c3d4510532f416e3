use Rattle.deb_syntax.proofs.Common.{◌∙◌, ◌++◌, inl, inr, length, drop, refl, ap, subst, arith, take_rest, Describes}
use Rattle.deb_base.specs.Bodies.{paragraph_limit}
use Rattle.deb_syntax.proofs.line.drop_long.Goals as goal

pub returns-then-unread-dropped : goal.returns-then-unread-dropped
unfolding paragraph_limit
returns-then-unread-dropped c = inl (refl, refl, omega (arith, c.if-unread-dropped.true, ap length c.unread-unread.ensures))

pub returns : goal.returns
unfolding paragraph_limit
returns c = inr (c.truncate.ensures.keeps, omega (arith, c.if-unread-dropped.false, ap length c.unread-unread.ensures), λ bytes d. subst (λ zs. Describes c.with-longer.result (bytes ++ zs)) (take_rest c.unread-unread.result.now c.args.kept ∙ ap (drop c.args.kept) c.unread-unread.ensures) (c.with-longer.ensures.describes bytes d))
