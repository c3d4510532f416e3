use Rattle.std.proofs.Common.{sym, ap, ◌∙◌}
use Rattle.deb_solve.specs.Marks.{marked}
use Rattle.deb_solve.proofs.refuter.Refuter.is_out.Goals as goal

pub returns-clause-out : goal.returns-clause-out
returns-clause-out c =
    λ is. c.args.self.now.are_out c.args.number (sym (c.is_marked.ensures ∙ ap (λ marks. marked marks c.args.number) c.deref.ensures.value) ∙ is)
