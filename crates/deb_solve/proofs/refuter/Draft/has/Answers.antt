use Rattle.std.proofs.Common.{sym, ap, ◌∙◌, slice_get}
use Rattle.std.proofs.lemmas.Bool.{eqb-true}
use Rattle.deb_solve.proofs.Deriving.{is_among_at}
use Rattle.deb_solve.proofs.refuter.Draft.has.Goals as goal

pub returns-in-Some : goal.returns-in-Some
returns-in-Some c =
    let list = c.args.self.now.list.items in
    let place = c.number_or-place.result in
    λ same. is_among_at list place c.in-Some.found c.args.number (ap (λ xs. slice_get xs place) (sym c.deref-2.ensures.value) ∙ c.in-Some.ensures) (eqb-true _ _ same)
