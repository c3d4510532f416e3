use Rattle.std.proofs.Common.{◌≡◌, length, sym, ap, subst, ◌∙◌, arith}
use Rattle.std.specs.List.{list_all}
use Rattle.deb_solve.specs.Health.{fits}
use Rattle.deb_solve.specs.Marks.{AreMarks, marked}
use Rattle.deb_solve.proofs.Healthy.{healthy_list}
use Rattle.deb_solve.proofs.health.Marks.is_healthy.Goals as goal

pub returns-clause-yes : goal.returns-clause-yes
returns-clause-yes c =
    let u = c.args.universe.now in
    let members = c.args.members.now in
    let marks = c.set_marks.new.marks.items in
    let size : length c.args.self.now.marks.items ≡ length u.needs =
    omega (arith, c.if-len.false, c.len.ensures, c.len-2.ensures) in
    let value : c.all_fit-fit.result ≡ list_all (fits u (marked marks)) members =
    c.all_fit-fit.ensures ∙ ap (λ s. list_all (fits u (marked s)) members) c.deref.ensures.value in
    λ yes. (healthy_list u marks members (subst (λ n. AreMarks marks members n) size c.set_marks.ensures)).0 (sym value ∙ yes)

pub returns-clause-no : goal.returns-clause-no
returns-clause-no c =
    let u = c.args.universe.now in
    let members = c.args.members.now in
    let marks = c.set_marks.new.marks.items in
    let value : c.all_fit-fit.result ≡ list_all (fits u (marked marks)) members =
    c.all_fit-fit.ensures ∙ ap (λ s. list_all (fits u (marked s)) members) c.deref.ensures.value in
    λ size healthy. value ∙ (healthy_list u marks members (subst (λ n. AreMarks marks members n) size c.set_marks.ensures)).1 healthy
