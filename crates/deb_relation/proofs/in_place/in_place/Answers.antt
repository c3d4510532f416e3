use Rattle.std.proofs.Common.{◌∙◌, ap, false, is_lt, subst, sym, true}
use Rattle.deb_relation.specs.InPlace.{BeginsRelation, IsInPlace}
use Rattle.deb_relation.proofs.InPlace.{first_group, less_is, next_group, no_group}
use Rattle.deb_relation.proofs.Joining.{nil_of}
use Rattle.deb_relation.proofs.in_place.in_place.Goals as goal

pub returns-then-is_empty : goal.returns-then-is_empty
returns-then-is_empty c = subst (λ t. IsInPlace t false true) (sym (nil_of c.args.text.now (sym c.is_empty.ensures ∙ c.if-is_empty.true))) no_group

pub loop-next-init : goal.loop-next-init
loop-next-init c = first_group c.args.text.now c.in_ok-last.last.now c.in_ok-last.has_two c.in_ok-last.only_equals c.in_ok-last.rest.now c.in_ok-last.ensures

pub loop-next-preserved : goal.loop-next-preserved
loop-next-preserved c =
    let text = c.args.text.now in
    let l = c.loop-next in
    let next = c.in-Some.next.now in
    let group = c.in_ok-group in
    next_group text l.last.now next group.group.now l.has_two l.only_equals group.two group.equals group.behind.now (subst (BeginsRelation text l.last.now l.has_two l.only_equals) c.in-Some.ensures l.invariant) group.ensures (less_is _ (ap is_lt (sym c.cmp.ensures) ∙ sym c.is_lt.ensures ∙ c.if-not-is_lt.false))
