use Rattle.std.proofs.Common.{◌&&◌, inl, inr, refl, subst, sym}
use Rattle.deb_relation.specs.InPlace.{BeginsGroup}
use Rattle.deb_relation.specs.Texts.{group_text}
use Rattle.deb_relation.proofs.InPlace.{one_alternative}
use Rattle.deb_relation.proofs.in_place.cut_group.Goals as goal

pub loop-is_equal-init : goal.loop-is_equal-init
loop-is_equal-init c = inl (refl, refl, refl)

pub loop-is_equal-preserved : goal.loop-is_equal-preserved
loop-is_equal-preserved c =
    let loop = c.loop-is_equal in
    let read = c.in_ok-is_equal in
    let group = one_alternative c.args.text.now loop.next.now loop.has_two loop.only_equals read.is_equal read.rest.now loop.invariant read.ensures in
    inr (loop.has_two, subst (BeginsGroup c.args.text.now loop.has_two (loop.only_equals && read.is_equal)) c.in-Some.ensures group, refl)

pub returns-in-None : goal.returns-in-None
returns-in-None c =
    let loop = c.loop-is_equal in
    let read = c.in_ok-is_equal in
    let group = one_alternative c.args.text.now loop.next.now loop.has_two loop.only_equals read.is_equal read.rest.now loop.invariant read.ensures in
    (group, sym (c.front.ensures (group_text group.group) group.spelt))
