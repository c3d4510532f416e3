-- One text compares with itself as equal; of two, what both begin with doesn't decide.
use Rattle.deb_version.proofs.Common.{◌≡◌, ◌-◌, sym, ◌∙◌, length, take, drop, arith, length-drop, length-take, take_all, component_cmp, parts_of}
use Rattle.deb_version.proofs.CommonFront.{component_itself, front_passes}
use Rattle.deb_version.proofs.order.compare_components.Goals as goal

pub returns-then-same-b : goal.returns-then-same-b
returns-then-same-b c =
    let a = c.args.a.now in
    let b = c.args.b.now in
    let same : a ≡ b = sym (take_all c.same_len-same.result a (omega arith)) ∙ c.same_len-same.ensures.same ∙ take_all c.same_len-same.result b (omega arith) in
    sym (component_itself a b same)

pub returns : goal.returns
returns c =
    let a = c.args.a.now in
    let b = c.args.b.now in
    let front = c.len_before_run-front.result in
    let rest_a : take (length a - front) (drop front a) ≡ drop front a = take_all (length a - front) (drop front a) (omega (arith, length-drop front a)) in
    let rest_b : take (length b - front) (drop front b) ≡ drop front b = take_all (length b - front) (drop front b) (omega (arith, length-drop front b)) in
    c.compare_cuts.ensures ∙ (λ i. component_cmp (parts_of (rest_a i)) (parts_of (rest_b i)))
    ∙ sym (front_passes a b c.same_len-same.result front c.same_len-same.ensures.in_a (omega (arith, c.len_before_run-front.ensures.within, length-take c.same_len-same.result a)) c.same_len-same.ensures.same c.len_before_run-front.ensures.other_before)
