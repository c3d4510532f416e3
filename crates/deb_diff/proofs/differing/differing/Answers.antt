-- One step more, and the end.
use Rattle.std.proofs.Common.{[], ◌∷◌, ◌++◌, map, sym, ap, ◌∙◌, append-nil}
use Rattle.std.proofs.lemmas.List.{map-append}
use Rattle.std.specs.Option.{option_to_list}
use Rattle.deb_diff.proofs.Merging.{merges_more}
use Rattle.deb_diff.proofs.differing.differing.Goals.{in-Some-differs+in_ok-push, in_default-differs}
use Rattle.deb_diff.proofs.differing.differing.Goals as goal

pub loop-step-preserved : goal.loop-step-preserved
loop-step-preserved c = λ entries others cut other_cut is is_too.
    let before = c.loop-step.invariant entries others cut other_cut is is_too in
    let names = map (λ n. n.now) c.loop-step.names.items in
    let step = c.in-Some.ensures.merges before.left before.other_left before.cut before.other_cut before.text_is before.other_text_is in
    merges_more entries others names (map (λ n. n.now) (option_to_list c.in-Some.step.differs)) (map (λ n. n.now) c.match-step.names.items) c.loop-step.rest.now c.loop-step.other_rest.now c.in-Some.step.old.now c.in-Some.step.new.now before step
    (elim c.match-step.branch [
      | in-Some-differs+in_ok-push w ↦ ap (λ v. map (λ n. n.now) v.items) w.names-is ∙ ap (map (λ n. n.now)) w.in_ok-push.ensures.items ∙ map-append (λ n. n.now) c.loop-step.names.items (w.in-Some-differs.name ∷ []) ∙ ap (λ o. names ++ map (λ n. n.now) (option_to_list o)) (sym w.in-Some-differs.is)
      | in_default-differs w ↦ ap (λ v. map (λ n. n.now) v.items) w.names-is ∙ sym (append-nil names) ∙ ap (λ o. names ++ map (λ n. n.now) (option_to_list o)) (sym w.in_default-differs.is)
    ])

pub returns : goal.returns
returns c = λ entries others cut other_cut is is_too.
    let before = c.loop-step.invariant entries others cut other_cut is is_too in
    let names = map (λ n. n.now) c.loop-step.names.items in
    sym (append-nil names) ∙ ap (λ l. names ++ l) (sym (c.in_default.ensures.merges before.left before.other_left before.cut before.other_cut before.text_is before.other_text_is)) ∙ before.differ
