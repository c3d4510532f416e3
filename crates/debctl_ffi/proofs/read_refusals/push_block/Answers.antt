use Rattle.std.proofs.Common.{◌∷◌, [], ◌++◌, ◌∙◌, ap, append_assoc}
use Rattle.deb_explain.specs.Explanations.{why_refused}
use Rattle.deb_explain.proofs.Explanations.{last_is}
use Rattle.debctl_ffi.specs.Explaining.{explanation_lines}
use Rattle.debctl_ffi.proofs.read_refusals.push_block.Goals as goal

pub returns : goal.returns
returns c = λ doc text left done seen given.
    let last = rw c.in-Some.is at (c.in_ok-explanation.ensures.explains doc text left (done ++ seen ∷ []) given) in
    c.in_ok-push.ensures.items
    ∙ ap (λ l. l ++ 10 ∷ []) (c.in_ok-extend_from_slice.ensures.items
    ∙ ap (λ l. c.args.lines.now.items ++ l) (c.deref.ensures.value ∙ c.in_ok-lines_of.ensures ∙ ap explanation_lines (last_is doc done seen _ last)))
    ∙ append_assoc c.args.lines.now.items (explanation_lines (why_refused doc seen)) (10 ∷ [])
