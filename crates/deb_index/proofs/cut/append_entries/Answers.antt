use Rattle.std.proofs.Common.{ap, ◌∙◌}
use Rattle.std.specs.List.{prefix_len}
use Rattle.deb_index.proofs.Commas.{is_other}
use Rattle.deb_index.proofs.Cutting.{so_far_none, so_far_all, so_far_more}
use Rattle.deb_index.proofs.Neighbours.{rest_from}
use Rattle.deb_index.proofs.cut.append_entries.Goals as goal

pub loop-start-init : goal.loop-start-init
loop-start-init c = λ m regular is. so_far_none c.args.text.now c.args.number c.args.offset c.args.entries.now.items m regular is

pub loop-start-preserved : goal.loop-start-preserved
loop-start-preserved c = λ m regular is.
    let text = c.args.text.now in
    let start = c.loop-start.start in
    so_far_more text c.args.number start c.before-in-loop-start.result c.args.entries.now.items c.loop-start.entries.items _ m (c.loop-start.invariant m regular is) c.loop-start-test.true
    (c.before-in-loop-start.ensures.value ∙ ap (prefix_len (is_other 44)) (rest_from start text)) c.in_ok-append_entry.ensures

pub returns : goal.returns
returns c = λ m regular is. so_far_all c.args.text.now c.args.number c.loop-start.start _ _ m (c.loop-start.invariant m regular is) c.loop-start-test.false
