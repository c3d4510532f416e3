-- One field more, and the end.
use Rattle.std.proofs.Common.{refl, ap, ◌∙◌}
use Rattle.deb_diff.proofs.Cutting.{adds_all, adds_more, insert_now}
use Rattle.deb_diff.specs.Cuts.{texts_in}
use Rattle.deb_diff.proofs.cut.add_fields.Goals as goal

pub loop-first-preserved : goal.loop-first-preserved
loop-first-preserved c = λ entries cut is.
    let adds = c.loop-first.invariant entries cut is in
    adds_more c.args.fields.now.entries entries c.loop-first.rest.now c.loop-first.fields.entries c.insert.new.self.entries c.in-Some.first adds (c.in-Some.ensures.first adds.rest adds.each adds.text_is)
    (ap texts_in c.in_ok-insert.ensures.entries ∙ insert_now _ (λ a b. refl) c.loop-first.fields.entries c.in-Some.first.name c.in-Some.first.body)

pub returns : goal.returns
returns c = λ entries cut is.
    let adds = c.loop-first.invariant entries cut is in
    adds_all c.args.fields.now.entries entries c.loop-first.rest.now c.loop-first.fields.entries adds (c.in_default.ensures.first adds.rest adds.each adds.text_is)
