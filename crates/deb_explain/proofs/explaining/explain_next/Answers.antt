use Rattle.std.proofs.Common.{Ok, sym, ◌∙◌, subst}
use Rattle.std.proofs.lemmas.Result.{err_from_is_err_and}
use Rattle.std.specs.Io.KnownBytes.{Appends}
use Rattle.deb_base.specs.Devices.{AppendsFront}
use Rattle.deb_control.specs.GivenRefusals.{GivesNext}
use Rattle.deb_control.proofs.WrittenRefusals.{failed_next, one_written, part_written}
use Rattle.deb_explain.specs.AllExplanations.{explained_block, seen_block}
use Rattle.deb_explain.specs.Shown.{shown_by}
use Rattle.deb_explain.proofs.Explanations.{last_is}
use Rattle.deb_explain.proofs.explaining.explain_next.Goals as goal

pub returns-in_err-write_block-clause-writes_next : goal.returns-in_err-write_block-clause-writes_next
returns-in_err-write_block-clause-writes_next g c = λ doc text held has.
    let p = err_from_is_err_and c.from_residual-in_err-write_block.result c.from_residual-in_err-write_block.ensures.1 in
    let new = c.next.new.self in
    let left = g.R.Source.left c.next.new.reader in
    let why = shown_by c.in-Some.explanation in
    let refusal = c.in-Some.explanation.refusal in
    let same = sym c.in_ok-next.ensures.last ∙ sym (rw c.in-Some.is at c.in_ok-explanation.ensures.refusal) in
    let gives = subst (λ o. GivesNext doc text (Ok o) new left has.done) same (c.in_ok-next.ensures.gives doc text has.done has.given) in
    let told = rw c.in-Some.is at c.in_ok-explanation.ensures.explains doc text left _ gives.given in
    let block = c.in_err-write_block.ensures in
    let old = g.W.Sink.held c.args.writer.now in
    let writes = g.W.Sink.held c.write_block.new.out in
    let front = subst (λ w. AppendsFront old writes (explained_block c.args.path.now w)) (last_is doc has.done gives.seen why told) block.written in
    let of = seen_block c.args.path.now doc in
    rw (p.1, p.2) (failed_next of doc text new left held writes c.in_err-write_block.field-0.0 block.fault (part_written of doc text c.args.refusals.now new _ left held old writes refusal has gives front))

pub returns-in_ok-write_block-clause-writes_next : goal.returns-in_ok-write_block-clause-writes_next
returns-in_ok-write_block-clause-writes_next g c = λ doc text held has.
    let new = c.next.new.self in
    let left = g.R.Source.left c.next.new.reader in
    let why = shown_by c.in-Some.explanation in
    let refusal = c.in-Some.explanation.refusal in
    let same = sym c.in_ok-next.ensures.last ∙ sym (rw c.in-Some.is at c.in_ok-explanation.ensures.refusal) in
    let gives = subst (λ o. GivesNext doc text (Ok o) new left has.done) same (c.in_ok-next.ensures.gives doc text has.done has.given) in
    let told = rw c.in-Some.is at c.in_ok-explanation.ensures.explains doc text left _ gives.given in
    let old = g.W.Sink.held c.args.writer.now in
    let writes = g.W.Sink.held c.write_block.new.out in
    let block = subst (λ w. Appends old writes (explained_block c.args.path.now w)) (last_is doc has.done gives.seen why told) c.in_ok-write_block.ensures.written in
    one_written (seen_block c.args.path.now doc) doc text c.args.refusals.now new _ left held old writes refusal has gives block
