use Rattle.std.proofs.Common.{◌∙◌}
use Rattle.std.proofs.lemmas.Result.{err_from_is_err_and}
use Rattle.deb_index.specs.Why.{detailed_answer_text}
use Rattle.deb_index.specs.Detailed.{detailed_of, details_left}
use Rattle.deb_index.specs.ShownVersions.{shown_by}
use Rattle.deb_index.proofs.WrittenParts.{front_written, one_written}
use Rattle.deb_index.proofs.why.write_all.Goals as goal

pub loop-answer-preserved : goal.loop-answer-preserved
loop-answer-preserved g c =
    record {
      can = tt;
      finite = tt;
      bytes = one_written (detailed_answer_text (shown_by c.args.versions)) _ _ _ (details_left c.loop-answer.answer-iterator) (detailed_of c.in-Some.answer) (details_left c.next.new.self) _ c.loop-answer.invariant.bytes c.in-Some.ensures.steps c.in_ok-write_one.ensures.written;
      counted = c.in_ok-write_one.ensures.counts_failure ∙ c.loop-answer.invariant.counted;
    }

pub returns-in_err-write_one-clause-written : goal.returns-in_err-write_one-clause-written
returns-in_err-write_one-clause-written g c =
    let p = err_from_is_err_and c.from_residual.result c.from_residual.ensures.1 in
    rw p.1 (front_written (detailed_answer_text (shown_by c.args.versions)) _ _ _ (details_left c.loop-answer.answer-iterator) (detailed_of c.in-Some.answer) (details_left c.next.new.self) _ c.loop-answer.invariant.bytes c.in-Some.ensures.steps c.in_err-write_one.ensures.written)
