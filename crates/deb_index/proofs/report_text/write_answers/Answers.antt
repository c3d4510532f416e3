use Rattle.std.proofs.Common.{◌∙◌}
use Rattle.std.proofs.lemmas.Result.{err_from_is_err_and}
use Rattle.deb_index.specs.ReportText.{answer_text}
use Rattle.deb_index.specs.Reported.{answers_left, answer_of}
use Rattle.deb_index.specs.ShownVersions.{shown_by}
use Rattle.deb_index.proofs.WrittenParts.{front_written, one_written}
use Rattle.deb_index.proofs.report_text.write_answers.Goals as goal

pub loop-answer-preserved : goal.loop-answer-preserved
loop-answer-preserved g c =
    record {
      can = tt;
      finite = tt;
      bytes = one_written (answer_text (shown_by c.args.versions)) _ _ _ (answers_left c.loop-answer.answer-iterator) (answer_of c.in-Some.answer) (answers_left c.next.new.self) _ c.loop-answer.invariant.bytes c.in-Some.ensures.steps c.in_ok-write_answer.ensures.written;
      counted = c.in_ok-write_answer.ensures.counts_failure ∙ c.loop-answer.invariant.counted;
    }

pub returns-in_err-write_answer-clause-written : goal.returns-in_err-write_answer-clause-written
returns-in_err-write_answer-clause-written g c =
    let p = err_from_is_err_and c.from_residual.result c.from_residual.ensures.1 in
    rw p.1 (front_written (answer_text (shown_by c.args.versions)) _ _ _ (answers_left c.loop-answer.answer-iterator) (answer_of c.in-Some.answer) (answers_left c.next.new.self) _ c.loop-answer.invariant.bytes c.in-Some.ensures.steps c.in_err-write_answer.ensures.written)
