use Rattle.std.proofs.Common.{◌≡◌}
use Rattle.deb_index.specs.ReportText.{answer_text}
use Rattle.deb_index.specs.Reported.{answers_left}
use Rattle.deb_index.specs.ShownVersions.{shown_by}
use Rattle.deb_index.proofs.WrittenParts.{WrittenBefore}
use Rattle.deb_index.proofs.report_text.write_answers.Given as goal

abbrev pub invariant-loop-answer : goal.invariant-loop-answer
invariant-loop-answer g l = record {
  can : (goal.iterator-loop-answer g).can_next l.answer-iterator;
  finite : (goal.iterator-loop-answer g).is_finite l.answer-iterator;
  bytes : WrittenBefore (answer_text (shown_by l.fn.versions)) (answers_left l.fn.answers) (answers_left l.answer-iterator) (g.W.Sink.held l.initial.out) (g.W.Sink.held l.out);
  counted : g.W.Sink.failures l.out ≡ g.W.Sink.failures l.initial.out;
}
