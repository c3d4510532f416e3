use Rattle.std.proofs.Common.{◌≡◌}
use Rattle.deb_index.specs.Detailed.{details_left}
use Rattle.deb_index.specs.Why.{detailed_answer_text}
use Rattle.deb_index.specs.ShownVersions.{shown_by}
use Rattle.deb_index.proofs.WrittenParts.{WrittenBefore}
use Rattle.deb_index.proofs.why.write_all.Given as goal

abbrev pub invariant-loop-answer : goal.invariant-loop-answer
invariant-loop-answer g l = record {
  can : (goal.iterator-loop-answer g).can_next l.answer-iterator;
  finite : (goal.iterator-loop-answer g).is_finite l.answer-iterator;
  bytes : WrittenBefore (detailed_answer_text (shown_by l.fn.versions)) (details_left l.fn.answers) (details_left l.answer-iterator) (g.W.Sink.held l.initial.out) (g.W.Sink.held l.out);
  counted : g.W.Sink.failures l.out ≡ g.W.Sink.failures l.initial.out;
}
