use Rattle.std.proofs.Common.{◌∙◌, [], ◌∷◌, length, length-append, sym, ap, arith}
use Rattle.deb_syntax.specs.Lines.{paragraphs_of}
use Rattle.deb_syntax.specs.Reading.{Advances}
use Rattle.deb_syntax.proofs.Callers.{goes-from_passes, sound-from_passes}
use Rattle.deb_file_tests.proofs.syntax.raw.count_paragraphs.Goals as goal

pub returns-in_default : goal.returns-in_default
returns-in_default g c = λ text told.
    let passes = rw (c.in_ok-next.was, c.in_default.is) at c.next.follows.holds-at-none in
    let goes = goes-from_passes Advances _ _ _ c.loop-count.invariant.fault passes in
    let so_far = c.loop-count.invariant.text text told in
    so_far.2 ∙ ap length (sym (goes.answers text so_far.0 so_far.1).passes)

pub loop-count-preserved : goal.loop-count-preserved
loop-count-preserved g c =
    let passes = rw (c.in_ok-next.was, c.in-Some.is) at c.next.follows.holds-at-none in
    let goes = goes-from_passes Advances _ _ _ c.loop-count.invariant.fault passes in
    record {
      fault = sound-from_passes Advances _ _ _ c.loop-count.invariant.fault passes;
      text = λ text told.
          let so_far = c.loop-count.invariant.text text told in
          let next = goes.answers text so_far.0 so_far.1 in
          (next.passed_now, next.again, omega (arith, so_far.2, ap length next.passes, length-append (paragraphs_of so_far.0) (next.paragraph ∷ [])));
    }
