use Rattle.std.proofs.Common.{◌≡◌, ◌&&◌, refl, sym, ap, ◌∙◌, arith}
use Rattle.std.proofs.lemmas.Result.{err_from_is_err_and}
use Rattle.deb_unmet.specs.Parts.{is_of_member}
use Rattle.deb_unmet.proofs.OwnFiles.{count-within, end_own, next_own, none_own, one_own, stopped_own}
use Rattle.deb_unmet.proofs.in_itself.write_kept.Goals as goal
use Rattle.deb_unmet.proofs.in_itself.write_kept.Goals.{then-is_empty, else-is_empty}

pub loop-count-init : goal.loop-count-init
loop-count-init g c = record {
  lines = λ before text reads. none_own _ _ _ _ _ text _ reads;
  below = omega arith;
  writes = refl;
}

pub loop-count-preserved : goal.loop-count-preserved
loop-count-preserved g c =
    let all_is : c.if-is_empty.is_empty ≡ (c.loop-count.is_empty && c.in_ok-has_none.has_none) =
    elim c.if-is_empty.branch [
      | then-is_empty w ↦ w.is_empty-is ∙ ap (λ b. b && c.in_ok-has_none.has_none) (sym w.if-is_empty.true)
      | else-is_empty w ↦ w.is_empty-is ∙ w.if-is_empty.false ∙ ap (λ b. b && c.in_ok-has_none.has_none) (sym w.if-is_empty.false)
    ] in
    record {
      lines = λ before text reads.
          let next = next_own _ _ _ _ _ text _ reads (c.loop-count.invariant.lines before text reads) c.index-parts-count.result c.loop-count-test.true c.index-parts-count.is in
          one_own _ _ _ _ _ text _ reads (c.loop-count.invariant.lines before text reads) next (g.W.Sink.held c.write_part.new.writer) c.in_ok-has_none.has_none c.if-is_empty.is_empty c.counted-members.result
          (c.in_ok-has_none.ensures.puts next.seen.fields next.is.values next.is.holds) all_is c.counted-members.ensures;
      below = count-within (is_of_member c.index-parts-count.result) c.loop-count.members c.loop-count.count c.counted-members.result c.counted-members.ensures c.loop-count.invariant.below;
      writes = c.in_ok-has_none.ensures.counts_failure ∙ c.loop-count.invariant.writes;
    }

pub returns-in_err-has_none-clause-stopped : goal.returns-in_err-has_none-clause-stopped
returns-in_err-has_none-clause-stopped g c = λ before text reads.
    let p = err_from_is_err_and c.from_residual.result c.from_residual.ensures.1 in
    let next = next_own _ _ _ _ _ text _ reads (c.loop-count.invariant.lines before text reads) c.index-parts-count.result c.loop-count-test.true c.index-parts-count.is in
    rw (p.1, p.2)
    (stopped_own _ _ _ _ _ text _ reads (c.loop-count.invariant.lines before text reads) next (g.W.Sink.held c.write_part.new.writer) c.in_err-has_none.field-0.0
    (c.in_err-has_none.ensures.puts next.seen.fields next.is.values next.is.holds))

pub returns-clause-ok : goal.returns-clause-ok
returns-clause-ok g c = λ before text reads.
    end_own _ _ _ _ _ text _ reads (c.loop-count.invariant.lines before text reads) c.loop-count-test.false
