-- A line and those after it that are spelled as it are the next run.
use Rattle.std.proofs.Common.{◌≡◌, ◌+◌, ◌∷◌, [], ◌++◌, sym, ap, ◌∙◌, drop, arith, refl, append-nil, drop_of_length-le}
use Rattle.std.proofs.lemmas.List.{drop-drop, drop_more, length-drop, take_rest}
use Rattle.deb_sort.proofs.RunLemmas.{run_first, run_more}
use Rattle.deb_sort.specs.VersionLines.{lines_of_runs, run_lines, texts_of}
use Rattle.deb_sort.specs.declared.equal_lines.EqualLines.{EqualLines}
use Rattle.deb_sort.proofs.equal_lines.join_equal.Goals as goal

pub loop-at-preserved : goal.loop-at-preserved
loop-at-preserved c =
    let lines = c.args.lines.now in
    let at = c.loop-at.at in
    let line = c.index-lines-at.result in
    let more = c.equal_len-count.result in
    let behind = drop (at + 1) lines in
    let run : EqualLines = record { line = line; count = 1 + more } in
    let first : texts_of (drop at lines) ≡ run_lines run ++ texts_of (drop more behind) =
    ap texts_of (drop_more lines at line c.loop-at-test.true ∙ ap (λ l. l ∷ behind) (sym c.index-lines-at.is))
    ∙ run_first line behind more (1 + more) (rw (take_rest lines (at + 1)) at c.equal_len-count.ensures.value) refl in
    let left : drop (at + (1 + more)) lines ≡ drop more behind =
    ap (λ n. drop n lines) (omega arith) ∙ sym (drop-drop more (at + 1) lines) in
    record {
      whole = ap (λ runs. lines_of_runs runs ++ texts_of (drop (at + (1 + more)) lines)) c.in_ok-push.ensures.items
          ∙ ap (λ l. lines_of_runs (c.loop-at.runs.items ++ run ∷ []) ++ texts_of l) left
          ∙ run_more c.loop-at.runs.items run (texts_of (drop at lines)) (texts_of (drop more behind)) first
          ∙ c.loop-at.invariant.whole;
      within = omega (arith, rw (take_rest lines (at + 1)) at c.equal_len-count.ensures.bound, length-drop (at + 1) lines, c.loop-at-test.true);
    }

pub loop-at-smaller : goal.loop-at-smaller
loop-at-smaller c = omega (arith, c.loop-at-test.true)

pub returns : goal.returns
returns c =
    sym (append-nil (lines_of_runs c.loop-at.runs.items))
    ∙ ap (λ l. lines_of_runs c.loop-at.runs.items ++ texts_of l) (sym (drop_of_length-le c.args.lines.now c.loop-at-test.false))
    ∙ c.loop-at.invariant.whole
