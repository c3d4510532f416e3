-- One line more, and the end.
use Rattle.std.proofs.Common.{◌≡◌, ◌+◌, ◌-◌, ◌++◌, ◌∷◌, [], length, take, drop, refl, ap, ◌∙◌, arith}
use Rattle.std.proofs.lemmas.List.{length-drop, length-take-le, take_all}
use Rattle.deb_diff.proofs.Marking.{marked-more}
use Rattle.deb_diff.proofs.values.append_marked.Goals as goal

pub loop-start-preserved : goal.loop-start-preserved
loop-start-preserved c =
    let text = c.args.text.now in
    let start = c.loop-start.start in
    let n = c.line_len.result in
    let piece = take (length text - start) (drop start text) in
    let piece_is : piece ≡ drop start text = take_all (length text - start) (drop start text) (omega (arith, length-drop start text)) in
    let piece_len : length piece ≡ length text - start = ap length piece_is ∙ length-drop start text in
    let long : length (take n piece) ≡ n = length-take-le n piece c.line_len.ensures.bound in
    record {
      bound = omega (arith, long, piece_len, c.line_len.ensures.bound, c.loop-start-test.true);
      lines =
          marked-more c.args.mark.now text piece (take n piece) c.args.out.now.items c.loop-start.out.items c.push.new.self.items start n (start + (length (take n piece) + 1))
          c.loop-start.invariant.lines piece_is (λ none. absurd (omega (arith, ap length none, piece_len, c.loop-start-test.true)))
          c.line_len.ensures.value refl (ap (λ i. start + (i + 1)) long)
          (c.in_ok-push.ensures.items ∙ ap (λ l. l ++ 10 ∷ []) (c.in_ok-extend_from_slice-2.ensures.items ∙ ap (λ l. l ++ take n piece) c.in_ok-extend_from_slice.ensures.items));
    }
