use Rattle.std.proofs.Common.{◌≡◌, ◌∙◌, ◌<◌, true, length, drop, take, slice_index, subst, sym, arith}
use Rattle.std.proofs.lemmas.Bool.{eqb-true}
use Rattle.std.proofs.lemmas.List.{length-drop, take_rest}
use Rattle.deb_base.specs.Bodies.{is_all_blank, newline}
use Rattle.debctl_ffi.proofs.BlankTexts.{more_lines}
use Rattle.debctl_ffi.proofs.blank_lines.blank_lines.Goals as goal

pub loop-length-preserved : goal.loop-length-preserved
loop-length-preserved c =
    let text = c.args.text.now in
    let n = c.loop-length.bytes in
    let m = c.in-Some.length in
    let rest = take_rest text n in
    let found = c.in-Some.ensures in
    let lt : m < length (drop n text) = subst (λ zs. m < length zs) rest found.0.high in
    let here : slice_index (drop n text) m ≡ newline = subst (λ zs. slice_index zs m ≡ newline) rest (eqb-true _ _ found.1) in
    let blank : is_all_blank (take m (drop n text)) ≡ true = subst (λ zs. is_all_blank (take m zs) ≡ true) rest (sym c.is_only_blanks.ensures ∙ c.if-not-is_only_blanks.false) in
    record {
      blank = more_lines text n m c.loop-length.lines c.loop-length.invariant.blank c.loop-length.invariant.few lt here (omega (arith, c.if-length-ge-PARAGRAPH_LIMIT.false)) blank;
      within = omega (arith, lt, length-drop n text, c.loop-length.invariant.within);
      few = omega (arith, c.loop-length.invariant.few);
    }
