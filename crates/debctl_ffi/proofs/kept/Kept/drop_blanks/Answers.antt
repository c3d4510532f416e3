use Rattle.std.proofs.Common.{◌≡◌, ◌∙◌, ◌-◌, ◌++◌, length, drop, take, subst, ap, arith}
use Rattle.std.proofs.lemmas.List.{take_rest}
use Rattle.debctl_ffi.specs.Blanks.{AreBlankLines}
use Rattle.debctl_ffi.proofs.BlankTexts.{drops, drops-from}
use Rattle.debctl_ffi.proofs.KeptLines.{blanks-here}
use Rattle.debctl_ffi.proofs.kept.Kept.drop_blanks.Goals as goal

pub returns : goal.returns
returns c =
    let bytes = c.args.self.now.bytes.items in
    let f = c.in-Some.front in
    let k = c.blank_lines-blank.result.bytes in
    let m = c.blank_lines-blank.result.lines in
    let n = c.args.self.now.lines in
    let s = c.args.self.now.spaces in
    let cut = c.without_last.ensures k c.blank_lines-blank.ensures.within in
    let all = c.deref.result.now in
    let later = take (length all - f) (drop f all) in
    let same = take_rest all f ∙ ap (drop f) c.deref.ensures.value in
    let are : AreBlankLines (take k (drop f bytes)) m (k - m) = subst (λ t. AreBlankLines t m (k - m)) (cut.0 ∙ ap (take k) same) c.blank_lines-blank.ensures.blank in
    let is : c.in_ok-bytes.bytes.items ≡ take f bytes ++ drop k (drop f bytes) =
    c.in_ok-bytes.ensures ∙ ap (λ b. take f b ++ take (length later - k) (drop k later)) c.deref-2.ensures.value
    ∙ ap (λ t. take f bytes ++ t) (take_rest later k ∙ ap (drop k) same) in
    drops-from _ _ (blanks-here bytes c.args.self.now.front c.args.self.now.between c.args.self.now.long n s c.if-self-gt0.false ∙ c.in-Some.ensures.text) _
    (drops bytes f k n s m c.in-Some.ensures.within c.in-Some.ensures.closing c.blank_lines-blank.ensures.few c.args.self.now.few are
    c.in_ok-bytes.bytes.items c.saturating_add-lines.result c.saturating_add-spaces.result is
    (omega (arith, c.saturating_add-lines.ensures, c.if-lines.false))
    (omega (arith, c.saturating_add-spaces.ensures, c.if-spaces.false, c.blank_lines-blank.ensures.few)))
