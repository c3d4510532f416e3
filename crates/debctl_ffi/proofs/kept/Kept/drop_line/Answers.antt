use Rattle.std.proofs.Common.{◌≡◌, ◌∙◌, ◌-◌, ◌≤◌, ◌++◌, inr, length, drop, take, subst, ap, arith}
use Rattle.std.proofs.lemmas.List.{take_rest}
use Rattle.deb_base.specs.Bodies.{HasNoNewline, paragraph_limit}
use Rattle.debctl_ffi.specs.Blanks.{blank_text}
use Rattle.debctl_ffi.specs.LongLines.{with_long}
use Rattle.debctl_ffi.proofs.KeptLines.{counts-line}
use Rattle.debctl_ffi.proofs.kept.Kept.drop_line.Goals as goal

pub returns : goal.returns
unfolding paragraph_limit
returns c =
    let self = c.args.self.now in
    let bytes = self.bytes.items in
    let f = self.front in
    let n = c.in-Some.from in
    let all = c.deref.result.now in
    let later = take (length all - f) (drop f all) in
    let same : later ≡ drop f bytes = take_rest all f ∙ ap (drop f) c.deref.ensures.value in
    let low : f ≤ length bytes = omega (arith, self.within) in
    let is : c.in_ok-bytes.bytes.items ≡ take f bytes ++ take n (drop f bytes) =
    c.in_ok-bytes.ensures ∙ ap (λ b. take f b ++ take n later) c.deref-2.ensures.value ∙ ap (λ t. take f bytes ++ take n t) same in
    inr (counts-line bytes (blank_text self.lines self.spaces) f self.between n self.long low
    (subst (λ t. n ≤ length t) same c.in-Some.ensures.within)
    (subst (λ t. HasNoNewline (drop n t)) same c.in-Some.ensures.line)
    (subst (λ t. with_long self.between self.long t ≡ with_long n self.long t) same c.in-Some.ensures.same)
    c.in_ok-bytes.bytes.items c.saturating_add-long.result is
    (omega (arith, c.saturating_add-long.ensures, c.if-long.false, ap length same))
    (omega (arith, c.if-long-2.false)))
