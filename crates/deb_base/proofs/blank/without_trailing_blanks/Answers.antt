use Rattle.std.proofs.Common.{◌≡◌, take, sym, ap, ◌∙◌, arith}
use Rattle.deb_base.specs.Trimming.{without_trailing_blanks}
use Rattle.deb_base.proofs.Trims.{without_trailing_blanks-blank, without_trailing_blanks-other}
use Rattle.deb_base.proofs.blank.without_trailing_blanks.Goals as goal
use Rattle.deb_base.proofs.blank.without_trailing_blanks.Goals.{then-loop-end-test+else-is_blank_byte, else-loop-end-test}

pub loop-end-preserved : goal.loop-end-preserved
loop-end-preserved c =
    (omega arith, sym (without_trailing_blanks-blank c.args.text.now c.loop-end.end (omega arith) (omega arith) (sym c.if-is_blank_byte.ensures)) ∙ c.loop-end.invariant.1)

pub returns : goal.returns
returns c =
    elim c.loop-end-test.branch [
      | then-loop-end-test+else-is_blank_byte w ↦
          sym (without_trailing_blanks-other c.args.text.now c.loop-end.end (omega arith) (omega arith) (sym w.if-is_blank_byte.ensures)) ∙ c.loop-end.invariant.1
      | else-loop-end-test w ↦
          let none : c.loop-end.end ≡ 0 = omega arith in
          ap (λ n. take n c.args.text.now) none ∙ sym (ap (λ n. without_trailing_blanks (take n c.args.text.now)) none) ∙ c.loop-end.invariant.1
    ]
