use Rattle.deb_control.proofs.Common.{◌≡◌, ◌==◌, ◌^◌, ◌∙◌, add-one, ap, arith, get_or, sym}
use Rattle.std.proofs.Common.{pow-suc}
use Rattle.std.proofs.lemmas.List.{get_or_past}
use Rattle.std.proofs.Math.Nat.{pow-le-pow_right}
use Rattle.deb_control.proofs.NameFronts.{front-next}
use Rattle.deb_control.proofs.name.name_front.Goals as goal
use Rattle.deb_control.proofs.name.name_front.Goals.{then-index-name, else-index-name}

pub overflow_mul-front : goal.overflow_mul-front
overflow_mul-front c = omega (arith, c.loop-index.invariant.small, pow-le-pow_right {n = 256} (omega arith) {i = c.loop-index.index} {j = 7} (omega (arith, c.loop-index-test.true)))

pub overflow_add-front : goal.overflow_add-front
overflow_add-front c = omega (arith, c.loop-index.invariant.small, c.from.ensures, c.canonical_byte.type_inv, pow-le-pow_right {n = 256} (omega arith) {i = c.loop-index.index} {j = 7} (omega (arith, c.loop-index-test.true)))

pub loop-index-preserved : goal.loop-index-preserved
loop-index-preserved c =
    let i = c.loop-index.index in
    let byte : c.if-index-name.byte ≡ get_or c.args.name.now i 0 = elim c.if-index-name.branch [ then-index-name w ↦ w.byte-is | else-index-name w ↦ w.byte-is ∙ sym (get_or_past c.args.name.now i 0 (omega (arith, w.if-index-name.false))) ] in
    record {
      small = omega (arith, c.loop-index.invariant.small, c.from.ensures, c.canonical_byte.type_inv, pow-suc 256 i, ap (λ n. 256 ^ n) (add-one i));
      rest =
          front-next c.args.name.now i c.loop-index.front (c.loop-index.before == 45) c.if-index-name.byte c.from.result c.loop-index-test.true (c.from.ensures ∙ c.canonical_byte.ensures) byte
          ∙ c.loop-index.invariant.rest;
    }
