use Rattle.deb_control.proofs.Common.{◌≡◌, ◌++◌, ◌+◌, ◌-◌, ◌∙◌, arith, sym, ap, subst, take, drop, bytes_eq-Decides}
use Rattle.std.proofs.Math.Seq.{take-add}
use Rattle.deb_control.proofs.name.same_front.Goals as goal

pub loop-same-preserved : goal.loop-same-preserved
loop-same-preserved c =
    let s = c.loop-same.same in
    let name = c.args.name.now in
    let other = c.args.other.now in
    let len : s + 32 - s ≡ 32 = omega arith in
    let equal : take (s + 32 - s) (drop s name) ≡ take (s + 32 - s) (drop s other) = (bytes_eq-Decides _ _).0 (sym c.eq.ensures ∙ c.if-eq.true) in
    let step : take 32 (drop s name) ≡ take 32 (drop s other) = subst (λ k. take k (drop s name) ≡ take k (drop s other)) len equal in
    record {
      within = omega (arith, c.loop-same-test.true, c.loop-same.invariant.within);
      beside = omega (arith, c.if-other-same-ge-STEP.true, c.loop-same.invariant.beside);
      same =
          take-add s 32 name
          ∙ ap (λ front. front ++ take 32 (drop s name)) c.loop-same.invariant.same
          ∙ ap (λ rest. take s other ++ rest) step
          ∙ sym (take-add s 32 other);
    }
