-- Each byte leads to the next state, and in the last one the component may end.
use Rattle.deb_version.proofs.Common.{◌≡◌, ◌+◌, ◌-◌, ◌∙◌, cond, [], length, take, sym, ap, subst, refl, arith, prefix_len, parts_of, is_revision_byte, component_text}
use Rattle.deb_version.specs.Fronts.{revision_front}
use Rattle.deb_version.proofs.CanonicalStates.{Follows, ended, front_longer, step}
use Rattle.deb_version.proofs.component.canonical_component.Goals as goal

pub loop-byte-init : goal.loop-byte-init
loop-byte-init c = record { canonical = λ follows. follows [] tt refl; run = refl; within = omega arith }

pub loop-byte-preserved : goal.loop-byte-preserved
loop-byte-preserved c =
    let loop = c.loop-byte in
    let byte = c.in-Some.byte in
    let after = c.in-Some.after.now in
    let front = ap revision_front c.in-Some.ensures.0 ∙ front_longer byte after c.in-Some.ensures.1 in
    let more = ap (prefix_len is_revision_byte) c.in-Some.ensures.0 ∙ ap (λ v. cond v (1 + prefix_len is_revision_byte after) 0) c.in-Some.ensures.1 in
    record {
      canonical = λ follows. loop.invariant.canonical (subst (Follows loop.state) (sym front) (step loop.state byte c.after-state.result (revision_front after) c.after-state.ensures follows));
      run = omega (arith, loop.invariant.run, ap length c.in-Some.ensures.0, more);
      within = omega (arith, loop.invariant.within, ap length c.in-Some.ensures.0);
    }

pub returns-then-may_end-clause-canonical : goal.returns-then-may_end-clause-canonical
returns-then-may_end-clause-canonical c =
    let text = c.args.text.now in
    let loop = c.loop-byte in
    let at : length text - length loop.rest.now ≡ prefix_len is_revision_byte text = omega (arith, loop.invariant.run, loop.invariant.within, c.in_default.ensures) in
    let empty = ap (λ n. take n loop.rest.now) c.in_default.ensures in
    let whole = loop.invariant.canonical (subst (Follows loop.state) (sym empty) (ended loop.state (sym c.may_end.ensures ∙ c.if-may_end.true))) in
    ap (λ n. component_text (parts_of (take n text))) at ∙ whole ∙ sym (ap (λ n. take n text) at)
