use Rattle.std.proofs.Common.{◌≡◌, ◌≤◌, ◌+◌, ◌-◌, length, take, drop, sym, subst, arith}
use Rattle.std.specs.List.{prefix_len}
use Rattle.std.proofs.lemmas.List.{length-drop, length-take-le, take_rest}
use Rattle.std.proofs.lemmas.List.Sums.{prefix_len-le-length}
use Rattle.deb_field.specs.WordCuts.{is_other}
use Rattle.deb_relation.proofs.NameRuns.{run_ends, run_on}
use Rattle.deb_field.proofs.words.word_len.Goals as goal

pub returns-then-len-lt-LANES-clause-value : goal.returns-then-len-lt-LANES-clause-value
returns-then-len-lt-LANES-clause-value c =
    let rest = c.loop-rest.rest.now in
    let ends = run_ends is_other 16 rest (omega (arith, c.loop-rest-test.true)) (omega (arith, c.if-len-lt-LANES.true, c.front_len-len.ensures)) in
    omega (arith, c.loop-rest.invariant.run, c.loop-rest.invariant.within, ends, c.front_len-len.ensures)

pub loop-rest-preserved : goal.loop-rest-preserved
loop-rest-preserved c =
    let rest = c.loop-rest.rest.now in
    let text = c.args.text.now in
    let room : 16 ≤ length rest = omega (arith, c.loop-rest-test.true) in
    let most = prefix_len-le-length is_other (take 16 rest) in
    let on = run_on is_other 16 rest room (omega (arith, c.if-len-lt-LANES.false, c.front_len-len.ensures, most, length-take-le 16 rest room)) in
    let back : drop 16 rest ≡ take (length rest - 16) (drop 16 rest) = sym (take_rest rest 16) in
    record {
      run = subst (λ l. prefix_len is_other text + length l ≡ length text + prefix_len is_other l) back (omega (arith, c.loop-rest.invariant.run, on, length-drop 16 rest, room));
      within = subst (λ l. length l ≤ length text) back (omega (arith, c.loop-rest.invariant.within, length-drop 16 rest));
    }
