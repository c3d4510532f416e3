use Rattle.std.proofs.Common.{take, drop, map, string_bytes, ◌+◌, arith, refl}
use Rattle.debctl_commands.specs.SelectConditions.{is_negated}
use Rattle.debctl_commands.proofs.PathLists.{bytes_before, bytes_more, bytes_split}
use Rattle.debctl_commands.proofs.SelectConditionTexts.{no_text, one_more, tells_bad}
use Rattle.debctl_commands.proofs.select_conditions.read_conditions.Goals as goal

pub loop-text-init : goal.loop-text-init
loop-text-init c = record { has = no_text c.args.doc (is_negated c.args.picks) c.new-selection.result (rw c.is_negated.ensures at c.new-selection.ensures); number = refl }

pub loop-text-preserved : goal.loop-text-preserved
loop-text-preserved c =
    let i = c.loop-text.text-index in
    record {
      has = rw (bytes_more c.args.texts.now i c.text-item.result c.loop-text-test.true c.text-item.is)
          (one_more c.args.doc (is_negated c.args.picks) (map string_bytes (take i c.args.texts.now)) _ c.loop-text.selection c.in-Ok.more c.loop-text.invariant.has (rw c.as_bytes.ensures.value at (c.in-Ok.ensures.ok _ c.loop-text.invariant.has.has)));
      number = omega (arith, c.loop-text.invariant.number);
    }

pub returns-in-Err-clause-bad : goal.returns-in-Err-clause-bad
returns-in-Err-clause-bad c =
    let i = c.loop-text.text-index in
    let has = c.loop-text.invariant.has in
    rw (c.numbered.ensures, bytes_split c.args.texts.now i c.text-item.result c.loop-text-test.true c.text-item.is)
    (tells_bad c.args.doc _ (map string_bytes (take i c.args.texts.now)) has.conditions _ (map string_bytes (drop (i + 1) c.args.texts.now)) c.in-Err.fault has.spelled (rw c.as_bytes.ensures.value at c.in-Err.ensures.refused)
    (omega (arith, c.loop-text.invariant.number, bytes_before c.args.texts.now i c.loop-text-test.true)))
