-- One cell more, or none.
use Rattle.std.proofs.Common.{◌∙◌, sym, ap, length, arith, length-drop, length-set}
use Rattle.std.specs.Option.{option_map}
use Rattle.std.proofs.lemmas.List.{take_rest}
use Rattle.deb_rows.specs.Reads.{found}
use Rattle.deb_rows.proofs.Steps.{cell_read, no_cell_read}
use Rattle.deb_rows.proofs.line.read_cells.Goals as goal

pub returns-in_default : goal.returns-in_default
returns-in_default c =
    ap (option_map (found c.args.kind))
    (sym (no_cell_read c.pieces_of-pieces.result.now c.args.text.now c.loop-i.at c.loop-i.i c.loop-i.cells _ c.loop-i-test.true c.in_default.ensures.reads) ∙ c.loop-i.invariant.left)

pub loop-i-preserved : goal.loop-i-preserved
loop-i-preserved c = record {
  within =
      let text = c.args.text.now in
      let at = c.loop-i.at in
      let rest = ap length (take_rest text at) ∙ length-drop at text in
      omega (arith, c.in-Some.ensures.within, rest, c.loop-i.invariant.within);
  ten = length-set c.loop-i.cells c.loop-i.i _ ∙ c.loop-i.invariant.ten;
  left =
      sym (cell_read c.pieces_of-pieces.result.now c.args.text.now c.loop-i.at c.loop-i.i c.loop-i.cells _ c.in-Some.length c.loop-i-test.true c.in-Some.ensures.reads)
      ∙ c.loop-i.invariant.left;
}
