-- A cell that fits, with the text after it.
use Rattle.std.proofs.Common.{true, false, sym, refl, ◌∙◌}
use Rattle.deb_rows.proofs.Cells.{tests_cell}
use Rattle.deb_rows.proofs.cell.read_cell.Goals as goal
use Rattle.deb_rows.proofs.cell.read_cell.Goals.{else-fits-via-then-fits+else-starts_with, else-fits-via-else-fits}

pub returns-then-starts_with-clause-reads : goal.returns-then-starts_with-clause-reads
returns-then-starts_with-clause-reads c =
    sym (tests_cell c.args.class c.args.after.now c.args.text.now c.cell_length-length.result true true c.cell_length-length.ensures.cell (sym c.if-fits.true ∙ c.fits.ensures)
    (sym c.if-starts_with.true ∙ c.starts_with.ensures.value))

pub returns-else-fits-clause-reads : goal.returns-else-fits-clause-reads
returns-else-fits-clause-reads c = elim c.else-fits.branch [
  | else-fits-via-then-fits+else-starts_with w ↦
      sym (tests_cell c.args.class c.args.after.now c.args.text.now c.cell_length-length.result true false c.cell_length-length.ensures.cell (sym w.if-fits.true ∙ c.fits.ensures)
      (sym w.if-starts_with.false ∙ w.starts_with.ensures.value))
  | else-fits-via-else-fits w ↦
      sym (tests_cell c.args.class c.args.after.now c.args.text.now c.cell_length-length.result false _ c.cell_length-length.ensures.cell (sym w.if-fits.false ∙ c.fits.ensures) refl)
]
