-- The last byte decides.
use Rattle.std.proofs.Common.{◌-◌, ◌∙◌, sym, length}
use Rattle.deb_rows.proofs.Cells.{at_last-colon, more_than_none}
use Rattle.deb_rows.proofs.cell.ends_with_colon.Goals as goal

pub returns-then-not-is_empty : goal.returns-then-not-is_empty
returns-then-not-is_empty c =
    let text = c.args.text.now in
    at_last-colon text (length text - 1) (more_than_none text (sym c.is_empty.ensures ∙ c.if-not-is_empty.true))
