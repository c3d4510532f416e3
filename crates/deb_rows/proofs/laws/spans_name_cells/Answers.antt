use Rattle.deb_rows.proofs.Named.{spans_name_cells}
use Rattle.deb_rows.proofs.laws.spans_name_cells.Goals as goal

pub returns : goal.returns
returns c = spans_name_cells
