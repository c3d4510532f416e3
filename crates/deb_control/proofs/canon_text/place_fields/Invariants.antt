use Rattle.deb_control.proofs.Common.{fields_of, ArePlaced}
use Rattle.deb_control.proofs.canon_text.place_fields.Given as goal

abbrev pub invariant-loop-index : goal.invariant-loop-index
invariant-loop-index l = ArePlaced (fields_of l.paragraph) 0 l.initial.rows → ArePlaced (fields_of l.paragraph) l.index l.rows
