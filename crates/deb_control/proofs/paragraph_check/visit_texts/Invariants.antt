use Rattle.deb_control.proofs.Common.{Any, fields_of}
use Rattle.deb_control.proofs.Visited.{HasVisited}
use Rattle.deb_control.proofs.paragraph_check.visit_texts.Given as goal

abbrev pub invariant-loop-index : goal.invariant-loop-index
invariant-loop-index g l = HasVisited g.V.FieldVisitor.Visited l.visitor Any (fields_of l.paragraph) l.length l.index
