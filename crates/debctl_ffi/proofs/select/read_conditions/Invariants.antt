use Rattle.debctl_ffi.specs.Select.{HasTexts}
use Rattle.debctl_ffi.proofs.FirstTexts.{first_texts}
use Rattle.debctl_ffi.proofs.select.read_conditions.Given as goal

abbrev pub invariant-loop-place : goal.invariant-loop-place
invariant-loop-place l = HasTexts l.kind l.negated (first_texts l.place l.texts) l.selection
