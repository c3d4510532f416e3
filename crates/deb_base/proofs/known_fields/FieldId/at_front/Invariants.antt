use Rattle.std.proofs.Common.{◌≡◌, ◌-◌, ◌<◌, ℕ, [], false, get_or}
use Rattle.deb_base.specs.Kinds.{known_fields, row_count}
use Rattle.deb_base.specs.KnownFields.{begins_with_row}
use Rattle.deb_base.specs.declared.kind.Kind.TheVariants.{Text}
use Rattle.deb_base.proofs.known_fields.FieldId.at_front.Given as goal

-- the line begins with the name of no row so far
abbrev pub invariant-loop-row : goal.invariant-loop-row
invariant-loop-row l = (k : ℕ) → k < row_count → k < l.row → begins_with_row l.line (get_or known_fields k ([], Text)) ≡ false

abbrev pub decreases-loop-row : goal.decreases-loop-row
decreases-loop-row l = l.rows.1 - l.row
