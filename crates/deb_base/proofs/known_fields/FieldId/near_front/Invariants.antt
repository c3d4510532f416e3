use Rattle.std.proofs.Common.{◌-◌}
use Rattle.deb_base.proofs.known_fields.FieldId.near_front.Given as goal

abbrev pub decreases-loop-row : goal.decreases-loop-row
decreases-loop-row l = l.rows.1 - l.row
