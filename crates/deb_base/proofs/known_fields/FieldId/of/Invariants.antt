use Rattle.std.proofs.Common.{◌≡◌, ◌-◌, ◌<◌, ◌≤◌, ℕ, [], false, get_or}
use Rattle.std.specs.Str.{bytes_eq}
use Rattle.deb_base.specs.Kinds.{known_fields, row_count}
use Rattle.deb_base.specs.Names.{folded}
use Rattle.deb_base.specs.declared.kind.Kind.TheVariants.{Text}
use Rattle.deb_base.proofs.known_fields.FieldId.of.Given as goal

-- no row so far has the name
abbrev pub invariant-loop-row : goal.invariant-loop-row
invariant-loop-row l = record {
  within : l.row ≤ row_count;
  before : (k : ℕ) → k < l.row → bytes_eq (folded (get_or known_fields k ([], Text)).0) (folded l.name) ≡ false;
}

abbrev pub decreases-loop-row : goal.decreases-loop-row
decreases-loop-row l = row_count - l.row
