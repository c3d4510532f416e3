use Rattle.std.proofs.Common.{◌≡◌, ℕ, ◌<◌, true, not, nat_eq, get_or, List, refl, arith}
use Rattle.deb_version.proofs.ByteTables.{agree_at, agree_below}
use Rattle.deb_relation.specs.Reading.{is_in_name}
use Rattle.deb_relation.specs.declared.name_byte.TheConstants.{NAME_BYTES}
use Rattle.deb_relation.proofs.name_byte.is_in_name.Goals as goal

from_table : (table : List ℕ) (b : ℕ) → b < 256 → agree_below (λ k. not (nat_eq (get_or table k 0) 45)) is_in_name 256 ≡ true
    → not (nat_eq (get_or table b 0) 45) ≡ is_in_name b
from_table table b lt h = agree_at _ _ 256 h b lt

pub returns : goal.returns
unfolding agree_below
returns c = from_table NAME_BYTES c.args.byte (omega arith) refl
