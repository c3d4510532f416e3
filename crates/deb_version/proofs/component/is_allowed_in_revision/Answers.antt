use Rattle.deb_version.proofs.Common.{◌≡◌, ℕ, ◌<◌, true, not, nat_eq, get_or, List, refl, arith, is_revision_byte}
use Rattle.deb_version.specs.declared.component.TheConstants.{KINDS}
use Rattle.deb_version.proofs.ByteTables.{agree_at, agree_below}
use Rattle.deb_version.proofs.component.is_allowed_in_revision.Goals as goal

from_table : (table : List ℕ) (b : ℕ) → b < 256 → agree_below (λ k. not (nat_eq (get_or table k 0) 0)) is_revision_byte 256 ≡ true
    → not (nat_eq (get_or table b 0) 0) ≡ is_revision_byte b
from_table table b lt h = agree_at _ _ 256 h b lt

pub returns : goal.returns
unfolding agree_below
returns c = from_table KINDS c.args.byte (omega arith) refl
