-- Why a text spells no relation: the first step of its reading that fails, with its offset in the
-- text. The order of the steps and the offsets are this project's.
use Rattle.std.specs.Prelude.{ℕ, List, Option, Some, None, Result, Ok, Err}
use Rattle.deb_relation.specs.declared.fault.Reason.{Reason}
use Rattle.deb_relation.specs.Meaning.{Relation}
use Rattle.deb_relation.specs.Reading.{relation_in}

abbrev pub fault_of : Result Relation (Reason × ℕ) → Option (Reason × ℕ)
fault_of (Ok m) = None
fault_of (Err fault) = Some fault

abbrev pub first_fault : List ℕ → Option (Reason × ℕ)
first_fault text = fault_of (relation_in text)
