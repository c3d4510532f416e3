use Rattle.std.proofs.Common.{refl, inl, inr}
use Rattle.deb_base.specs.Kinds.{known_row}
use Rattle.deb_base.proofs.known_fields.required_fields.Goals as goal

pub returns-in-Binary : goal.returns-in-Binary
unfolding known_row
returns-in-Binary c = elim c.in-Binary.is [ inl e ↦ rw e refl | inr e ↦ rw e refl ]

pub returns-in-Source : goal.returns-in-Source
unfolding known_row
returns-in-Source c = rw c.in-Source.is refl

pub returns-in-Sources : goal.returns-in-Sources
unfolding known_row
returns-in-Sources c = rw c.in-Sources.is refl

pub returns-in-Status : goal.returns-in-Status
unfolding known_row
returns-in-Status c = rw c.in-Status.is refl
