use Rattle.deb_syntax.proofs.Common.{row_count, refl, inl, false}
use Rattle.std.specs.Prelude.{replicate}
use Rattle.deb_syntax.proofs.NameIds.{none_set}
use Rattle.deb_syntax.proofs.seen_names.Names.new.Goals as goal

pub returns : goal.returns
returns c = λ text. record { known = λ row small. none_set (replicate row_count false) refl row; others = inl c.new.ensures.empty }
