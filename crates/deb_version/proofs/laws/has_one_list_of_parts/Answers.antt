use Rattle.deb_version.proofs.Common.{subst, sym, HasParts, has_parts, one_parts}
use Rattle.deb_version.proofs.laws.has_one_list_of_parts.Goals as goal

pub returns : goal.returns
returns c = λ text parts. (one_parts text parts, λ is. subst (HasParts text) (sym is) (has_parts text))
