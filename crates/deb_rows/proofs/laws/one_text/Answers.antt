use Rattle.deb_rows.proofs.Same.{one_text}
use Rattle.deb_rows.proofs.laws.one_text.Goals as goal

pub returns : goal.returns
returns c = one_text
