use Rattle.std.proofs.Common.{sym}
use Rattle.deb_install.proofs.witnesses.append_member.Goals as goal

pub returns-in-Some : goal.returns-in-Some
returns-in-Some c = rw (sym c.in-Some.ensures.listed, sym c.is_marked.ensures) c.append_if_marked.ensures
