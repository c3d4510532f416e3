use Rattle.std.proofs.Common.{sym}
use Rattle.deb_install.proofs.answer.append_answer.Goals as goal

pub returns-in-Some : goal.returns-in-Some
returns-in-Some c = rw (sym c.in-Some.ensures.listed) c.append_asked.ensures
