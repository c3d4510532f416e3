use Rattle.deb_index.proofs.Offered.{on_ok}
use Rattle.deb_install.proofs.Noted.{appended-known}
use Rattle.deb_install.proofs.needs.append_known.Goals as goal

pub returns-then-not-needing : goal.returns-then-not-needing
returns-then-not-needing c = λ environment knows g regular is.
    on_ok (appended-known c.args.needing.now environment c.args.groups.now.rows c.append_group.new.groups.rows c.args.known.now c.args.out.now.items c.append_group.new.out.items _ knows)
    c.append_group.result (c.append_group.ensures g regular is)
