use Rattle.std.proofs.Common.{◌∙◌, sym, subst, ap, length}
use Rattle.deb_index.specs.Indexes.{packages_of}
use Rattle.deb_index.proofs.Offered.{on_ok}
use Rattle.deb_install.specs.Known.{IsRowOf}
use Rattle.deb_install.proofs.Noted.{appended-known, known-noted, knows-grown, only-number}
use Rattle.deb_install.proofs.needs.append_new.Goals as goal

pub returns-in-Some : goal.returns-in-Some
returns-in-Some c = λ usual environment knows g regular is.
    let needing = c.args.needing.now in
    let packages = packages_of needing.index.now in
    let old = c.args.groups.now.rows in
    let new = c.append_group.new.groups.rows in
    let appends = c.in_ok-append_group.ensures in
    let number = c.in-Some.number in
    on_ok
    (λ notes. record {
      appends = appends g regular is;
      knows = record {
        is = knows.is;
        are = known-noted needing.readings environment packages new c.args.group.now number c.args.known.now c.insert.new.self notes
            (λ other good text. subst (λ e. IsRowOf needing.readings e packages new number other) (knows.is usual)
            (only-number old new c.args.out.now.items c.append_group.new.out.items _ number (λ first more whole long. c.in-Some.ensures first more (c.deref.ensures.value ∙ whole) (long ∙ sym (ap length c.as_slice-count.ensures.value))) (appends other good text)))
            (knows-grown needing environment old new c.args.known.now (appends g regular is).grows knows).are;
      };
    })
    c.insert.result c.insert.ensures

pub returns-in-None : goal.returns-in-None
returns-in-None c = λ usual environment knows g regular is.
    appended-known c.args.needing.now environment c.args.groups.now.rows c.append_group.new.groups.rows c.args.known.now c.args.out.now.items c.append_group.new.out.items _ knows (c.in_ok-append_group.ensures g regular is)
