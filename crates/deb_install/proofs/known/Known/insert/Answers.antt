use Rattle.deb_index.proofs.Lookups.{updated}
use Rattle.deb_install.proofs.Noted.{notes-by}
use Rattle.deb_install.proofs.known.Known.insert.Goals as goal

pub returns : goal.returns
returns c =
    let numbers = updated c.in_ok-from_slice.field-0.items c.args.self.now.numbers c.insert.new.self c.args.number c.in_ok-insert.ensures.updates in
    notes-by c.args.text.now c.args.number c.args.self.now (record { numbers = c.insert.new.self }) (rw c.in_ok-from_slice.ensures.items at numbers)
