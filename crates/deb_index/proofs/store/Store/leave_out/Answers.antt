-- What is left.
use Rattle.std.proofs.Common.{◌∙◌}
use Rattle.deb_relation.specs.Views.{names_of}
use Rattle.deb_index.specs.Stores.{line_by, spelling_by}
use Rattle.deb_index.proofs.LeftOut.{left_listed, left_seen}
use Rattle.deb_index.proofs.store.Store.leave_out.Goals as goal

pub returns-clause-listed : goal.returns-clause-listed
returns-clause-listed c =
    let store = c.args.self.now in
    c.in_ok-append_left.ensures.listed ∙ left_listed (names_of c.args.names.now) store.bytes.items store.entries.items store.records.items

pub returns-clause-lines : goal.returns-clause-lines
returns-clause-lines c =
    let store = c.args.self.now in
    c.in_ok-append_left.ensures.lines ∙ left_seen (names_of c.args.names.now) store.bytes.items store.entries.items line_by store.records.items

pub returns-clause-spellings : goal.returns-clause-spellings
returns-clause-spellings c =
    let store = c.args.self.now in
    c.in_ok-append_left.ensures.spellings ∙ left_seen (names_of c.args.names.now) store.bytes.items store.entries.items (spelling_by store.bytes.items) store.records.items
