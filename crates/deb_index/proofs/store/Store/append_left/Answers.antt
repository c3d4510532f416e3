-- A package more, if it is left.
use Rattle.std.proofs.Common.{◌+◌, ◌++◌, length, map, sym, ap, ◌∙◌}
use Rattle.deb_relation.specs.Views.{names_of}
use Rattle.deb_index.specs.Renumbering.{with_number}
use Rattle.deb_index.proofs.LeftOut.{left_next, none_copied, out_next}
use Rattle.deb_index.proofs.store.Store.append_left.Goals as goal
use Rattle.deb_index.proofs.store.Store.append_left.Goals.{then-is_left+in_ok-append_package, else-is_left}

pub loop-record-init : goal.loop-record-init
loop-record-init c = none_copied c.args.self.now.bytes.items c.args.self.now.entries.items c.args.entries.now.items c.args.records.now.items c.requires.entries c.requires.records

pub loop-record-preserved : goal.loop-record-preserved
loop-record-preserved c =
    let store = c.args.self.now in
    let names = names_of c.args.names.now in
    let i = c.loop-record.record-index in
    let entries = c.loop-record.entries.items in
    let records = c.loop-record.records.items in
    let all = c.deref-record-items.ensures.value in
    let within = rw all at c.loop-record-test.true in
    elim c.if-is_left.branch [
      | then-is_left+in_ok-append_package w ↦
          let appended = w.in_ok-append_package.ensures.entries ∙ ap (λ own. entries ++ map (with_number (length records + 1)) own) w.entries.ensures in
          rw (w.entries-is, w.records-is)
          (left_next names store entries records i _ within c.loop-record.invariant c.requires.kept (rw all at (sym c.is_left.ensures ∙ w.if-is_left.true)) _ _
          (rw all at appended) (rw all at w.in_ok-append_package.ensures.records))
      | else-is_left w ↦
          rw (w.entries-is, w.records-is)
          (out_next names store entries records i _ within c.loop-record.invariant (rw all at (sym c.is_left.ensures ∙ w.if-is_left.false)))
    ]
