-- The package's number follows those of the packages before it.
use Rattle.std.proofs.Common.{map, take, sym, ap, ◌∙◌}
use Rattle.std.proofs.lemmas.List.{take_all}
use Rattle.deb_index.specs.Named.{has_name, numbers_of}
use Rattle.deb_index.specs.Stores.{listed_by}
use Rattle.deb_index.proofs.Counted.{numbers_step}
use Rattle.deb_index.proofs.names.Names.own.Goals as goal

pub loop-index-preserved : goal.loop-index-preserved
loop-index-preserved c =
    let store = c.args.store.now in
    record {
      lists = c.in_ok-put.ensures.lists;
      numbers = λ name.
          numbers_step (listed_by store.bytes.items store.entries.items) (has_name name) c.deref-record-items.result.now store.records.items c.loop-index.index _ _ _ c.loop-index-test.true
          c.deref-record-items.ensures.value (c.loop-index.invariant.numbers name) (rw c.name.ensures at c.in_ok-put.ensures.numbers name);
    }

pub returns : goal.returns
returns c = λ name.
    let store = c.args.store.now in
    let view = listed_by store.bytes.items store.entries.items in
    let all = c.deref-record-items.ensures.value in
    c.loop-index.invariant.numbers name
    ∙ ap (λ l. numbers_of (has_name name) (map view (take c.loop-index.index l))) (sym all)
    ∙ ap (λ l. numbers_of (has_name name) (map view l)) (take_all c.loop-index.index c.deref-record-items.result.now c.loop-index-test.false ∙ all)
