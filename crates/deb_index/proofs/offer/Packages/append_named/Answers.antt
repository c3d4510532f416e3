-- An entry with a version is one more offer.
use Rattle.std.proofs.Common.{◌≡◌, ◌≤◌, ◌||◌, false, length, rules, sym, ap, ◌∙◌, arith}
use Rattle.std.specs.List.{list_any}
use Rattle.std.specs.Option.{option_map_or}
use Rattle.std.proofs.lemmas.List.{length-map, take_all}
use Rattle.deb_index.specs.Crowds.{passes}
use Rattle.deb_index.specs.Entries.{entry_version, version_kept}
use Rattle.deb_index.specs.Stores.{listed_by}
use Rattle.deb_index.proofs.Gathered.{all-named, none-more, one-more}
use Rattle.deb_index.proofs.offer.Packages.append_named.Goals as goal
use Rattle.deb_index.proofs.offer.Packages.append_named.Goals.{then-not-is_empty+in_ok-offset+in_ok-push, else-not-is_empty}

pub loop-index-preserved : goal.loop-index-preserved
loop-index-preserved c = λ test.
    let store = c.args.self.now.store.now in
    let r = c.index-record.result.now in
    let start = c.find-start.result.0 in
    let named = c.find-start.result.1.now in
    let within : c.args.number ≤ length store.records.items = omega (arith, c.requires.within, length-map store.records.items (listed_by store.bytes.items store.entries.items)) in
    let fits = rw c.provisions.ensures.entries at c.find-start.ensures.within in
    let place = rw c.provisions.ensures.entries at c.find-start.ensures.place in
    let so_far = c.loop-index.invariant test in
    let count : c.len.result ≡ length store.records.items = search rules in
    elim c.if-not-is_empty.branch [
      | then-not-is_empty+in_ok-offset+in_ok-push w ↦
          one-more store c.args.self.now.kept c.args.number r c.requires.from_one within (sym c.index-record.ensures) start named fits place test c.args.offers.now.items c.loop-index.offers.items c.loop-index.index c.loop-index-test.true
          c.if-not-is_empty.offers.items w.in_ok-offset.field-0 (ap (λ v. v.items) w.offers-is ∙ w.in_ok-push.ensures.items) (omega (arith, w.in_ok-offset.ensures, count)) so_far
      | else-not-is_empty w ↦
          ap (λ v. list_any (passes test store) v.items) w.offers-is
          ∙ none-more store c.args.self.now.kept c.args.number r c.requires.from_one within (sym c.index-record.ensures) start named fits place test c.args.offers.now.items c.loop-index.offers.items c.loop-index.index c.loop-index-test.true
          _ c.version.result.now (rw c.deref.ensures.value at c.version.ensures) (sym c.is_empty.ensures ∙ w.if-not-is_empty.false) so_far
    ]

pub returns : goal.returns
returns c = λ test.
    let store = c.args.self.now.store.now in
    let r = c.index-record.result.now in
    let start = c.find-start.result.0 in
    let named = c.find-start.result.1.now in
    let within : c.args.number ≤ length store.records.items = omega (arith, c.requires.within, length-map store.records.items (listed_by store.bytes.items store.entries.items)) in
    let fits = rw c.provisions.ensures.entries at c.find-start.ensures.within in
    let place = rw c.provisions.ensures.entries at c.find-start.ensures.place in
    let are = rw (c.provisions.ensures.entries, c.provisions.ensures.text) at c.find-start.ensures.value in
    c.loop-index.invariant test
    ∙ ap (λ es. list_any (passes test store) c.args.offers.now.items || list_any (λ e. option_map_or (test c.args.number) (version_kept (entry_version store.bytes.items e)) false) es) (take_all c.loop-index.index named c.loop-index-test.false)
    ∙ ap (λ b. list_any (passes test store) c.args.offers.now.items || b)
    (all-named store c.args.self.now.kept c.args.number r c.requires.from_one within (sym c.index-record.ensures) start named fits place c.args.name.now (test c.args.number) are)
