-- The sort moves what was joined, and `dedup` keeps one of each.
use Rattle.std.proofs.Common.{◌≡◌, ◌++◌, ap, ◌∙◌, sym, eqb}
use Rattle.std.proofs.lemmas.List.Filters.{dedup_is}
use Rattle.std.proofs.lemmas.List.Folds.{list_any-append}
use Rattle.deb_index.specs.Indexes.{packages_of}
use Rattle.deb_index.specs.Named.{among, has_name, numbers_of, provides}
use Rattle.deb_index.specs.Why.{has_or_provides}
use Rattle.deb_index.proofs.Merged.{among-either, merged}
use Rattle.deb_index.proofs.by_name.numbers_under.Goals as goal

pub returns : goal.returns
returns c =
    let packages = packages_of c.args.index.now in
    let name = c.args.name.now in
    let own = numbers_of (has_name name) packages in
    let given = numbers_of (provides name) packages in
    let joined : c.extend_from_slice.new.self.items ≡ own ++ given = c.in_ok-extend_from_slice.ensures.items ∙ ap (λ l. l ++ c.providers.result.now) (c.in_ok-numbers.ensures.items ∙ c.packages.ensures) ∙ ap (λ l. own ++ l) c.providers.ensures in
    dedup_is _ _ _ c.dedup.ensures.filtered
    ∙ merged c.extend_from_slice.new.self.items c.sort_unstable.new.self.items (has_or_provides name) packages c.sort_unstable.ensures.permutation c.sort_unstable.ensures.sorted
    (λ k. ap (among k) joined ∙ list_any-append (eqb k) own given ∙ sym (among-either k 1 (has_name name) (provides name) packages))
