use Rattle.std.proofs.Common.{◌++◌, ◌&&◌, Bool, [], ltb, not, ap, ◌∙◌}
use Rattle.std.specs.List.{filter, flat_map}
use Rattle.std.specs.Option.{option_map_or}
use Rattle.std.proofs.lemmas.List.{take_all}
use Rattle.deb_index.specs.Indexes.{packages_of}
use Rattle.deb_index.specs.Kept.{listed_of}
use Rattle.deb_index.specs.Listed.{Listed}
use Rattle.deb_index.specs.Named.{has_name, numbers_of}
use Rattle.deb_health.specs.Together.{are_together, rules_out}
use Rattle.deb_health.proofs.Duplicates.{lines-behind, lines_behind}
use Rattle.deb_health.proofs.Exclusions.{one-more}
use Rattle.deb_install.proofs.Excluded.{alone, each-alone}
use Rattle.deb_install.proofs.exclusions.append_duplicates.Goals as goal

pub loop-number-preserved : goal.loop-number-preserved
loop-number-preserved c =
    let original = c.args.original.now in
    let packages = packages_of original.index.now in
    let p = listed_of c.in-Some.«package» in
    let test : Listed → Bool = λ q. not (are_together original.target.now p q) in
    one-more (lines_behind original.number test packages alone) c.packages-number-items.result.now c.loop-number.number-index _ c.args.out.now.items c.loop-number.out.items c.append_if_duplicate.new.out.items c.loop-number-test.true c.loop-number.invariant c.in_ok-append_if_duplicate.ensures

pub returns : goal.returns
returns c =
    let original = c.args.original.now in
    let packages = packages_of original.index.now in
    let p = listed_of c.in-Some.«package» in
    let test : Listed → Bool = λ q. not (are_together original.target.now p q) in
    let n = original.number in
    c.loop-number.invariant
    ∙ ap (λ ks. c.args.out.now.items ++ flat_map (lines_behind n test packages alone) ks) (take_all c.loop-number.number-index c.packages-number-items.result.now c.loop-number-test.false ∙ c.packages-number-items.ensures ∙ ap (λ name. numbers_of (has_name name) packages) c.name.ensures)
    ∙ ap (λ l. c.args.out.now.items ++ l) (lines-behind n (has_name p.name) test packages alone ∙ each-alone (filter (λ k. ltb n k) (numbers_of (λ q. has_name p.name q && test q) packages)))
    ∙ ap (λ o. c.args.out.now.items ++ option_map_or (λ q. filter (λ other. ltb n other) (numbers_of (rules_out original.target.now q) packages)) o []) c.in-Some.ensures.listed
