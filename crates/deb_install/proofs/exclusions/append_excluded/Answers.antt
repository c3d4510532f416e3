use Rattle.std.proofs.Common.{◌++◌, ap, ◌∙◌}
use Rattle.std.specs.List.{flat_map}
use Rattle.std.proofs.lemmas.List.{take_all}
use Rattle.deb_relation.specs.Views.{alternative_of}
use Rattle.deb_index.specs.Indexes.{packages_of}
use Rattle.deb_index.specs.Meeting.{meets_by_name}
use Rattle.deb_index.specs.Named.{numbers_of}
use Rattle.deb_health.specs.Excluding.{excludes, is_other}
use Rattle.deb_health.proofs.Exclusions.{lines-passing, lines_if, one-more}
use Rattle.deb_install.proofs.Excluded.{alone, each-alone}
use Rattle.deb_install.proofs.exclusions.append_excluded.Goals as goal

pub loop-number-preserved : goal.loop-number-preserved
loop-number-preserved c =
    let excluding = c.args.excluding.now in
    let packages = packages_of excluding.index.now in
    let test = is_other excluding.target.now excluding.name.now (alternative_of c.args.alternative.now).qualifier in
    one-more (lines_if test packages alone) c.args.numbers.now c.loop-number.number-index _ c.args.out.now.items c.loop-number.out.items c.append_if_other.new.out.items c.loop-number-test.true c.loop-number.invariant
    (rw c.qualifier.ensures at c.in_ok-append_if_other.ensures)

pub returns : goal.returns
returns c = λ are.
    let excluding = c.args.excluding.now in
    let packages = packages_of excluding.index.now in
    let a = alternative_of c.args.alternative.now in
    let test = is_other excluding.target.now excluding.name.now a.qualifier in
    c.loop-number.invariant
    ∙ ap (λ ks. c.args.out.now.items ++ flat_map (lines_if test packages alone) ks) (take_all c.loop-number.number-index c.args.numbers.now c.loop-number-test.false ∙ are)
    ∙ ap (λ l. c.args.out.now.items ++ l) (lines-passing (meets_by_name a) test packages alone ∙ each-alone (numbers_of (excludes excluding.target.now excluding.name.now a) packages))
