use Rattle.std.proofs.Common.{◌+◌, refl, subst}
use Rattle.std.proofs.lemmas.Bool.{false≢true}
use Rattle.deb_install.specs.Universes.{IsBuilt, setting_of}
use Rattle.deb_install.proofs.Universes.{all-held, rows-more}
use Rattle.deb_install.proofs.universe.append_packages.Goals as goal

pub loop-count-init : goal.loop-count-init
loop-count-init c = λ meaning holds rows numbers. record { built = rows; numbers = numbers }

pub loop-count-preserved : goal.loop-count-preserved
loop-count-preserved c = λ meaning holds rows numbers.
    let so_far = c.loop-count.invariant meaning holds rows numbers in
    rows-more (setting_of c.args.listing.now meaning) meaning c.args.kept.now c.loop-count.count (c.loop-count.count + 1) c.index-kept-count.result c.args.shared.now c.loop-count.building c.append_package.new.building c.loop-count-test.true c.index-kept-count.is refl holds
    (λ fields values member. c.in_ok-append_package.ensures meaning fields values member so_far.built.known so_far.numbers) so_far

pub returns-then-is_too_large : goal.returns-then-is_too_large
returns-then-is_too_large c = λ meaning holds rows numbers whole. absurd (false≢true whole)

pub returns : goal.returns
returns c = λ meaning holds rows numbers whole.
    let building = c.loop-count.building in
    subst (λ m. IsBuilt (setting_of c.args.listing.now meaning) m building) (all-held meaning c.args.kept.now c.loop-count.count c.loop-count-test.false holds)
    (c.loop-count.invariant meaning holds rows numbers).built
