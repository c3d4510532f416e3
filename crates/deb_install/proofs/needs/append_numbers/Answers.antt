use Rattle.std.proofs.Common.{◌++◌, ap, ◌∙◌}
use Rattle.std.specs.List.{flat_map}
use Rattle.std.proofs.lemmas.List.{take_all}
use Rattle.deb_health.proofs.Exclusions.{one-more}
use Rattle.deb_install.proofs.Excluded.{alone, each-alone}
use Rattle.deb_install.proofs.needs.append_numbers.Goals as goal

pub loop-number-preserved : goal.loop-number-preserved
loop-number-preserved c =
    one-more alone c.args.numbers.now c.loop-number.number-index _ c.args.row.now.items c.loop-number.row.items c.push_number.new.out.items c.loop-number-test.true c.loop-number.invariant c.in_ok-push_number.ensures

pub returns : goal.returns
returns c =
    c.loop-number.invariant
    ∙ ap (λ ks. c.args.row.now.items ++ flat_map alone ks) (take_all c.loop-number.number-index c.args.numbers.now c.loop-number-test.false)
    ∙ ap (λ l. c.args.row.now.items ++ l) (each-alone c.args.numbers.now)
