use Rattle.std.proofs.Common.{◌++◌, ap, ◌∙◌}
use Rattle.deb_index.proofs.Offered.{on_ok}
use Rattle.deb_install.specs.Explaining.{fact_lines}
use Rattle.deb_install.specs.Universes.{setting_of}
use Rattle.deb_install.proofs.explaining.append_reasons.Goals as goal

pub returns : goal.returns
returns c = λ meaning holds.
    let explaining = c.args.explaining.now in
    let s = setting_of explaining.listing.now meaning in
    on_ok
    (λ is. record {
      found = c.in_ok-facts.facts.items;
      explain = c.in_ok-facts.ensures;
      appended = is ∙ ap (λ l. c.args.out.now.items ++ fact_lines s explaining.universe.now l) c.deref.ensures.value;
    })
    c.append_facts.result (c.append_facts.ensures meaning holds)
