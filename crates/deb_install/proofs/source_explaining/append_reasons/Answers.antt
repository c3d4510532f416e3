use Rattle.std.proofs.Common.{◌++◌, ap, ◌∙◌}
use Rattle.deb_index.proofs.Offered.{on_ok}
use Rattle.deb_install.specs.SourceExplaining.{setting_for, source_fact_lines, universe_for}
use Rattle.deb_install.proofs.source_explaining.append_reasons.Goals as goal

pub returns : goal.returns
returns c = λ kind meaning others holds.
    let explaining = c.args.explaining.now in
    on_ok
    (λ is. record {
      found = c.in_ok-facts.facts.items;
      explain = c.in_ok-facts.ensures;
      appended = is ∙ ap (λ l. c.args.out.now.items ++ source_fact_lines kind (setting_for explaining meaning) others (universe_for explaining) l) c.deref.ensures.value;
    })
    c.append_source_facts.result (c.append_source_facts.ensures kind meaning others holds)
