use Rattle.deb_install.specs.SourceExplaining.{setting_for, source_reason_of, universe_for}
use Rattle.deb_install.specs.SourceReasonLines.{source_reason_line}
use Rattle.deb_install.proofs.SourceFactLines.{fact-more}
use Rattle.deb_install.proofs.source_reason_lines.append_source_facts.Goals as goal

pub loop-fact-preserved : goal.loop-fact-preserved
loop-fact-preserved c = λ kind meaning others holds.
    let s = setting_for c.args.explaining.now meaning in
    let u = universe_for c.args.explaining.now in
    fact-more (λ fact. source_reason_line kind s.packages others (source_reason_of s others u fact)) c.args.facts.now c.loop-fact.fact-index _ c.args.out.now.items c.loop-fact.out.items c.append_source_fact.new.out.items c.loop-fact-test.true
    (c.in_ok-append_source_fact.ensures kind meaning others holds) (c.loop-fact.invariant kind meaning others holds)
