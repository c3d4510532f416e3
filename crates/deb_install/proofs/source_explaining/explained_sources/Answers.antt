use Rattle.std.proofs.Common.{◌≡◌, ◌+◌, ◌++◌, length, map, ap, sym, ◌∙◌, subst, arith}
use Rattle.deb_control.proofs.GivenValues.{pairwise-length}
use Rattle.deb_index.specs.Indexes.{packages_of}
use Rattle.deb_install.specs.Answers.{answer_at}
use Rattle.deb_install.specs.KeptSources.{HoldsSource}
use Rattle.deb_install.specs.SourceAnswers.{source_line}
use Rattle.deb_install.specs.SourceExplaining.{setting_for, source_reason_of, universe_for}
use Rattle.deb_install.specs.SourceReasonLines.{each_source, explained_source}
use Rattle.deb_install.specs.declared.kept_source.KeptSource.{KeptSource}
use Rattle.deb_install.proofs.ExplainedSources.{both-lines, more-explained, none-explained}
use Rattle.deb_install.proofs.NextOf.{all-of, next-of}
use Rattle.deb_install.proofs.source_explaining.explained_sources.Goals as goal

pub loop-count-init : goal.loop-count-init
loop-count-init c = λ kind meaning others holds. none-explained _ _ _ _ _ c.new-text.ensures.items

pub loop-count-preserved : goal.loop-count-preserved
loop-count-preserved c = λ kind meaning others holds.
    let explaining = c.args.explaining.now in
    let u = universe_for explaining in
    let packages = packages_of explaining.packages.now.listing.now.index.now in
    let answer = answer_at c.args.every.now c.args.one.now in
    let reasons = map (source_reason_of (setting_for explaining meaning) others u) in
    let all = explaining.sources.now in
    let n = c.loop-count.count in
    let source = c.index-explaining-count.result in
    let more = c.in_ok-append_explained.ensures kind meaning others holds in
    let long = pairwise-length (HoldsSource kind) others all holds.sources in
    let next = next-of (HoldsSource kind) others all n source c.loop-count-test.true c.index-explaining-count.is holds.sources in
    more-explained u (length packages) (λ found k. explained_source kind packages others (answer k) (reasons found) k) others n next.x c.loop-count.text.items c.append_explained.new.out.items more.found
    (omega (arith, c.loop-count-test.true, long)) next.taken (c.loop-count.invariant kind meaning others holds) more.explain
    (both-lines kind packages others (answer n) (reasons more.found) n next.x source c.loop-count.text.items c.append_answer.new.out.items c.append_explained.new.out.items next.related
    (subst (λ (kept : KeptSource). c.append_answer.new.out.items ≡ c.loop-count.text.items ++ source_line (answer n) (n + 1) kept.name.items kept.version.items) (sym c.index-explaining-count.is) (rw c.answer_at-answer.ensures at c.in_ok-append_answer.ensures))
    (rw c.answer_at-answer.ensures at more.appended))

pub returns : goal.returns
returns c = λ kind meaning others holds.
    let explaining = c.args.explaining.now in
    let so_far = c.loop-count.invariant kind meaning others holds in
    let packages = packages_of explaining.packages.now.listing.now.index.now in
    let reasons = map (source_reason_of (setting_for explaining meaning) others (universe_for explaining)) in
    record {
      found = so_far.found;
      explain = so_far.explain;
      is = so_far.is
          ∙ ap (each_source (λ k. explained_source kind packages others (answer_at c.args.every.now c.args.one.now k) (reasons (so_far.found k)) k) 0)
          (all-of (HoldsSource kind) others explaining.sources.now c.loop-count.count c.loop-count-test.false holds.sources);
    }
