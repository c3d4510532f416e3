use Rattle.std.proofs.Common.{◌<◌, ◌≤◌, ◌+◌, map, refl, subst}
use Rattle.deb_index.specs.Indexes.{packages_of}
use Rattle.deb_install.specs.Answers.{answer_at, names_in}
use Rattle.deb_install.specs.Explaining.{reason_of}
use Rattle.deb_install.specs.ReasonLines.{explained_line, reason_lines}
use Rattle.deb_install.specs.Universes.{setting_of}
use Rattle.deb_install.proofs.ExplainedLines.{all-explained, both-at, more-explained, none-explained}
use Rattle.deb_install.proofs.explaining.explained_lines.Goals as goal

pub loop-count-init : goal.loop-count-init
loop-count-init c = λ meaning holds. none-explained _ _ _ _ c.new-text.ensures.items

pub loop-count-preserved : goal.loop-count-preserved
loop-count-preserved c = λ meaning holds.
    let explaining = c.args.explaining.now in
    let names = names_in explaining.names in
    let packages = packages_of explaining.listing.now.index.now in
    let answer = answer_at c.args.every.now c.args.one.now in
    let reasons = map (reason_of (setting_of explaining.listing.now meaning) explaining.universe.now) in
    let more = c.in_ok-append_explained.ensures meaning holds in
    let number = c.loop-count.count + 1 in
    more-explained explaining.universe.now (λ found p. explained_line names packages (answer p.0) (reasons found) p) packages c.loop-count.count number c.loop-count.text.items c.append_explained.new.out.items more.found
    (subst (λ n. c.loop-count.count < n) c.len-count-end.ensures c.loop-count-test.true) refl (c.loop-count.invariant meaning holds) more.explain
    (both-at names packages (answer number) (reason_lines packages (answer number) (reasons more.found)) number c.loop-count.text.items c.append_answer.new.out.items c.append_explained.new.out.items
    (rw c.answer_at-answer.ensures at c.in_ok-append_answer.ensures) (rw c.answer_at-answer.ensures at more.appended))

pub returns : goal.returns
returns c = λ meaning holds.
    let explaining = c.args.explaining.now in
    let so_far = c.loop-count.invariant meaning holds in
    record {
      found = so_far.found;
      explain = so_far.explain;
      is = all-explained explaining.universe.now _ (packages_of explaining.listing.now.index.now) c.loop-count.count c.loop-count.text.items
          (subst (λ n. n ≤ c.loop-count.count) c.len-count-end.ensures c.loop-count-test.false) so_far;
    }
