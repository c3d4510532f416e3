use Rattle.std.proofs.Common.{◌≡◌, ◌+◌, ◌&&◌, [], Ok, Err, Some, refl, sym, ap, ◌∙◌, subst}
use Rattle.std.proofs.lemmas.Result.{err_from_is_err_and}
use Rattle.deb_control.specs.Checking.{FitsChecked, passing_seen}
use Rattle.deb_control.specs.CheckedStates.{checked_state}
use Rattle.deb_control.proofs.CheckedSoFar.{cut_off}
use Rattle.deb_control.proofs.ShownSoFar.{shows-end, shows-front, shows-front_next, shows-next, shows-none, shows-refused, shows-taken}
use Rattle.deb_relation.specs.Environments.{environment_of}
use Rattle.deb_unmet.specs.Asking.{asks_of}
use Rattle.deb_unmet.specs.Scopes.{scope_of}
use Rattle.deb_unmet.specs.declared.asking.Summary.{Summary}
use Rattle.deb_unmet.proofs.AskedFiles.{all_asked, asked_read, asked_refused, cut_after, failed_after, none_asked, one_asked, puts_lines}
use Rattle.deb_unmet.proofs.ParagraphLines.{given_texts}
use Rattle.deb_unmet.proofs.asking.unmet.Goals as goal
use Rattle.deb_unmet.proofs.asking.unmet.Goals.{then-is_empty, else-is_empty}

pub loop-count-init : goal.loop-count-init
loop-count-init g c = record {
  shown = shows-none _ (none_asked _ _) (c.new-checked.ensures.doc ∙ c.doc.ensures) c.new-checked.ensures.sound c.new-checked.ensures.none
      (λ text. subst (λ doc. FitsChecked doc text [] (checked_state c.new-checked.result) (Some text)) c.doc.ensures (c.new-checked.ensures.fits text));
  writes = refl;
}

pub returns-in_err-advance-clause-refused : goal.returns-in_err-advance-clause-refused
returns-in_err-advance-clause-refused g c = λ text told.
    let p = err_from_is_err_and c.from_residual.result c.from_residual.ensures.1 in
    let so_far = c.loop-count.invariant.shown in
    rw (p.1, p.2) (asked_refused so_far.holds text c.in_err-advance.field-0.0 (shows-refused so_far Summary c.in_err-advance.field-0.0 c.in_err-advance.ensures.passes.checks text told))

pub returns-in_err-advance-clause-cut_off : goal.returns-in_err-advance-clause-cut_off
returns-in_err-advance-clause-cut_off g c = λ text told.
    let p = err_from_is_err_and c.from_residual.result c.from_residual.ensures.1 in
    let so_far = c.loop-count.invariant.shown in
    rw (p.1, p.2) (cut_off Summary c.in_err-advance.field-0.0 _ (asked_read so_far.holds text (shows-front so_far text told)))

pub returns-in_err-advance-clause-reads_at_most : goal.returns-in_err-advance-clause-reads_at_most
returns-in_err-advance-clause-reads_at_most g c = shows-taken c.loop-count.invariant.shown c.in_err-advance.ensures.passes.checks

pub returns-then-not-branch-clause-ok : goal.returns-then-not-branch-clause-ok
returns-then-not-branch-clause-ok g c = λ text told.
    let so_far = c.loop-count.invariant.shown in
    all_asked so_far.holds text c.loop-count.count so_far.numbered (shows-end so_far (rw c.if-not-branch.true at c.in_ok-advance.ensures.passes.checks) text told)

pub returns-then-not-branch-clause-reads_at_most : goal.returns-then-not-branch-clause-reads_at_most
returns-then-not-branch-clause-reads_at_most g c = shows-taken c.loop-count.invariant.shown c.in_ok-advance.ensures.passes.checks

pub returns-in_err-is_met-clause-cut_off : goal.returns-in_err-is_met-clause-cut_off
returns-in_err-is_met-clause-cut_off g c = λ text told.
    let p = err_from_is_err_and c.from_residual-in_err-is_met.result c.from_residual-in_err-is_met.ensures.1 in
    let so_far = c.loop-count.invariant.shown in
    let current = rw c.if-not-branch.false at c.in_ok-advance.ensures.passes.current in
    let visits = rw so_far.reads at c.in_ok-advance.ensures.passes.keeps (ap Ok c.if-not-branch.false) in
    let given = given_texts c.args.request c.of.result _ _ c.in-Some.view _ c.in-Some.ensures.seen current c.of.ensures.texts c.of.ensures.version visits in
    rw (p.1, p.2) (cut_after _ text _ _ _ _ c.in_err-is_met.field-0.0 (c.in_err-is_met.ensures.puts given.values given.has) (asked_read so_far.holds text (shows-front so_far text told)))

pub returns-in_err-is_met-clause-write : goal.returns-in_err-is_met-clause-write
returns-in_err-is_met-clause-write g c = λ text told.
    let p = err_from_is_err_and c.from_residual-in_err-is_met.result c.from_residual-in_err-is_met.ensures.1 in
    let so_far = c.loop-count.invariant.shown in
    let asks = asks_of c.args.request (environment_of c.args.question.now.environment.now) (scope_of c.args.question.now) in
    let seen = c.in_ok-advance.ensures.passes.given in
    let current = rw c.if-not-branch.false at c.in_ok-advance.ensures.passes.current in
    let visits = rw so_far.reads at c.in_ok-advance.ensures.passes.keeps (ap Ok c.if-not-branch.false) in
    let given = given_texts c.args.request c.of.result _ _ c.in-Some.view _ c.in-Some.ensures.seen current c.of.ensures.texts c.of.ensures.version visits in
    rw (p.1, p.2) (failed_after so_far.holds seen given.values given.are c.loop-count.count so_far.numbered text _ c.in_err-is_met.field-0.0 (puts_lines asks (c.loop-count.count + 1) seen.fields given.values _ (Err c.in_err-is_met.field-0.0) (g.W.Sink.held c.loop-count.writer) (g.W.Sink.held c.write_paragraph.new.writer) given.version (c.in_err-is_met.ensures.puts given.values given.has)) (shows-front_next so_far (passing_seen _ seen) (rw c.if-not-branch.false at c.in_ok-advance.ensures.passes.checks) text told))

pub returns-in_err-is_met-clause-reads_at_most : goal.returns-in_err-is_met-clause-reads_at_most
returns-in_err-is_met-clause-reads_at_most g c = shows-taken c.loop-count.invariant.shown c.in_ok-advance.ensures.passes.checks

pub loop-count-preserved : goal.loop-count-preserved
loop-count-preserved g c =
    let so_far = c.loop-count.invariant.shown in
    let asks = asks_of c.args.request (environment_of c.args.question.now.environment.now) (scope_of c.args.question.now) in
    let seen = c.in_ok-advance.ensures.passes.given in
    let current = rw c.if-not-branch.false at c.in_ok-advance.ensures.passes.current in
    let visits = rw so_far.reads at c.in_ok-advance.ensures.passes.keeps (ap Ok c.if-not-branch.false) in
    let given = given_texts c.args.request c.of.result _ _ c.in-Some.view _ c.in-Some.ensures.seen current c.of.ensures.texts c.of.ensures.version visits in
    let puts = puts_lines asks (c.loop-count.count + 1) seen.fields given.values _ (Ok c.in_ok-is_met.is_met) (g.W.Sink.held c.loop-count.writer) (g.W.Sink.held c.write_paragraph.new.writer) given.version (c.in_ok-is_met.ensures.puts given.values given.has) in
    let all_is : c.if-is_empty.is_empty ≡ (c.loop-count.is_empty && c.in_ok-is_met.is_met) =
    elim c.if-is_empty.branch [
      | then-is_empty w ↦ w.is_empty-is ∙ ap (λ b. b && c.in_ok-is_met.is_met) (sym w.if-is_empty.true)
      | else-is_empty w ↦ w.is_empty-is ∙ w.if-is_empty.false ∙ ap (λ b. b && c.in_ok-is_met.is_met) (sym w.if-is_empty.false)
    ] in
    record {
      shown = shows-next so_far (passing_seen _ seen) (rw c.if-not-branch.false at c.in_ok-advance.ensures.passes.checks) c.in_ok-advance.ensures.doc
          (one_asked so_far.holds seen given.values given.are c.loop-count.count so_far.numbered _ c.in_ok-is_met.is_met c.if-is_empty.is_empty puts all_is);
      writes = c.in_ok-is_met.ensures.counts_failure ∙ c.loop-count.invariant.writes;
    }
