use Rattle.std.proofs.Common.{Ok, Global, ap, ◌∙◌}
use Rattle.std.proofs.lemmas.Result.{err_from_is_err_and}
use Rattle.std.specs.Prelude.{Vec}
use Rattle.deb_control.specs.Checking.{passing_seen}
use Rattle.deb_control.proofs.ShownSoFar.{shows-end, shows-next, shows-none, shows-refusal, shows-taken}
use Rattle.deb_install.specs.declared.kept_source.KeptSource.{KeptSource}
use Rattle.deb_install.proofs.SourcesRead.{all_given, none_given, one_given}
use Rattle.deb_install.proofs.source_reading.read_sources.Goals as goal

pub loop-count-init : goal.loop-count-init
loop-count-init g c =
    shows-none _ (none_given c.args.kind _ c.new-sources.ensures.items) (c.new-checked.ensures.doc ∙ c.doc.ensures) c.new-checked.ensures.sound c.new-checked.ensures.none (rw c.doc.ensures at c.new-checked.ensures.fits)

pub returns-in_err-advance-clause-refused : goal.returns-in_err-advance-clause-refused
returns-in_err-advance-clause-refused g c =
    let p = err_from_is_err_and c.from_residual.result c.from_residual.ensures.1 in
    rw (p.1, p.2) (shows-refusal c.loop-count.invariant (Vec KeptSource Global) c.in_err-advance.field-0.0 c.in_err-advance.ensures.passes.checks)

pub returns-in_err-advance-clause-reads_at_most : goal.returns-in_err-advance-clause-reads_at_most
returns-in_err-advance-clause-reads_at_most g c = shows-taken c.loop-count.invariant c.in_err-advance.ensures.passes.checks

pub returns-then-not-branch-clause-ok : goal.returns-then-not-branch-clause-ok
returns-then-not-branch-clause-ok g c = λ text told.
    let so_far = c.loop-count.invariant in
    all_given c.args.kind text _ so_far.given so_far.holds (shows-end so_far (rw c.if-not-branch.true at c.in_ok-advance.ensures.passes.checks) text told)

pub returns-then-not-branch-clause-reads_at_most : goal.returns-then-not-branch-clause-reads_at_most
returns-then-not-branch-clause-reads_at_most g c = shows-taken c.loop-count.invariant c.in_ok-advance.ensures.passes.checks

pub loop-count-preserved : goal.loop-count-preserved
loop-count-preserved g c =
    let so_far = c.loop-count.invariant in
    let given = c.in_ok-advance.ensures.passes.given in
    let checks = rw c.if-not-branch.false at c.in_ok-advance.ensures.passes.checks in
    let visits = rw so_far.reads at c.in_ok-advance.ensures.passes.keeps (ap Ok c.if-not-branch.false) in
    shows-next so_far (passing_seen _ given) checks c.in_ok-advance.ensures.doc
    (one_given c.args.kind _ _ so_far.given _ given _ so_far.holds visits c.in_ok-of.ensures c.in_ok-push.ensures.items)

pub returns-in_err-of-clause-reads_at_most : goal.returns-in_err-of-clause-reads_at_most
returns-in_err-of-clause-reads_at_most g c = shows-taken c.loop-count.invariant c.in_ok-advance.ensures.passes.checks

pub returns-in_err-push-clause-reads_at_most : goal.returns-in_err-push-clause-reads_at_most
returns-in_err-push-clause-reads_at_most g c = shows-taken c.loop-count.invariant c.in_ok-advance.ensures.passes.checks
