use Rattle.std.proofs.Common.{Ok, ap, refl, ◌∙◌}
use Rattle.std.proofs.lemmas.Result.{err_from_is_err_and}
use Rattle.deb_control.specs.Checking.{passing_seen}
use Rattle.deb_control.proofs.ShownSoFar.{shows-end, shows-next, shows-none, shows-refusal, shows-taken}
use Rattle.deb_latest.specs.Reads.{kind_of}
use Rattle.deb_latest.proofs.Reading.{all_given, none_given, one_given}
use Rattle.deb_latest.proofs.latest.Latest.read_on.Goals as goal

pub loop-count-init : goal.loop-count-init
loop-count-init g c =
    shows-none _ (none_given (kind_of c.args.self.now) c.args.self.now) (c.new-checked.ensures.doc ∙ c.doc.ensures) c.new-checked.ensures.sound c.new-checked.ensures.none (rw c.doc.ensures at c.new-checked.ensures.fits)

pub returns-in_err-advance-clause-refused : goal.returns-in_err-advance-clause-refused
returns-in_err-advance-clause-refused g c =
    let p = err_from_is_err_and c.from_residual.result c.from_residual.ensures.1 in
    rw (p.1, p.2) (shows-refusal c.loop-count.invariant (Unit {0}) c.in_err-advance.field-0.0 c.in_err-advance.ensures.passes.checks)

pub returns-in_err-advance-clause-reads_at_most : goal.returns-in_err-advance-clause-reads_at_most
returns-in_err-advance-clause-reads_at_most g c = shows-taken c.loop-count.invariant c.in_err-advance.ensures.passes.checks

pub returns-then-not-branch-clause-ok : goal.returns-then-not-branch-clause-ok
returns-then-not-branch-clause-ok g c = λ asked before text has told.
    let so_far = c.loop-count.invariant in
    all_given (kind_of c.args.self.now) c.args.self.now c.loop-count.self text so_far.given so_far.holds refl (shows-end so_far (rw c.if-not-branch.true at c.in_ok-advance.ensures.passes.checks) text told) asked before has

pub returns-then-not-branch-clause-reads_at_most : goal.returns-then-not-branch-clause-reads_at_most
returns-then-not-branch-clause-reads_at_most g c = shows-taken c.loop-count.invariant c.in_ok-advance.ensures.passes.checks

pub returns-in_err-add-clause-reads_at_most : goal.returns-in_err-add-clause-reads_at_most
returns-in_err-add-clause-reads_at_most g c = shows-taken c.loop-count.invariant c.in_ok-advance.ensures.passes.checks

pub loop-count-preserved : goal.loop-count-preserved
loop-count-preserved g c =
    let so_far = c.loop-count.invariant in
    let given = c.in_ok-advance.ensures.passes.given in
    let checks = rw c.if-not-branch.false at c.in_ok-advance.ensures.passes.checks in
    let visits = rw so_far.reads at c.in_ok-advance.ensures.passes.keeps (ap Ok c.if-not-branch.false) in
    shows-next so_far (passing_seen _ given) checks c.in_ok-advance.ensures.doc
    (one_given _ _ _ _ so_far.given _ given so_far.holds visits c.in_ok-add.ensures.kind c.in_ok-add.ensures.entries)
