use Rattle.std.proofs.Common.{◌≡◌, ◌++◌, ◌∷◌, [], Ok, Some, ap, subst, ◌∙◌, append_assoc}
use Rattle.std.proofs.lemmas.Result.{err_from_is_err_and}
use Rattle.deb_control.specs.CheckedStates.{passing_judged}
use Rattle.deb_control.specs.Checking.{passing_seen}
use Rattle.deb_control.proofs.ShownSoFar.{shows-end, shows-next, shows-none, shows-refusal, shows-taken}
use Rattle.deb_index.proofs.Indexed.{ReadGiven, keeps_members, none_read, stores_file}
use Rattle.deb_index.proofs.index.read_into.Goals as goal

pub loop-count-init : goal.loop-count-init
loop-count-init g c =
    let keeps = g.K.Keeper.Keeps c.args.members in
    shows-none (ReadGiven c.args.members keeps _ _ c.args.store.now c.args.store.now) (none_read c.args.members keeps c.args.keeper.now c.args.store.now c.requires.kept) (c.new-checked.ensures.doc ∙ c.doc.ensures) c.new-checked.ensures.sound c.new-checked.ensures.none (rw c.doc.ensures at c.new-checked.ensures.fits)

pub returns-in_err-advance-clause-refused : goal.returns-in_err-advance-clause-refused
returns-in_err-advance-clause-refused g c =
    let p = err_from_is_err_and c.from_residual.result c.from_residual.ensures.1 in
    rw (p.1, p.2) (shows-refusal c.loop-count.invariant (Unit {0}) c.in_err-advance.field-0.0 c.in_err-advance.ensures.passes.checks)

pub returns-in_err-advance-clause-reads_at_most : goal.returns-in_err-advance-clause-reads_at_most
returns-in_err-advance-clause-reads_at_most g c = shows-taken c.loop-count.invariant c.in_err-advance.ensures.passes.checks

pub returns-then-not-branch-clause-ok : goal.returns-then-not-branch-clause-ok
returns-then-not-branch-clause-ok g c = λ text told.
    let so_far = c.loop-count.invariant in
    let all = shows-end so_far (rw c.if-not-branch.true at c.in_ok-advance.ensures.passes.checks) text told in
    stores_file c.args.members text so_far.given _ _ all so_far.holds.keeps_given

pub returns-then-not-branch-clause-reads_at_most : goal.returns-then-not-branch-clause-reads_at_most
returns-then-not-branch-clause-reads_at_most g c = shows-taken c.loop-count.invariant c.in_ok-advance.ensures.passes.checks

pub returns-then-not-branch-clause-keeps : goal.returns-then-not-branch-clause-keeps
returns-then-not-branch-clause-keeps g c = λ text before told kept.
    let so_far = c.loop-count.invariant in
    let all = shows-end so_far (rw c.if-not-branch.true at c.in_ok-advance.ensures.passes.checks) text told in
    keeps_members c.args.members (λ given. g.K.Keeper.Keeps c.args.members _ (before ++ given)) text so_far.given _ _ all so_far.holds.keeps_given (so_far.holds.keeps before kept)

pub returns-in_err-keep_next-clause-reads_at_most : goal.returns-in_err-keep_next-clause-reads_at_most
returns-in_err-keep_next-clause-reads_at_most g c = shows-taken c.loop-count.invariant c.in_ok-advance.ensures.passes.checks

pub loop-count-preserved : goal.loop-count-preserved
loop-count-preserved g c =
    let so_far = c.loop-count.invariant in
    let given = c.in_ok-advance.ensures.passes.given in
    let checks = rw c.if-not-branch.false at c.in_ok-advance.ensures.passes.checks in
    let visits = rw so_far.reads at c.in_ok-advance.ensures.passes.keeps (ap Ok c.if-not-branch.false) in
    let current = rw c.if-not-branch.false at c.in_ok-advance.ensures.passes.current in
    let seen : Some (passing_judged c.in-Some.paragraph).seen ≡ Some given = c.in-Some.ensures.seen ∙ current in
    let same : (passing_judged c.in-Some.paragraph).seen ≡ given = cc in
    shows-next so_far (passing_seen _ given) checks c.in_ok-advance.ensures.doc
    (record {
      keeps_given = c.in_ok-keep_next.ensures.store _ so_far.given given visits same so_far.holds.keeps_given;
      files = c.in_ok-keep_next.ensures.files ∙ so_far.holds.files;
      keeps = λ before kept. subst (g.K.Keeper.Keeps c.args.members _) (append_assoc before so_far.given (given ∷ [])) (c.in_ok-keep_next.ensures.keeps (before ++ so_far.given) given visits same (so_far.holds.keeps before kept));
    })
