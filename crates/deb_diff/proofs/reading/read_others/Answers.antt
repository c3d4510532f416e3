use Rattle.std.proofs.Common.{◌∙◌, [], refl, subst, Some, Global}
use Rattle.std.proofs.lemmas.Result.{err_from_is_err_and}
use Rattle.std.specs.Prelude.{Vec}
use Rattle.deb_control.specs.CheckedStates.{checked_state, passing_of}
use Rattle.deb_control.specs.Checking.{FitsChecked}
use Rattle.deb_control.proofs.ShownSoFar.{shows-end, shows-next, shows-none, shows-refusal, shows-taken}
use Rattle.deb_diff.specs.declared.kept.Kept.{Kept}
use Rattle.deb_diff.proofs.KeptValues.{given_values}
use Rattle.deb_diff.proofs.Sifted.{all_sifted, none_sifted, one_sifted}
use Rattle.deb_diff.proofs.reading.read_others.Goals as goal

pub loop-count-init : goal.loop-count-init
loop-count-init g c = record {
  shown = shows-none _ (λ others pool. rw c.new-kept.ensures.items (none_sifted _ others _ pool)) (c.new-checked.ensures.doc ∙ c.doc.ensures) c.new-checked.ensures.sound c.new-checked.ensures.none
      (λ text. subst (λ doc. FitsChecked doc text [] (checked_state c.new-checked.result) (Some text)) c.doc.ensures (c.new-checked.ensures.fits text));
  waits = refl;
}

pub returns-in_err-paragraph-clause-refused : goal.returns-in_err-paragraph-clause-refused
returns-in_err-paragraph-clause-refused g c = λ text told.
    let p = err_from_is_err_and c.from_residual.result c.from_residual.ensures.1 in
    let passes = rw c.in_err-paragraph.was at c.next.follows.holds-at-none in
    let so_far = c.loop-count.invariant.shown in
    rw (p.1, p.2) (shows-refusal so_far (Vec Kept Global) c.in_err-paragraph.field-0.0 passes.0 text told)

pub returns-in_err-paragraph-clause-reads_at_most : goal.returns-in_err-paragraph-clause-reads_at_most
returns-in_err-paragraph-clause-reads_at_most g c = λ text told. shows-taken c.loop-count.invariant.shown c.next.follows.holds-at-none.0 text told

pub returns-in_default-clause-ok : goal.returns-in_default-clause-ok
returns-in_default-clause-ok g c = λ text others told pool.
    let so_far = c.loop-count.invariant.shown in
    let passes = rw (c.in_ok-paragraph.was, c.in_default.is) at c.next.follows.holds-at-none in
    all_sifted _ text others _ _ _ so_far.given (so_far.holds others pool) (shows-end so_far passes.0 text told)

pub returns-in_default-clause-reads_at_most : goal.returns-in_default-clause-reads_at_most
returns-in_default-clause-reads_at_most g c = λ text told. shows-taken c.loop-count.invariant.shown c.next.follows.holds-at-none.0 text told

pub returns-in_err-sift-clause-reads_at_most : goal.returns-in_err-sift-clause-reads_at_most
returns-in_err-sift-clause-reads_at_most g c = λ text told. shows-taken c.loop-count.invariant.shown c.next.follows.holds-at-none.0 text told

pub loop-count-preserved : goal.loop-count-preserved
loop-count-preserved g c =
    let so_far = c.loop-count.invariant.shown in
    let passes = rw (c.in_ok-paragraph.was, c.in-Some.is) at c.next.follows.holds-at-none in
    let doc = rw (c.in_ok-paragraph.was, c.in-Some.is) at c.next.ensures.doc in
    let given = given_values c.in-Some.paragraph _ (doc ∙ so_far.reads) in
    record {
      shown = shows-next so_far (passing_of c.in-Some.paragraph) passes.0 passes.1
          (λ others pool. let has = so_far.holds others pool in one_sifted _ others _ _ _ _ _ so_far.given c.loop-count.count given.values _ has so_far.numbered given.are (c.in_ok-sift.ensures.sifts given.values others given.has has.is_pool));
      waits = c.sift.ensures.waits ∙ c.loop-count.invariant.waits;
    }
