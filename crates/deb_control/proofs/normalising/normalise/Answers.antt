use Rattle.deb_control.proofs.Common.{◌∙◌, ℕ, refl, Appends-nil, err_from_is_err_and, passing_of}
use Rattle.deb_control.proofs.CheckedSoFar.{cut_off}
use Rattle.deb_control.proofs.ShownSoFar.{shows-end, shows-front, shows-front_next, shows-next, shows-none, shows-refused, shows-taken}
use Rattle.deb_control.proofs.WrittenSoFar.{writes_canonical, writes_read, writes_refused, text_passing, written_front, written_more}
use Rattle.deb_control.proofs.normalising.normalise.Goals as goal

pub loop-count-init : goal.loop-count-init
loop-count-init g c = record {
  shown = shows-none _ (Appends-nil _) c.new-checked.ensures.doc c.new-checked.ensures.sound c.new-checked.ensures.none c.new-checked.ensures.fits;
  writes = refl;
}

pub returns-in_err-paragraph-clause-refused : goal.returns-in_err-paragraph-clause-refused
returns-in_err-paragraph-clause-refused g c = λ text told.
    let p = err_from_is_err_and c.from_residual.result c.from_residual.ensures.1 in
    let so_far = c.loop-count.invariant.shown in
    let passes = rw c.in_err-paragraph.was at c.next.follows.holds-at-none in
    rw (p.1, p.2) (writes_refused ℕ _ text so_far.given _ _ c.in_err-paragraph.field-0.0 so_far.holds (shows-refused so_far ℕ c.in_err-paragraph.field-0.0 passes.0 text told))

pub returns-in_err-paragraph-clause-cut_off : goal.returns-in_err-paragraph-clause-cut_off
returns-in_err-paragraph-clause-cut_off g c = λ text told.
    let p = err_from_is_err_and c.from_residual.result c.from_residual.ensures.1 in
    let so_far = c.loop-count.invariant.shown in
    rw (p.1, p.2) (cut_off ℕ c.in_err-paragraph.field-0.0 _ (writes_read so_far.holds (shows-front so_far text told)))

pub returns-in_default-clause-ok : goal.returns-in_default-clause-ok
returns-in_default-clause-ok g c = λ text told.
    let so_far = c.loop-count.invariant.shown in
    let passes = rw (c.in_ok-paragraph.was, c.in_default.is) at c.next.follows.holds-at-none in
    writes_canonical so_far.holds c.loop-count.count so_far.numbered (shows-end so_far passes.0 text told)

pub returns-in_err-put_pieces-clause-write : goal.returns-in_err-put_pieces-clause-write
returns-in_err-put_pieces-clause-write g c = λ text told.
    let p = err_from_is_err_and c.from_residual-in_err-put_pieces.result c.from_residual-in_err-put_pieces.ensures.1 in
    let so_far = c.loop-count.invariant.shown in
    let passes = rw (c.in_ok-paragraph.was, c.in-Some.is) at c.next.follows.holds-at-none in
    let doc = rw (c.in_ok-paragraph.was, c.in-Some.is) at c.next.ensures.doc in
    let passing = text_passing c.in-Some.paragraph _ _ (doc ∙ so_far.reads) c.canonical_text.ensures in
    rw (p.1, p.2, c.in_err-put_pieces.ensures.fault) (written_front _ text so_far.given _ _ c.loop-count.count _ _ _ so_far.numbered passing so_far.holds (rw c.separator.ensures at c.in_err-put_pieces.ensures.written) (shows-front_next so_far (passing_of c.in-Some.paragraph) passes.0 text told))

pub returns-in_err-paragraph-clause-reads_at_most : goal.returns-in_err-paragraph-clause-reads_at_most
returns-in_err-paragraph-clause-reads_at_most g c = shows-taken c.loop-count.invariant.shown c.next.follows.holds-at-none.0

pub returns-in_default-clause-reads_at_most : goal.returns-in_default-clause-reads_at_most
returns-in_default-clause-reads_at_most g c = shows-taken c.loop-count.invariant.shown c.next.follows.holds-at-none.0

pub returns-in_err-put_pieces-clause-reads_at_most : goal.returns-in_err-put_pieces-clause-reads_at_most
returns-in_err-put_pieces-clause-reads_at_most g c = shows-taken c.loop-count.invariant.shown c.next.follows.holds-at-none.0

pub loop-count-preserved : goal.loop-count-preserved
loop-count-preserved g c =
    let so_far = c.loop-count.invariant.shown in
    let passes = rw (c.in_ok-paragraph.was, c.in-Some.is) at c.next.follows.holds-at-none in
    let doc = rw (c.in_ok-paragraph.was, c.in-Some.is) at c.next.ensures.doc in
    let passing = text_passing c.in-Some.paragraph _ _ (doc ∙ so_far.reads) c.canonical_text.ensures in
    record {
      shown = shows-next so_far (passing_of c.in-Some.paragraph) passes.0 passes.1 (written_more _ so_far.given _ _ c.loop-count.count _ _ _ so_far.numbered passing so_far.holds (rw c.separator.ensures at c.in_ok-put_pieces.ensures.written));
      writes = c.in_ok-put_pieces.ensures.counts_failure ∙ c.loop-count.invariant.writes;
    }
