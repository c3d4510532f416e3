use Rattle.std.proofs.Common.{◌≡◌, ◌&&◌, ◌∙◌, ◌∷◌, ◌++◌, [], cond, Ok, Some, None, refl, sym, ap, subst}
use Rattle.std.proofs.lemmas.Result.{err_from_is_err_and}
use Rattle.deb_control.specs.Calls.{IfCutOff, IfRefused, IfWriteFailed}
use Rattle.deb_control.specs.CheckedStates.{checked_state, doc_read, lines_checked}
use Rattle.deb_control.specs.Checking.{passing_seen}
use Rattle.deb_control.specs.Paragraphs.{AreValuesOf}
use Rattle.deb_control.proofs.CheckedSoFar.{cut_off, refused_then}
use Rattle.deb_control.proofs.PassingParagraphs.{values-passing}
use Rattle.deb_control.proofs.ShownSoFar.{ShownRefused, shows-end, shows-front, shows-front_next, shows-next, shows-none, shows-refused, shows-taken}
use Rattle.deb_select.specs.Selecting.{WritesFirst, WritesPart, WritesRefused, WritesSelected}
use Rattle.deb_select.specs.Selections.{HasConditions}
use Rattle.deb_select.specs.Forms.{form_shown}
use Rattle.deb_select.proofs.Selecting.{SelectedSo, all_selected, cut_after, failed_after, first_selected, next_found, next_selected, none_selected, part_selected, refused_selected, same_conditions, same_request}
use Rattle.deb_select.specs.declared.writing.Outcome.{Outcome}
use Rattle.deb_select.proofs.selection.Selection.write.Goals as goal

pub loop-passed-init : goal.loop-passed-init
loop-passed-init g c = record {
  shows = shows-none _ (none_selected c.args.self.now (form_shown c.args.form.now) c.args.begun (g.R.Source.left c.args.reader.now) (g.W.Sink.held c.args.writer.now)) c.new-checked.ensures.doc c.new-checked.ensures.sound c.new-checked.ensures.none c.new-checked.ensures.fits;
  writes = refl;
}

pub returns-in_err-advance-clause-refused : goal.returns-in_err-advance-clause-refused
returns-in_err-advance-clause-refused g c = λ asked text shape start has told.
    let p = err_from_is_err_and c.from_residual.result c.from_residual.ensures.1 in
    let self = c.args.self.now in
    let so_far = c.loop-passed.invariant.shows in
    same_request (λ a. IfRefused c.from_residual.result (λ refusal. WritesRefused a text refusal (g.W.Sink.held c.args.writer.now) (g.W.Sink.held c.loop-passed.writer))) asked self.doc (form_shown c.args.form.now) c.args.begun has.of_kind shape start
    (rw (p.1, p.2)
    (refused_then Outcome (ShownRefused self.doc text so_far.given) _ c.in_err-advance.field-0.0 (refused_selected so_far.holds asked.selection text (same_conditions asked.selection self asked.kind has) told)
    (shows-refused so_far Outcome c.in_err-advance.field-0.0 c.in_err-advance.ensures.passes.checks text told)))

pub returns-in_err-advance-clause-cut_off : goal.returns-in_err-advance-clause-cut_off
returns-in_err-advance-clause-cut_off g c = λ asked text shape start has told.
    let p = err_from_is_err_and c.from_residual.result c.from_residual.ensures.1 in
    let self = c.args.self.now in
    let so_far = c.loop-passed.invariant.shows in
    same_request (λ a. IfCutOff c.from_residual.result (WritesFirst a text (g.W.Sink.held c.args.writer.now) (g.W.Sink.held c.loop-passed.writer))) asked self.doc (form_shown c.args.form.now) c.args.begun has.of_kind shape start
    (rw (p.1, p.2) (cut_off Outcome c.in_err-advance.field-0.0 _ (first_selected so_far.holds asked.selection text (same_conditions asked.selection self asked.kind has) told (shows-front so_far text told))))

pub returns-in_err-advance-clause-reads_at_most : goal.returns-in_err-advance-clause-reads_at_most
returns-in_err-advance-clause-reads_at_most g c = shows-taken c.loop-passed.invariant.shows c.in_err-advance.ensures.passes.checks

pub returns-then-not-branch-clause-ok : goal.returns-then-not-branch-clause-ok
returns-then-not-branch-clause-ok g c = λ asked text shape start has told.
    let self = c.args.self.now in
    let so_far = c.loop-passed.invariant.shows in
    same_request (λ a. WritesSelected a text (record { count = c.loop-passed.count; begun = c.loop-passed.begun; full = c.loop-passed.full }) (g.W.Sink.held c.args.writer.now) (g.W.Sink.held c.loop-passed.writer)) asked self.doc (form_shown c.args.form.now) c.args.begun has.of_kind shape start
    (all_selected so_far.holds asked.selection text (same_conditions asked.selection self asked.kind has) told (shows-end so_far (rw c.if-not-branch.true at c.in_ok-advance.ensures.passes.checks) text told))

pub returns-then-not-branch-clause-reads_at_most : goal.returns-then-not-branch-clause-reads_at_most
returns-then-not-branch-clause-reads_at_most g c = shows-taken c.loop-passed.invariant.shows c.in_ok-advance.ensures.passes.checks

pub returns-in_err-put-clause-cut_off : goal.returns-in_err-put-clause-cut_off
returns-in_err-put-clause-cut_off g c = λ asked text shape start has told.
    let e = err_from_is_err_and c.from_residual-in_err-put.result c.from_residual-in_err-put.ensures.1 in
    let self = c.args.self.now in
    let so_far = c.loop-passed.invariant.shows in
    let given = c.in_ok-advance.ensures.passes.given in
    let checks = rw c.if-not-branch.false at c.in_ok-advance.ensures.passes.checks in
    let visits = rw so_far.reads at c.in_ok-advance.ensures.passes.keeps (ap Ok c.if-not-branch.false) in
    let values = values-passing self.doc given visits.passes in
    let doc_now : doc_read c.advance.new.self ≡ self.doc = c.in_ok-advance.ensures.doc ∙ so_far.reads in
    let current : (checked_state c.advance.new.self).current ≡ Some given = c.in_ok-advance.ensures.passes.current ∙ ap (λ t. cond t (Some given) None) c.if-not-branch.false in
    let are = subst (λ d. AreValuesOf d given values.0) (sym doc_now) values.1 in
    let has_so = same_conditions asked.selection self asked.kind has in
    let found = next_found so_far given checks (lines_checked c.advance.new.self) c.in_ok-advance.ensures.lines_found text told in
    let puts = c.in_err-put.ensures.puts asked.selection given values.0 found.0 (subst (λ d. HasConditions d asked.selection self) (sym doc_now) has_so) current are found.2 found.3 found.4 in
    same_request (λ a. IfCutOff c.from_residual-in_err-put.result (WritesFirst a text (g.W.Sink.held c.args.writer.now) (g.W.Sink.held c.put.new.writer))) asked self.doc (form_shown c.args.form.now) c.args.begun has.of_kind shape start
    (rw (e.1, e.2)
    (cut_after Outcome c.in_err-put.field-0.0 (form_shown c.args.form.now) c.loop-passed.begun asked.selection values.0 found.0 (record { kind = self.doc; selection = asked.selection; form = form_shown c.args.form.now; begun = c.args.begun }) text (g.W.Sink.held c.args.writer.now) (g.W.Sink.held c.loop-passed.writer) (g.W.Sink.held c.put.new.writer) puts
    (first_selected so_far.holds asked.selection text has_so told (shows-front so_far text told))))

pub returns-in_err-put-clause-write : goal.returns-in_err-put-clause-write
returns-in_err-put-clause-write g c = λ asked text shape start has told.
    let e = err_from_is_err_and c.from_residual-in_err-put.result c.from_residual-in_err-put.ensures.1 in
    let self = c.args.self.now in
    let so_far = c.loop-passed.invariant.shows in
    let given = c.in_ok-advance.ensures.passes.given in
    let checks = rw c.if-not-branch.false at c.in_ok-advance.ensures.passes.checks in
    let visits = rw so_far.reads at c.in_ok-advance.ensures.passes.keeps (ap Ok c.if-not-branch.false) in
    let values = values-passing self.doc given visits.passes in
    let doc_now : doc_read c.advance.new.self ≡ self.doc = c.in_ok-advance.ensures.doc ∙ so_far.reads in
    let current : (checked_state c.advance.new.self).current ≡ Some given = c.in_ok-advance.ensures.passes.current ∙ ap (λ t. cond t (Some given) None) c.if-not-branch.false in
    let are = subst (λ d. AreValuesOf d given values.0) (sym doc_now) values.1 in
    let has_so = same_conditions asked.selection self asked.kind has in
    let found = next_found so_far given checks (lines_checked c.advance.new.self) c.in_ok-advance.ensures.lines_found text told in
    let puts = c.in_err-put.ensures.puts asked.selection given values.0 found.0 (subst (λ d. HasConditions d asked.selection self) (sym doc_now) has_so) current are found.2 found.3 found.4 in
    same_request (λ a. IfWriteFailed c.from_residual-in_err-put.result (WritesPart a text (g.W.Sink.held c.args.writer.now) (g.W.Sink.held c.put.new.writer))) asked self.doc (form_shown c.args.form.now) c.args.begun has.of_kind shape start
    (rw (e.1, e.2)
    (failed_after Outcome c.in_err-put.field-0.0 (form_shown c.args.form.now) c.loop-passed.begun asked.selection values.0 found.0 (g.W.Sink.held c.loop-passed.writer) (g.W.Sink.held c.put.new.writer) _ puts
    (λ front_written. part_selected so_far.holds given values.0 values.1 asked.selection text (g.W.Sink.held c.put.new.writer) found.0 has_so told found.1 (shows-front_next so_far (passing_seen (doc_read c.loop-passed.checked) given) checks text told) front_written)))

pub returns-in_err-put-clause-reads_at_most : goal.returns-in_err-put-clause-reads_at_most
returns-in_err-put-clause-reads_at_most g c = shows-taken c.loop-passed.invariant.shows c.in_ok-advance.ensures.passes.checks

pub loop-passed-preserved : goal.loop-passed-preserved
loop-passed-preserved g c =
    let self = c.args.self.now in
    let so_far = c.loop-passed.invariant.shows in
    let given = c.in_ok-advance.ensures.passes.given in
    let checks = rw c.if-not-branch.false at c.in_ok-advance.ensures.passes.checks in
    let visits = rw so_far.reads at c.in_ok-advance.ensures.passes.keeps (ap Ok c.if-not-branch.false) in
    let values = values-passing self.doc given visits.passes in
    let doc_now : doc_read c.advance.new.self ≡ self.doc = c.in_ok-advance.ensures.doc ∙ so_far.reads in
    let current : (checked_state c.advance.new.self).current ≡ Some given = c.in_ok-advance.ensures.passes.current ∙ ap (λ t. cond t (Some given) None) c.if-not-branch.false in
    let are = subst (λ d. AreValuesOf d given values.0) (sym doc_now) values.1 in
    record {
      shows =
          shows-next so_far (passing_seen _ given) checks c.in_ok-advance.ensures.doc
          (subst (λ n. SelectedSo self (form_shown c.args.form.now) c.args.begun (g.R.Source.left c.args.reader.now) (g.W.Sink.held c.args.writer.now) (g.W.Sink.held c.put.new.writer) n c.in_ok-put.put.begun (c.loop-passed.full && c.in_ok-put.put.full) (so_far.given ++ given ∷ [])) (sym c.counted-count.ensures)
          (next_selected so_far.holds given values.0 values.1 c.in_ok-put.put (g.W.Sink.held c.put.new.writer) (λ text told.
          let found = next_found so_far given checks (lines_checked c.advance.new.self) c.in_ok-advance.ensures.lines_found text told in (
            found.0,
            found.1,
            λ asked has.
                c.in_ok-put.ensures.puts asked given values.0 found.0 (subst (λ d. HasConditions d asked self) (sym doc_now) has) current are found.2 found.3 found.4,
          ))));
      writes = c.in_ok-put.ensures.counts_failure ∙ c.loop-passed.invariant.writes;
    }
