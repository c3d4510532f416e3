use Rattle.std.proofs.Common.{◌∙◌, ap, false, inl, refl}
use Rattle.deb_select.specs.Forms.{form_shown}
use Rattle.debctl_ffi.specs.Select.{some_selected}
use Rattle.debctl_ffi.proofs.SelectTexts.{refuses_text}
use Rattle.debctl_ffi.proofs.Written.{written_whole}
use Rattle.debctl_ffi.proofs.select.write_selected.Goals as goal

pub returns-in-Ok-clause-ok : goal.returns-in-Ok-clause-ok
returns-in-Ok-clause-ok c = λ kind meaning has.
    let writes =
    c.in-Ok.ensures.ok (record { kind = kind; selection = meaning; form = form_shown c.args.form.now; begun = false }) c.args.text.now refl refl has
    c.new.ensures.left in
    record {
      meaning = writes.meaning;
      accepted = writes.accepted;
      bytes_are = written_whole _ _ _ _ c.new-sink.ensures.held c.into_bytes.ensures writes.written;
      is = c.some_selected.ensures ∙ ap some_selected writes.counted;
    }

pub returns-in-Err-Refused-clause-fails : goal.returns-in-Err-Refused-clause-fails
returns-in-Err-Refused-clause-fails c = λ kind meaning has.
    inl (refuses_text kind c.args.text.now _ _ c.in-Err-Refused.refusal _ (λ told writes. writes.refused) c.in-Err-Refused.field-0-is
    (c.in-Err-Refused.ensures.refused (record { kind = kind; selection = meaning; form = form_shown c.args.form.now; begun = false }) c.args.text.now refl refl has
    c.new.ensures.left) c.refused.ensures)
