use Rattle.std.proofs.Common.{ap, ◌∙◌, arith, set}
use Rattle.deb_control.specs.Visiting.{visit_of}
use Rattle.deb_control.specs.declared.field_texts.TextSpan.{TextSpan}
use Rattle.deb_control.proofs.KeptTexts.{texts-next}
use Rattle.deb_control.proofs.field_texts.FieldTextsFieldVisitor.visit.Goals as goal

pub returns : goal.returns
returns c = λ visited keeps.
    let span : TextSpan = record { start = c.len-start.result; word_end = c.len-word_end.result; end = c.len-end.result } in
    texts-next c.args.self.now _ c.append_word.new.buffer.items span visited (visit_of c.args.field.now c.args.value.now) keeps c.in_ok-append_word.ensures c.in_ok-append_relation.ensures
    (omega (arith, c.len-start.ensures, c.args.self.now.buffer.ok.0)) (omega (arith, c.len-word_end.ensures, c.append_word.new.buffer.ok.0)) (omega (arith, c.len-end.ensures, c.append_relation.new.buffer.ok.0))
    (c.put.ensures ∙ ap (λ row. set c.args.self.now.spans row span) (c.row.ensures ∙ c.args.field.now.named))
