use Rattle.deb_syntax.proofs.Common.{sym, subst, ◌∙◌, IfErr-weaker, IsFaultOf}
use Rattle.std.proofs.lemmas.Result.{on_ok_weaker}
use Rattle.deb_syntax.proofs.Judgements.{line_judged-continuation, line_judged-field}
use Rattle.deb_syntax.proofs.FieldSpanLemmas.{StandsAt-longer, continuation_line-begun}
use Rattle.deb_syntax.proofs.judge.judge_line.Goals as goal

pub returns-then-begins_with_blank-clause-ok : goal.returns-then-begins_with_blank-clause-ok
returns-then-begins_with_blank-clause-ok c =
    on_ok_weaker _
    (λ goes. line_judged-continuation _ _ _ c.requires.utf8 (sym c.if-begins_with_blank.ensures)
    ∙ continuation_line-begun c.args.text.now c.args.line.start c.args.line.end c.requires.after c.requires.within _ _ c.args.names.now goes c.requires.stands c.args.line.number c.requires.newline)
    c.continue_field.ensures.ok

pub returns-then-begins_with_blank-clause-stands : goal.returns-then-begins_with_blank-clause-stands
returns-then-begins_with_blank-clause-stands c =
    on_ok_weaker _
    (λ goes. StandsAt-longer c.args.text.now c.args.line.start c.args.line.end c.requires.after c.requires.within _ _ c.args.names.now goes c.requires.stands)
    c.continue_field.ensures.ok

pub returns-else-begins_with_blank-clause-fault : goal.returns-else-begins_with_blank-clause-fault
returns-else-begins_with_blank-clause-fault c =
    IfErr-weaker c.begin_field.result _ _
    (λ fault h. subst (λ judgement. IsFaultOf judgement fault) (sym (line_judged-field _ _ _ c.requires.utf8 (sym c.if-begins_with_blank.ensures))) h)
    c.begin_field.ensures.fault
