use Rattle.std.proofs.Common.{ap, sym, Ok, ◌∙◌, map}
use Rattle.deb_relation.specs.Bodies.{meaning_in, meaning_of}
use Rattle.deb_relation.specs.SummaryViews.{told_of}
use Rattle.deb_relation.proofs.Parsed.{not_parsed}
use Rattle.deb_relation.proofs.ReadRelation.{relation_took}
use Rattle.deb_relation.proofs.SpelledGroups.{relation_read}
use Rattle.deb_relation.proofs.Summed.{told, untold, told_text, told_alternatives, told_equals}
use Rattle.deb_relation.proofs.relation_text.RelationText.read.Goals as goal

pub invariant_of-result : goal.invariant_of-result
invariant_of-result c =
    let body = c.args.body.now in
    let groups = c.deref-groups.result.now in
    let is = told body (map told_of groups) c.in-Ok.field-0-1.now (c.in-Ok.ensures ∙ ap (λ all. Ok (map told_of all, c.in-Ok.field-0-1.now)) (sym c.deref-groups.ensures.value)) in
    record {
      read = is.read;
      written = c.in-Ok-joined_texts.ensures ∙ told_text body groups is;
      alternatives_are = c.some_has_two.ensures ∙ told_alternatives body groups is;
      equals_are = c.each_has_only_equals.ensures ∙ told_equals body groups is;
    }

pub returns-in-Ok-joined_texts-clause-ok : goal.returns-in-Ok-joined_texts-clause-ok
returns-in-Ok-joined_texts-clause-ok c =
    let is = told c.args.body.now (map told_of c.in-Ok.groups.items) c.in-Ok.field-0-1.now c.in-Ok.ensures in
    relation_took c.args.body.now (meaning_in c.args.body.now) is.read

pub returns-in-Ok-joined_texts-clause-accepted : goal.returns-in-Ok-joined_texts-clause-accepted
returns-in-Ok-joined_texts-clause-accepted c = λ m s. ap meaning_of (relation_read c.args.body.now m s)

pub returns-clause-accepted : goal.returns-clause-accepted
returns-clause-accepted c = not_parsed c.args.body.now c.in-Err-Bad.reason c.in-Err-Bad.left (untold c.args.body.now c.in-Err-Bad.reason c.in-Err-Bad.left (rw c.in-Err-Bad.field-0-is at c.in-Err-Bad.ensures))
