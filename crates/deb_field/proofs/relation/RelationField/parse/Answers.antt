use Rattle.std.proofs.Common.{sym, ◌∙◌}
use Rattle.deb_relation.specs.RelationTexts.{text_meaning}
use Rattle.deb_field.proofs.RelationLemmas.{refused-in}
use Rattle.deb_field.proofs.relation.RelationField.parse.Goals as goal

pub invariant_of-result : goal.invariant_of-result
invariant_of-result c = record { allowed = sym c.in-None.ensures }

pub returns-in-Ok-clause-refused : goal.returns-in-Ok-clause-refused
returns-in-Ok-clause-refused c = refused-in c.args.relationship c.args.body.now (text_meaning c.in-Ok.relation) c.in-Ok.ensures.ok ∙ sym c.in-Some.ensures
