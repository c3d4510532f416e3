use Rattle.deb_field.proofs.ValueLemmas.{is_read}
use Rattle.deb_field.proofs.value.Value.parse.Goals as goal

pub returns-clause-accepted : goal.returns-clause-accepted
returns-clause-accepted c = λ m s. is_read c.args.doc c.args.name.now c.args.body.now c.kind_of.result c.kind_of.ensures m s c.of_kind.result c.of_kind.ensures.ok c.of_kind.ensures.refused
