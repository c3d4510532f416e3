use Rattle.deb_field.proofs.SourceLemmas.{spells-around}
use Rattle.deb_field.proofs.source.SourceName.parse.Goals as goal

pub returns-in-Ok-clause-ok : goal.returns-in-Ok-clause-ok
returns-in-Ok-clause-ok c = spells-around c.args.body.now c.in-Some.before.now c.in-Some.behind.now c.in-Some.ensures.0 c.in-Some.ensures.1 c.in-Some.ensures.2 _ c.in-Ok.ensures.ok
