use Rattle.std.proofs.lemmas.Result.{on_ok_weaker}
use Rattle.deb_field.specs.RelationSpelled.{relation_meaning}
use Rattle.deb_select.proofs.RelationPieces.{field_spelled}
use Rattle.deb_select.proofs.json_relation.put_one_by_one.Goals as goal

pub returns-clause-tokens : goal.returns-clause-tokens
returns-clause-tokens c =
    on_ok_weaker c.put_pieces.result
    (λ written. written (relation_meaning c.args.field.now) (field_spelled c.args.field.now) (rw c.as_slice.ensures.value c.in_ok-text.ensures))
    c.put_pieces.ensures.tokens
