use Rattle.std.proofs.Common.{◌*◌, ◌≤◌, length, subst, sym}
use Rattle.deb_field.specs.RelationLaw.{relation_law}
use Rattle.deb_field.specs.RelationSpelled.{relation_meaning}
use Rattle.deb_field.specs.Shown.{sort_of}
use Rattle.deb_field.proofs.relation.RelationFieldCanon.canon_len.Goals as goal

pub returns-clause-short : goal.returns-clause-short
returns-clause-short c body s =
    subst (λ n. n ≤ 2 * length body) (sym c.canon_len.ensures)
    ((relation_law (sort_of c.args.self.now)).is_short body (relation_meaning c.args.self.now) s)
