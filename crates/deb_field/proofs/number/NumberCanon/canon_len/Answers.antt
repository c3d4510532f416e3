use Rattle.std.proofs.Common.{◌*◌, ◌≤◌, length, subst}
use Rattle.deb_field.specs.NumberLaw.{number_law}
use Rattle.deb_field.specs.Shown.{number_value}
use Rattle.deb_field.proofs.number.NumberCanon.canon_len.Goals as goal

pub returns-clause-short : goal.returns-clause-short
returns-clause-short c body s =
    subst (λ digits. length digits ≤ 2 * length body) c.args.self.now.canonical
    (number_law.is_short body (number_value c.args.self.now) s)
