use Rattle.std.proofs.Common.{◌≡◌, ◌*◌, ◌≤◌, length, rules, subst, sym}
use Rattle.deb_field.specs.ValueLaws.{kind_law}
use Rattle.deb_field.specs.ValueMeanings.{kind_of_value, value_meaning}
use Rattle.deb_field.specs.Values.{value_text}
use Rattle.deb_field.proofs.value_canon.ValueCanon.canon_len.Goals as goal

pub returns-in-Version-clause-short : goal.returns-in-Version-clause-short
returns-in-Version-clause-short c body s =
    let is : c.canon_len-in-Version.result ≡ length (value_text (value_meaning c.args.self.now)) = search rules in
    subst (λ n. n ≤ 2 * length body) (sym is) ((kind_law (kind_of_value c.args.self.now)).is_short body (value_meaning c.args.self.now) s)
