use Rattle.std.proofs.Common.{◌++◌, [], ◌∷◌, sym, subst}
use Rattle.deb_control.proofs.GivenValues.{pairwise-push}
use Rattle.deb_unmet.specs.Parts.{AreParts, IsOther, IsPart}
use Rattle.deb_unmet.proofs.OwnParts.{other_part}
use Rattle.deb_unmet.proofs.own_lines.KeptLinesKeeper.pass_over.Goals as goal

pub returns : goal.returns
returns g c = λ members given seen keeps visits is has.
    let Holds = g.L.OwnLines.Holds in
    subst (λ parts. AreParts members Holds (IsOther g.L.OwnLines.asks) parts (given ++ seen ∷ [])) (sym c.in_ok-push.ensures.items)
    (pairwise-push (IsPart members Holds (IsOther g.L.OwnLines.asks)) given c.args.self.now.parts.items seen _ keeps (other_part Holds (IsOther g.L.OwnLines.asks) c.args.texts.now c.args.paragraph.now seen is members c.in_ok-text.text c.in_ok-text.ensures visits has))
