use Rattle.std.proofs.Common.{◌++◌, [], ◌∷◌, sym, subst}
use Rattle.deb_install.specs.Keeping.{HoldsGiven}
use Rattle.deb_install.proofs.Held.{one_held}
use Rattle.deb_install.proofs.kept.KeptMembersKeeper.keep.Goals as goal

pub returns : goal.returns
returns c = λ members given seen keeps visits is has.
    subst (λ held. HoldsGiven members held (given ++ seen ∷ [])) (sym c.in_ok-push.ensures.items)
    (one_held members c.args.self.now.members.items given keeps c.args.texts.now seen visits c.args.paragraph.now c.in_ok-kept.kept is has c.in_ok-kept.ensures.texts c.in_ok-kept.ensures.marked)
