use Rattle.deb_install.proofs.Held.{other_held}
use Rattle.deb_install.proofs.kept.KeptMembersKeeper.pass_over.Goals as goal

pub returns : goal.returns
returns c = λ members given seen keeps visits is has. other_held members c.args.self.now.members.items given keeps c.args._texts.now seen visits has
