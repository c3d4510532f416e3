use Rattle.std.specs.Option.{option_map}
use Rattle.deb_relation.specs.Environments.{environment_of}
use Rattle.deb_relation.specs.Views.{bound_of}
use Rattle.deb_index.specs.Indexes.{packages_of}
use Rattle.deb_index.specs.Kept.{listed_of}
use Rattle.deb_index.specs.Meeting.{meets}
use Rattle.deb_unmet.specs.Plain.{plain}
use Rattle.deb_unmet.proofs.PlainGroups.{met_at}
use Rattle.deb_unmet.proofs.plain.first_meets.Goals as goal

pub returns-in-Some-package : goal.returns-in-Some-package
returns-in-Some-package c = λ met.
    met_at (meets (environment_of c.args.question.now.environment.now) (plain c.args.name.now (option_map bound_of c.args.bound.now))) (packages_of c.args.question.now.index.now) _ (listed_of c.in-Some-package.candidate) c.in-Some-package.ensures.listed (c.meets.ensures met)
