use Rattle.deb_index.specs.Indexes.{packages_of}
use Rattle.deb_relation.specs.Environments.{environment_of}
use Rattle.deb_install.specs.Installing.{asks_by}
use Rattle.deb_install.proofs.FileAnswers.{has-answers, if-value}
use Rattle.deb_install.proofs.verdicts.text_of.Goals as goal

pub returns : goal.returns
returns c = λ meaning holds lists.
    let asks = asks_by c.args.request.now (environment_of c.args.environment.now) in
    let packages = packages_of c.args.index.now in
    if-value _ _
    (λ text has. has-answers asks packages meaning c.in_ok-every.every.items text.items (c.in_ok-every.ensures meaning holds lists)
    (rw c.deref.ensures.value at has))
    c.lines_by.result (c.lines_by.ensures meaning holds lists)
