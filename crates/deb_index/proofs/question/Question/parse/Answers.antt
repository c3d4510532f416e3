use Rattle.deb_index.proofs.question.Question.parse.Goals as goal

pub returns-clause-ok : goal.returns-clause-ok
returns-clause-ok c =
    record { spelled = c.in_ok-relation.ensures; environment = c.in_ok-environment.ensures.0; is = c.in_ok-environment.ensures.1 }
