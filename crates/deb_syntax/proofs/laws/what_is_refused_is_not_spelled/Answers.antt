use Rattle.deb_syntax.proofs.JudgingLawsRefusals.{judged-refusal, judged-refused}
use Rattle.deb_syntax.proofs.laws.what_is_refused_is_not_spelled.Goals as goal

pub returns : goal.returns
returns c = λ n lines refusal h. (judged-refusal n lines refusal h, (λ run fields s. judged-refused n lines refusal fields run.no_newline h s))
