use Rattle.deb_control.proofs.Common.{ap, file_text, rules_of}
use Rattle.deb_control.proofs.FollowedParagraphs.{outcome-from_refusal}
use Rattle.deb_control.proofs.laws.a_refusal_behind_paragraphs_is_of_the_file.Goals as goal

pub returns : goal.returns
returns c = λ doc text before refusal follow answer.
    let is = outcome-from_refusal (rules_of doc) text before refusal follow answer in
    (ap (λ o. o.refusal) is, ap (λ o. file_text o.passed) is)
