use Rattle.deb_explain.proofs.Explanations.{each_has_one_explanation}
use Rattle.deb_explain.proofs.laws.each_refusal_has_one_explanation.Goals as goal

pub returns : goal.returns
returns c = each_has_one_explanation
