use Rattle.deb_explain.proofs.Explanations.{first_is_explains}
use Rattle.deb_explain.proofs.laws.the_first_explanation_is_that_of_explain.Goals as goal

pub returns : goal.returns
returns c = first_is_explains
