use Rattle.deb_syntax.proofs.AnswerLaws.{next_answer-refusal}
use Rattle.deb_syntax.proofs.laws.a_refusal_is_of_the_text.Goals as goal

pub returns : goal.returns
returns c = next_answer-refusal
