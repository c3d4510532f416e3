use Rattle.deb_syntax.proofs.Common.{Some}
use Rattle.deb_syntax.proofs.Advancing.{if_none}
use Rattle.deb_syntax.proofs.Resuming.{passed_any_fault}
use Rattle.deb_syntax.specs.Paragraphs.{judged_last, state_of}
use Rattle.deb_syntax.proofs.paragraphs.Paragraphs.advance.Goals as goal

pub returns-in-Err-clause-judged_passed : goal.returns-in-Err-clause-judged_passed
returns-in-Err-clause-judged_passed g c = if_none c.args.self.now.fault _ (λ text passed fits. passed_any_fault text passed (judged_last c.find-answer.new.self) (state_of c.find-answer.new.self) (Some c.in-Err.fault) _ (c.in-Err.ensures.judged_passed text passed fits))
