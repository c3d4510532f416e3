use Rattle.deb_control.proofs.Common.{None, State, ap, refl, ◌∙◌, state_of}
use Rattle.deb_syntax.specs.Paragraphs.{judged_last}
use Rattle.deb_control.proofs.Resuming.{gone_on}
use Rattle.deb_control.proofs.checked.go_on.Goals as goal

pub returns-clause-state : goal.returns-clause-state
returns-clause-state c =
    let old = c.args.paragraphs.now in
    c.leave.ensures.left ∙ ap (λ (s : State). record s { current = None }) (gone_on old c.resume.new.self c.resume.result (state_of old).fault (judged_last old) refl c.requires.inside c.requires.judged c.resume.ensures.resumed c.resume.ensures.goes_on c.resume.ensures.unchanged)
