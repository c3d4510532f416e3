use Rattle.std.proofs.Common.{refl, sym, ◌∙◌}
use Rattle.deb_control.proofs.GivenRefusals.{ends_after, gives_all, goes_after}
use Rattle.deb_control.proofs.refusals.Refusals.next.Goals as goal

pub returns-then-resume-clause-gives : goal.returns-then-resume-clause-gives
returns-then-resume-clause-gives g c = λ doc text done has.
    let goes = goes_after doc text c.args.self.now _ done c.in-At.field-0 c.in-At.is has c.resume.new.self (sym c.resume.ensures.resumed ∙ c.if-resume.true) c.resume.ensures.fits c.resume.ensures.doc in
    c.find-then-resume.ensures.gives doc text done goes

pub returns-then-resume-clause-reads_at_most : goal.returns-then-resume-clause-reads_at_most
returns-then-resume-clause-reads_at_most g c = λ doc text done has.
    let goes = goes_after doc text c.args.self.now _ done c.in-At.field-0 c.in-At.is has c.resume.new.self (sym c.resume.ensures.resumed ∙ c.if-resume.true) c.resume.ensures.fits c.resume.ensures.doc in
    c.find-then-resume.ensures.reads_at_most doc text done goes

pub returns-else-resume-clause-gives : goal.returns-else-resume-clause-gives
returns-else-resume-clause-gives g c = λ doc text done has.
    let all = ends_after doc text c.args.self.now _ done c.in-At.field-0 c.in-At.is has (sym c.resume.ensures.resumed ∙ c.if-resume.false) in
    gives_all doc text _ _ done refl (c.resume.ensures.doc ∙ has.reads) has.first has.taken has.refused all
