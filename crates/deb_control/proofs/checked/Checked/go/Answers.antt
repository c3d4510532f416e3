use Rattle.deb_control.proofs.Common.{None, Ok, Err, refl, state_of, passing_seen, seen_found}
use Rattle.deb_control.proofs.Checks.{checks_on, says_again, says-current}
use Rattle.deb_control.proofs.Visited.{keeps-found}
use Rattle.deb_control.proofs.checked.Checked.go.Goals as goal

pub returns-in-Some-clause-passes : goal.returns-in-Some-clause-passes
returns-in-Some-clause-passes g c =
    record { given = seen_found None; checks = says_again c.args.self.now.doc _ c.in-Some.fault c.in-Some.is; current = tt; keeps = λ gives. absurd (cc) }

pub returns-in-Ok-clause-passes : goal.returns-in-Ok-clause-passes
returns-in-Ok-clause-passes g c =
    let found = (state_of c.find.new.paragraphs).current in
    record {
      given = seen_found found;
      checks = checks_on c.args.self.now.doc _ _ (passing_seen c.args.self.now.doc (seen_found found)) (Ok c.in-Ok.found) c.in_default.is (c.in-Ok.ensures.checks _ _ _ _) c.in_default.is;
      current = says-current found c.in-Ok.found _ c.in_default.is c.in-Ok.ensures.gives;
      keeps = λ gives. keeps-found _ found (c.in-Ok.ensures.keeps gives);
    }

pub returns-in-Err-clause-passes : goal.returns-in-Err-clause-passes
returns-in-Err-clause-passes g c =
    let found = seen_found (state_of c.find.new.paragraphs).current in
    record {
      given = found;
      checks = checks_on c.args.self.now.doc _ _ (passing_seen c.args.self.now.doc found) (Err c.in-Err.fault) c.in_default.is (c.in-Err.ensures.checks _ _ _ _) refl;
      current = tt;
      keeps = λ gives. absurd (cc);
    }

pub returns-in-Err-clause-lines : goal.returns-in-Err-clause-lines
returns-in-Err-clause-lines g c = rw c.in_default.is (λ text answered fits. c.in-Err.ensures.lines _ _ text answered fits)

pub returns-in-Err-clause-refused : goal.returns-in-Err-clause-refused
returns-in-Err-clause-refused g c = rw c.in_default.is (λ text answered fits. c.in-Err.ensures.refused _ _ _ _ text answered fits)

pub returns-in-Ok-clause-lines_found : goal.returns-in-Ok-clause-lines_found
returns-in-Ok-clause-lines_found g c = rw c.in_default.is (λ text answered fits. c.in-Ok.ensures.lines_found _ _ text answered fits)
