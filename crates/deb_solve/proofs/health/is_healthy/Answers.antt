use Rattle.deb_solve.proofs.health.is_healthy.Goals as goal

pub returns : goal.returns
returns c =
    (c.is_healthy.ensures.yes, λ healthy. c.is_healthy.ensures.no c.in_ok-marks.ensures healthy)
