use Rattle.std.proofs.Common.{option_map, string_bytes, subst, sym}
use Rattle.debctl_commands.specs.LatestJob.{RefusesLimit}
use Rattle.debctl_commands.proofs.LatestFiles.{refuses_word}
use Rattle.debctl_commands.proofs.latest_job.parse_limit.Goals as goal

pub returns-in-Err-clause-refused : goal.returns-in-Err-clause-refused
returns-in-Err-clause-refused c =
    let e = refuses_word c.as_str.result.now c.in-Err.fault c.in-Err.ensures in
    (e.0, subst (λ before. RefusesLimit (option_map string_bytes before)) (sym c.in-Some.is) (rw c.as_str.ensures.value at e.1))
