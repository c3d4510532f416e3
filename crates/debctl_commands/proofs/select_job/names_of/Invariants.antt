use Rattle.std.proofs.Common.{◌≡◌, map, take, string_bytes}
use Rattle.debctl_commands.proofs.select_job.names_of.Given as goal

abbrev pub invariant-loop-field : goal.invariant-loop-field
invariant-loop-field l = map (λ name. name.items) l.names.items ≡ map string_bytes (take l.field-index l.fields)
