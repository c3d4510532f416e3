use Rattle.std.proofs.Common.{map, string_bytes, take}
use Rattle.debctl_commands.proofs.KeyLines.{KeysSoFar}
use Rattle.debctl_commands.proofs.version_jobs.key_lines.Given as goal

abbrev pub invariant-loop-version : goal.invariant-loop-version
invariant-loop-version l =
    KeysSoFar (map string_bytes (take l.version-index l.versions)) l.lines.items
