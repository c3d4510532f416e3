use Rattle.std.proofs.Common.{◌≡◌, map, take, string_bytes}
use Rattle.deb_relation.specs.Views.{names_of}
use Rattle.debctl_commands.proofs.query_job.names_of.Given as goal

abbrev pub invariant-loop-word : goal.invariant-loop-word
invariant-loop-word l = names_of l.names.items ≡ map string_bytes (take l.word-index l.words)
