use Rattle.std.proofs.Common.{◌≡◌, map, string_bytes}
use Rattle.debctl_args.proofs.found_arguments.comma_pieces.Given as goal

abbrev pub invariant-loop-piece : goal.invariant-loop-piece
invariant-loop-piece l = map string_bytes l.pieces.items ≡ map (λ piece. piece.now) l.yielded
