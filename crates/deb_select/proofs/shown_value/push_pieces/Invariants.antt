use Rattle.std.proofs.Common.{◌≡◌, ◌++◌, map}
use Rattle.deb_select.proofs.shown_value.push_pieces.Given as goal

abbrev pub invariant-loop-piece : goal.invariant-loop-piece
invariant-loop-piece l = map (λ name. name.now) l.names.items ≡ map (λ name. name.now) l.initial.names.items ++ map (λ piece. piece.now) l.yielded
