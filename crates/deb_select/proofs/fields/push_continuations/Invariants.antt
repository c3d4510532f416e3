use Rattle.std.proofs.Common.{◌≡◌, ◌++◌, option_map}
use Rattle.deb_syntax.specs.Lines.{with_newlines}
use Rattle.deb_select.specs.Fields.{continuations}
use Rattle.deb_select.specs.Rests.{bytes_left, lines_left}
use Rattle.deb_select.proofs.fields.push_continuations.Given as goal

abbrev pub invariant-loop-rest : goal.invariant-loop-rest
invariant-loop-rest l = l.initial.out.items ++ with_newlines (continuations (lines_left (option_map (λ t. t.now) l.text))) ≡ l.out.items ++ with_newlines (continuations (lines_left (option_map (λ t. t.now) l.rest)))

abbrev pub decreases-loop-rest : goal.decreases-loop-rest
decreases-loop-rest l = bytes_left (option_map (λ t. t.now) l.rest)
