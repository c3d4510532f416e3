use Rattle.std.proofs.Common.{◌≡◌, ◌++◌, option_map}
use Rattle.deb_base.specs.Bodies.{pieces_of}
use Rattle.deb_syntax.specs.Lines.{with_newlines}
use Rattle.deb_select.specs.Fields.{field_lines}
use Rattle.deb_select.specs.Rests.{bytes_left, lines_left}
use Rattle.deb_select.proofs.fields.push_field.Given as goal

abbrev pub invariant-loop-rest : goal.invariant-loop-rest
invariant-loop-rest l = l.initial.out.items ++ with_newlines (field_lines l.name (pieces_of l.text)) ≡ l.out.items ++ with_newlines (field_lines l.name (lines_left (option_map (λ t. t.now) l.rest)))

abbrev pub decreases-loop-rest : goal.decreases-loop-rest
decreases-loop-rest l = bytes_left (option_map (λ t. t.now) l.rest)
