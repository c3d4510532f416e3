use Rattle.std.proofs.Common.{◌≡◌, map, take}
use Rattle.deb_base.specs.Bodies.{pieces_of}
use Rattle.deb_syntax.specs.Lines.{with_newlines}
use Rattle.deb_select.specs.Fields.{fields_lines}
use Rattle.deb_select.proofs.fields.fields_text.Given as goal

abbrev pub invariant-loop-name : goal.invariant-loop-name
invariant-loop-name l = l.out.items ≡ with_newlines (fields_lines (map (λ name. name.items) (take l.name-index l.names)) (pieces_of l.text))
