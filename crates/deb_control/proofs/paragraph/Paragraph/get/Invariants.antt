use Rattle.deb_control.proofs.Common.{◌≡◌, drop, canonical_name, byte_order, values_in, values_of}
use Rattle.std.specs.FinMap.{find as value_under}
use Rattle.deb_control.proofs.paragraph.Paragraph.get.Given as goal

abbrev pub invariant-loop-field : goal.invariant-loop-field
invariant-loop-field l = value_under byte_order (canonical_name l.name) (values_in (drop l.field-index l.field-items)) ≡ value_under byte_order (canonical_name l.name) (values_of l.self)
