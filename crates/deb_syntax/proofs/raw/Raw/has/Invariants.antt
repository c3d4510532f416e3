use Rattle.deb_syntax.proofs.Common.{◌≡◌, drop, fields_at, fields_of, has_field_in, row_of}
use Rattle.deb_syntax.proofs.raw.Raw.has.Given as goal

-- no field so far is the one
abbrev pub invariant-loop-span : goal.invariant-loop-span
invariant-loop-span l = has_field_in (row_of l.id) (fields_at l.self.text.now (drop l.span-index l.self.spans.now)) ≡ has_field_in (row_of l.id) (fields_of l.self)
