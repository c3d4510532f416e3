use Rattle.deb_syntax.proofs.Common.{◌≡◌, drop, fields_at, fields_of, field_named}
use Rattle.deb_syntax.proofs.raw.Raw.get.Given as goal

-- no field so far has the name
abbrev pub invariant-loop-span : goal.invariant-loop-span
invariant-loop-span l = field_named l.name (fields_at l.self.text.now (drop l.span-index l.self.spans.now)) ≡ field_named l.name (fields_of l.self)
