use Rattle.deb_syntax.proofs.Common.{◌≡◌, drop, map, name_at, has_stood}
use Rattle.deb_syntax.proofs.seen_names.stands_at.Given as goal

-- the name is at none of the spans so far
abbrev pub invariant-loop-span : goal.invariant-loop-span
invariant-loop-span l = has_stood l.name (map (name_at l.text) (drop l.span-index l.spans)) ≡ has_stood l.name (map (name_at l.text) l.spans)
