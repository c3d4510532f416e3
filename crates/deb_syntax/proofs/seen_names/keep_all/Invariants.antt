use Rattle.deb_syntax.proofs.Common.{◌≡◌, ℕ, List, take, map, name_at, has_stood, is_kept}
use Rattle.deb_syntax.proofs.seen_names.keep_all.Given as goal

-- the names so far are kept
abbrev pub invariant-loop-span : goal.invariant-loop-span
invariant-loop-span l = (name : List ℕ) → is_kept name l.all.keys ≡ has_stood name (map (name_at l.text) (take l.span-index l.spans))
