use Rattle.std.proofs.Common.{List, map, drop}
use Rattle.deb_diff.specs.Items.{Item}
use Rattle.deb_diff.specs.Kepts.{AreKept}
use Rattle.deb_diff.specs.Lines.{added_text}
use Rattle.deb_diff.proofs.Fating.{Lines}
use Rattle.deb_diff.proofs.fates.append_added.Given as goal

abbrev pub invariant-loop-kept : goal.invariant-loop-kept
invariant-loop-kept l = (items : List Item) → AreKept (map (λ k. k.now) l.added) items → Lines (added_text l.form) (AreKept (map (λ k. k.now) (drop l.kept-index l.added))) l.initial.out.items items l.out.items
