use Rattle.std.proofs.Common.{List, map, drop}
use Rattle.deb_diff.specs.Differences.{Fate}
use Rattle.deb_diff.specs.Fates.{AreFated}
use Rattle.deb_diff.specs.Items.{Item}
use Rattle.deb_diff.specs.Lines.{fate_text}
use Rattle.deb_diff.proofs.Fating.{Lines}
use Rattle.deb_diff.proofs.fates.append_fates.Given as goal

abbrev pub invariant-loop-number : goal.invariant-loop-number
invariant-loop-number l = (fates : List (Item × Fate)) → AreFated (map (λ k. k.now) l.old) l.became l.new fates → Lines (fate_text l.form) (AreFated (map (λ k. k.now) (drop l.number l.old)) (drop l.number l.became) l.new) l.initial.out.items fates l.out.items
