use Rattle.std.proofs.Common.{◌≡◌, map, take}
use Rattle.deb_diff.proofs.both.texts_of.Given as goal

abbrev pub invariant-loop-paragraph : goal.invariant-loop-paragraph
invariant-loop-paragraph l = map (λ t. t.now) l.texts.items ≡ map (λ k. k.text.items) (take l.paragraph-index l.kept)
