-- The lines so far are versions, and what is left decides.
use Rattle.std.proofs.Common.{◌≡◌, ◌+◌, map, take, drop}
use Rattle.deb_sort.specs.Refusals.{first_refusal}
use Rattle.deb_sort.specs.VersionLines.{texts_of}
use Rattle.deb_sort.proofs.cut.parse_lines.Given as goal

abbrev pub invariant-loop-i : goal.invariant-loop-i
invariant-loop-i l = record {
  texts : texts_of l.lines.items ≡ map (λ text. text.now) (take l.i l.texts);
  left : first_refusal 1 (map (λ text. text.now) l.texts) ≡ first_refusal (l.i + 1) (map (λ text. text.now) (drop l.i l.texts));
}
