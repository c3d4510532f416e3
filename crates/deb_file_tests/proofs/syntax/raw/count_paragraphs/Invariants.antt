use Rattle.std.proofs.Common.{◌≡◌, ℕ, List, Some, None, length}
use Rattle.deb_syntax.specs.Lines.{paragraphs_of}
use Rattle.deb_syntax.specs.Reading.{Fits}
use Rattle.deb_syntax.specs.Paragraphs.{state_of}
use Rattle.deb_file_tests.proofs.syntax.raw.count_paragraphs.Given as goal

-- the paragraphs so far are those of a prefix of the file
abbrev pub invariant-loop-count : goal.invariant-loop-count
invariant-loop-count g l = record {
  fault : (state_of l.paragraphs).fault ≡ None;
  text : (text : List ℕ) → g.R.Source.left l.initial.reader ≡ Some text → (passed : List ℕ) × Fits text passed (state_of l.paragraphs) (g.R.Source.left l.reader) × (l.count ≡ length (paragraphs_of passed));
}
