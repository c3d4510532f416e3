-- The paragraphs of a text have lines.
use Rattle.deb_syntax.proofs.Common.{ℕ, ◌+◌, Bool, true, false, List, [], ◌∷◌, cond_both, AllByRecursion, Line, is_blank, Paragraph, begins_blank, with_line, paragraphs_from}
use Rattle.deb_syntax.proofs.LinesOfPieces.{IsNonempty}

abbrev pub HaveLines : List Paragraph → Type 0
HaveLines paragraphs = AllByRecursion (λ paragraph. IsNonempty paragraph.lines) paragraphs

HaveLines-with_line : (n : ℕ) (line : Line) (ends : Bool) (paragraphs : List Paragraph) → HaveLines paragraphs → HaveLines (with_line n line ends paragraphs)
HaveLines-with_line n line false (p ∷ ps) h = (tt, h.1)
HaveLines-with_line n line false [] h = (tt, tt)
HaveLines-with_line n line true ps h = (tt, h)

pub HaveLines-paragraphs_from : (n : ℕ) (lines : List Line) → HaveLines (paragraphs_from n lines)
HaveLines-paragraphs_from n [] = tt
HaveLines-paragraphs_from n (line ∷ lines) =
    let rest = HaveLines-paragraphs_from (n + 1) lines in
    cond_both (is_blank line) _ _ HaveLines (λ _. rest) (λ _. HaveLines-with_line n line (begins_blank lines) (paragraphs_from (n + 1) lines) rest)
