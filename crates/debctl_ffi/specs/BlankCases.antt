-- Worked cases of blank lines that are only counted.
use Rattle.std.specs.Prelude.{◌≡◌, true, false, [], codes, refl}
use Rattle.std.proofs.Common.{arith}
use Rattle.deb_base.specs.Bodies.{paragraph_limit}
use Rattle.debctl_ffi.specs.Blanks.{AreBlankLines, DropsBlanks, blank_text, blank_text_from, is_closing, share_of}

-- few spaces a line, and as many as it may have where more are needed
shares_of_lines : (share_of 2 5 ≡ 5) × (share_of 3 2000 ≡ 1024) × (share_of 1 1025 ≡ 1025)
    × (share_of 1 16777216 ≡ 16777215) × (share_of 4 0 ≡ 0)
shares_of_lines = (refl, refl, refl, refl, refl)

texts_of_lines : (blank_text 0 0 ≡ []) × (blank_text 2 3 ≡ codes "   \n\n")
    × (blank_text_from 1 2 0 ≡ codes " \n\n") × (blank_text_from 0 2 1 ≡ codes "\n \n")
    × (blank_text_from 4 0 9 ≡ [])
texts_of_lines = (refl, refl, refl, refl, refl)

two_blank_lines : AreBlankLines (codes "\t\n\n") 2 1
unfolding paragraph_limit
two_blank_lines =
    record {
      whole = refl;
      blank = (refl, (refl, tt));
      counted = refl;
      bytes = refl;
      few = omega arith;
    }

-- the second line is blank, and has its newline
closing_texts : (is_closing (codes "a\n\n") ≡ true) × (is_closing (codes "\n \t\n") ≡ true)
    × (is_closing (codes "\n") ≡ false) × (is_closing (codes "a\nb\n") ≡ false)
    × (is_closing (codes "a\n ") ≡ false)
unfolding paragraph_limit
closing_texts = (refl, refl, refl, refl, refl)

-- a tab has become a space
other_blank_lines : DropsBlanks (codes "a\n\n\t\n\nb") (codes "a\n\n \n\nb")
unfolding paragraph_limit
other_blank_lines =
    record {
      front = codes "a\n\n";
      before = codes "\t\n\n";
      after = codes " \n\n";
      rest = codes "b";
      lines = 2;
      spaces = 1;
      was = refl;
      is = refl;
      closing = refl;
      blank_before = two_blank_lines;
      blank_after = record {
        whole = refl;
        blank = (refl, (refl, tt));
        counted = refl;
        bytes = refl;
        few = omega arith;
      };
    }
