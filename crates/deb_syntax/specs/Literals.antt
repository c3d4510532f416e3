-- A reader of paragraphs that is written out, for worked cases of what it shows.
use Rattle.std.specs.Prelude.{[], ◌∷◌, length, Some, None, codes, true, false}
use Rattle.std.specs.Str.{is_utf8, chars}
use lib.Utf8.{encode}
use Rattle.std.proofs.Common.{ap, arith, length-append, refl}
use Rattle.std.proofs.Math.Dec.{lit≤}
use Rattle.deb_base.specs.Bodies.{newline, paragraph_limit}
use Rattle.deb_base.specs.Kinds.{known_row, row_count}
use Rattle.deb_base.specs.Literals.{vector}
use Rattle.deb_syntax.specs.Answers.{Seen}
use Rattle.deb_syntax.specs.Lines.{Paragraph}
use Rattle.deb_syntax.specs.declared.paragraphs.Paragraphs.{Paragraphs}

-- the paragraph that was found last, and the lines of it that were judged
abbrev pub found : Seen
found = record {
  first = 5;
  fields = record { name = codes "A"; line = 5; body = codes "1\n 2" }
      ∷ record { name = codes "B"; line = 7; body = [] } ∷ [];
}

abbrev pub judged_lines : Paragraph
judged_lines = record { first = 5; lines = codes "A: 1" ∷ codes " 2" ∷ [] }

-- two lines have passed before the buffer, and five in it; one is unread, and the last of the file
unfoldable pub a_reader : Paragraphs
unfolding paragraph_limit is_utf8 chars encode known_row
a_reader = record {
  cursor = record {
    buffer = record {
      buffer = vector (codes "\n\nA: 1\n 2\nB:\nC") refl;
      start = 13;
      filled = 14;
      ordered = lit≤ tt;
      within = lit≤ tt;
      small = lit≤ tt;
    };
    bytes = 15;
    lines = 7;
    ended = true;
    few = lit≤ tt;
    small = lit≤ tt;
  };
  overlong_len = 0;
  finished = false;
  current = Some (record { from = 2; to = 12; first_line = 5 });
  judged = Some (record { from = 2; to = 9; first_line = 5 });
  spans = vector
      (record { line = 5; start = 0; colon = 1; end = 7; id = record { 0 = row_count } }
      ∷ record { line = 7; start = 8; colon = 9; end = 10; id = record { 0 = row_count } }
      ∷ []) refl;
  ends = vector [] refl;
  fault = None;
  near = λ front more whole.
      omega (arith, ap length whole, length-append front (newline ∷ more));
  reach = lit≤ tt;
  hides = λ some. absurd (omega (arith, some));
  stands = refl;
  judges = refl;
}
