-- The bytes that were kept.
use Rattle.std.specs.Prelude.{◌≡◌, ℕ, List, ◌++◌, replicate, take, drop, codes, refl}
use Rattle.std.proofs.Common.{arith}
use Rattle.std.proofs.Math.Dec.{lit≤}
use Rattle.deb_base.specs.Bodies.{paragraph_limit}
use Rattle.deb_base.specs.Literals.{lent, vector}
use Rattle.debctl_ffi.specs.Blanks.{blank_text, blank_text_from}
use Rattle.debctl_ffi.specs.LongLines.{line_byte, with_long}
use Rattle.debctl_ffi.specs.declared.kept.Held.{Held}
use Rattle.debctl_ffi.specs.declared.kept.Kept.{Kept}

abbrev pub kept_text : Kept → List ℕ
kept_text kept =
    take kept.front kept.bytes.items
    ++ (blank_text kept.lines kept.spaces
    ++ with_long kept.between kept.long (drop kept.front kept.bytes.items))

abbrev pub held_text : Held → List ℕ
held_text held =
    held.front.bytes.now
    ++ (blank_text_from held.blanks.first held.blanks.lines held.blanks.spaces
    ++ (held.between.bytes.now
    ++ (replicate held.long.count line_byte ++ held.back.bytes.now)))

-- two blank lines with a space are only counted, and three bytes of a line
abbrev some_kept : Kept
unfolding paragraph_limit
some_kept = record {
  bytes = vector (codes "a\n\nbcd") refl;
  front = 3;
  lines = 2;
  spaces = 1;
  between = 1;
  long = 3;
  within = lit≤ tt;
  few = omega arith;
  closing = refl;
}

worked-texts : (kept_text some_kept ≡ codes "a\n\n \n\nbxxxcd") × (held_text (record {
  front = record { bytes = lent (codes "\n") };
  blanks = record { first = 1; lines = 2; spaces = 3 };
  between = record { bytes = lent (codes "b") };
  long = record { count = 3 };
  back = record { bytes = lent (codes "cd") };
}) ≡ codes "\n \n   \nbxxxcd")
unfolding some_kept paragraph_limit
worked-texts = (refl, refl)
