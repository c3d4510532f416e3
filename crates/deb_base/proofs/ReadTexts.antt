-- What a file that was read beyond a limit says of the whole file, and how much is taken of one.
use Rattle.std.proofs.Common.{◌≡◌, ◌<◌, ◌≤◌, ℕ, List, [], length, length-append, Option, Some, None, inr, refl, sym, ap, ◌∙◌, arith, unwrap_or}
use Rattle.std.specs.Io.KnownBytes.{Consumes}
use Rattle.deb_base.specs.Reading.{ReadsEnough, TakesNoMore}

-- more was read than the most
pub read_too_much : (most : ℕ) (left after : Option (List ℕ)) (read : List ℕ) → Consumes left after read → most < length read → ReadsEnough most left read
read_too_much most None after read consumed long text is = let bad : ⊥ = cc in absurd bad
read_too_much most (Some all) None read consumed long text is = absurd consumed
read_too_much most (Some all) (Some ys) read consumed long text is =
    let same : all ≡ text = ap (λ o. unwrap_or o []) is in
    record { rest = ys; whole = sym same ∙ consumed; enough = inr long }

-- one piece more was taken, after no more bytes than the most
pub piece_takes : (most : ℕ) (left mid after : Option (List ℕ)) (read : List ℕ) → Consumes left mid read → length read ≤ most
    → ((text : List ℕ) → mid ≡ Some text → TakesNoMore text 0 after) → (text : List ℕ) → left ≡ Some text → TakesNoMore text most after
piece_takes most None mid after read consumed short takes text is = let bad : ⊥ = cc in absurd bad
piece_takes most (Some all) None after read consumed short takes text is = absurd consumed
piece_takes most (Some all) (Some more) after read consumed short takes text is =
    let same : all ≡ text = ap (λ o. unwrap_or o []) is in
    let piece = takes more refl in
    record { rest = piece.rest; told = piece.told; few = omega (arith, short, piece.few, ap length (sym same ∙ consumed), length-append read more) }
