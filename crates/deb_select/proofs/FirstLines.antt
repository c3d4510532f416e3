-- The first line of a text, up to its first newline.
use Rattle.std.proofs.Common.{◌≡◌, ℕ, suc, ◌+◌, ◌-◌, ◌<◌, List, [], ◌∷◌, ◌++◌, length, take, drop, Some, None, arith, sym, ap, ◌∙◌}
use Rattle.std.proofs.lemmas.Bool.{eqb-true}
use Rattle.std.proofs.lemmas.List.{take_rest}
use Rattle.memchr.specs.Find.{IsFirstByte, is_byte}
use Rattle.deb_base.specs.Bodies.{newline, pieces_of}
use Rattle.deb_syntax.proofs.Runs.{pieces_of-last, pieces_of-line}
use Rattle.deb_syntax.proofs.WalkingSteps.{line-found, line-none, newline_at}

pub first_cut : (text : List ℕ) (at : ℕ) → IsFirstByte (is_byte newline) text (Some at) → take at text ∷ pieces_of (take (length text - (at + 1)) (drop (at + 1) text)) ≡ pieces_of text
first_cut text at first =
    let high : at < length text = first.0.high in
    let next : at + 1 ≡ suc at = omega arith in
    let parted : text ≡ take at text ++ newline ∷ drop (suc at) text = newline_at text at high (eqb-true _ _ first.1) in
    let line = line-found text at (λ k below is. first.0.before k (omega arith) below is) high in
    ap (λ l. take at text ∷ pieces_of l) (take_rest text (at + 1) ∙ ap (λ n. drop n text) next)
    ∙ sym (ap pieces_of parted ∙ pieces_of-line (take at text) (drop (suc at) text) line)

pub only_line : (text : List ℕ) → IsFirstByte (is_byte newline) text None → text ∷ [] ≡ pieces_of text
only_line text none = sym (pieces_of-last text (line-none text (λ k below is. none k (omega arith) below is)))
