-- Lemmas that the prover checks, and words for them: nothing in this file needs to be believed.
--
-- How the words of a text are cut off, one after the other.
use Rattle.std.proofs.Common.{◌≡◌, ℕ, suc, ◌+◌, ◌-◌, ◌==◌, Bool, true, false, not, cond, List, [], ◌∷◌, length, take, drop, refl, sym, ap, ◌∙◌, arith}
use Rattle.std.specs.Prelude.{codes}
use Rattle.std.proofs.lemmas.Bool.{not_from_false, ne_eqb}
use Rattle.std.proofs.lemmas.List.{take_rest}
use Rattle.std.proofs.lemmas.List.Folds.{length-prefix_len}
use Rattle.std.specs.List.{prefix_len, filter, slice_split, onto_first}
use Rattle.deb_field.specs.Words.{is_white, is_word, words_of}

abbrev pub is_other : ℕ → Bool
is_other b = not (is_white b)

pub split-white : (b : ℕ) (bs : List ℕ) → is_white b ≡ true
    → slice_split is_white (b ∷ bs) ≡ [] ∷ slice_split is_white bs
split-white b bs h =
    ap (λ t. cond t ([] ∷ slice_split is_white bs) (onto_first b (slice_split is_white bs))) h

pub split-other : (b : ℕ) (bs : List ℕ) → is_white b ≡ false
    → slice_split is_white (b ∷ bs) ≡ onto_first b (slice_split is_white bs)
split-other b bs h =
    ap (λ t. cond t ([] ∷ slice_split is_white bs) (onto_first b (slice_split is_white bs))) h

-- white space before a text
pub words_of-white : (b : ℕ) (bs : List ℕ) → is_white b ≡ true → words_of (b ∷ bs) ≡ words_of bs
words_of-white b bs h = ap (filter is_word) (split-white b bs h)

drop-more : (b : ℕ) (bs : List ℕ) (n : ℕ) → drop (1 + n) (b ∷ bs) ≡ drop n bs
drop-more b bs n = let e : 1 + n ≡ suc n = omega arith in ap (λ k. drop k (b ∷ bs)) e

take-more : (b : ℕ) (bs : List ℕ) (n : ℕ) → take (1 + n) (b ∷ bs) ≡ b ∷ take n bs
take-more b bs n = let e : 1 + n ≡ suc n = omega arith in ap (λ k. take k (b ∷ bs)) e

-- the text after the white space at its start
abbrev pub behind_white : List ℕ → List ℕ
behind_white text = drop (prefix_len is_white text) text

behind-white : (b : ℕ) (bs : List ℕ) → is_white b ≡ true → behind_white (b ∷ bs) ≡ behind_white bs
behind-white b bs h =
    ap (λ t. drop (cond t (1 + prefix_len is_white bs) 0) (b ∷ bs)) h
    ∙ drop-more b bs (prefix_len is_white bs)

behind-other : (b : ℕ) (bs : List ℕ) → is_white b ≡ false → behind_white (b ∷ bs) ≡ b ∷ bs
behind-other b bs h = ap (λ t. drop (cond t (1 + prefix_len is_white bs) 0) (b ∷ bs)) h

words-behind-step : (b : ℕ) (bs : List ℕ) (white : Bool) → is_white b ≡ white
    → words_of (behind_white bs) ≡ words_of bs
    → words_of (behind_white (b ∷ bs)) ≡ words_of (b ∷ bs)
words-behind-step b bs true h e =
    ap words_of (behind-white b bs h) ∙ e ∙ sym (words_of-white b bs h)
words-behind-step b bs false h e = ap words_of (behind-other b bs h)

pub words_of-behind_white : (text : List ℕ) → words_of (behind_white text) ≡ words_of text
words_of-behind_white [] = refl
words_of-behind_white (b ∷ bs) = words-behind-step b bs (is_white b) refl (words_of-behind_white bs)

other_len : (b : ℕ) (bs : List ℕ) → is_white b ≡ false
    → prefix_len is_other (b ∷ bs) ≡ 1 + prefix_len is_other bs
other_len b bs h = ap (λ t. cond (not t) (1 + prefix_len is_other bs) 0) h

white_len : (b : ℕ) (bs : List ℕ) → is_white b ≡ true → prefix_len is_other (b ∷ bs) ≡ 0
white_len b bs h = ap (λ t. cond (not t) (1 + prefix_len is_other bs) 0) h

none-step : (b : ℕ) (bs : List ℕ) (white : Bool) → is_white b ≡ white
    → (prefix_len is_other (behind_white bs) ≡ 0 → words_of bs ≡ [])
    → prefix_len is_other (behind_white (b ∷ bs)) ≡ 0 → words_of (b ∷ bs) ≡ []
none-step b bs true h rest e =
    words_of-white b bs h ∙ rest (sym (ap (prefix_len is_other) (behind-white b bs h)) ∙ e)
none-step b bs false h rest e =
    absurd (omega (arith, ap (prefix_len is_other) (behind-other b bs h), other_len b bs h))

-- nothing but white space
pub no_word : (text : List ℕ) → prefix_len is_other (behind_white text) ≡ 0 → words_of text ≡ []
no_word [] e = refl
no_word (b ∷ bs) e = none-step b bs (is_white b) refl (no_word bs) e

-- the first piece of a text, and the words after it
pub record FirstPiece (text : List ℕ) : Type 0 where
  pub others : List (List ℕ)
  pub split : slice_split is_white text ≡ take (prefix_len is_other text) text ∷ others
  pub rest : filter is_word others ≡ words_of (drop (prefix_len is_other text) text)

first-step : (b : ℕ) (bs : List ℕ) (white : Bool) → is_white b ≡ white → FirstPiece bs
    → FirstPiece (b ∷ bs)
first-step b bs true h p = record {
  others = slice_split is_white bs;
  split =
      split-white b bs h ∙ ap (λ n. take n (b ∷ bs) ∷ slice_split is_white bs)
      (sym (white_len b bs h));
  rest =
      sym (words_of-white b bs h) ∙ ap (λ n. words_of (drop n (b ∷ bs))) (sym (white_len b bs h));
}
first-step b bs false h p = record {
  others = p.others;
  split =
      split-other b bs h ∙ ap (onto_first b) p.split
      ∙ ap (λ t. t ∷ p.others) (sym (take-more b bs (prefix_len is_other bs)))
      ∙ ap (λ n. take n (b ∷ bs) ∷ p.others) (sym (other_len b bs h));
  rest =
      p.rest ∙ ap words_of (sym (drop-more b bs (prefix_len is_other bs)))
      ∙ ap (λ n. words_of (drop n (b ∷ bs))) (sym (other_len b bs h));
}

pub first_piece : (text : List ℕ) → FirstPiece text
first_piece [] = record { others = []; split = refl; rest = refl }
first_piece (b ∷ bs) = first-step b bs (is_white b) refl (first_piece bs)

-- a text that doesn't begin with white space begins with its first word
pub first_word : (text : List ℕ) → (prefix_len is_other text ≡ 0 → ⊥)
    → words_of text ≡ take (prefix_len is_other text) text ∷ words_of
    (drop (prefix_len is_other text) text)
first_word text some =
    let p = first_piece text in
    let long = length-prefix_len is_other text in
    let word : is_word (take (prefix_len is_other text) text) ≡ true =
    not_from_false (length (take (prefix_len is_other text) text) == 0)
    (ne_eqb (length (take (prefix_len is_other text) text)) 0 (λ e. some (sym long ∙ e))) in
    ap (filter is_word) p.split ∙ ap (λ t. cond t
    (take (prefix_len is_other text) text ∷ filter is_word p.others) (filter is_word p.others)) word
    ∙ ap (λ ws. take (prefix_len is_other text) text ∷ ws) p.rest

-- the same in the words of slices
pub behind_white-slice : (text : List ℕ) (n : ℕ) → n ≡ prefix_len is_white text
    → take (length text - n) (drop n text) ≡ behind_white text
behind_white-slice text n e = take_rest text n ∙ ap (λ k. drop k text) e

pub cut-none : (text behind : List ℕ) (n : ℕ) → behind ≡ behind_white text
    → n ≡ prefix_len is_other behind → n ≡ 0 → words_of text ≡ []
cut-none text behind n e l none = no_word text (sym (ap (prefix_len is_other) e) ∙ sym l ∙ none)

pub cut-some : (text behind : List ℕ) (n : ℕ) → behind ≡ behind_white text
    → n ≡ prefix_len is_other behind → (n ≡ 0 → ⊥)
    → words_of text ≡ take n behind ∷ words_of (take (length behind - n) (drop n behind))
cut-some text behind n e l some =
    sym (words_of-behind_white text) ∙ ap words_of (sym e) ∙ first_word behind (λ z. some (l ∙ z))
    ∙ ap (λ k. take k behind ∷ words_of (drop k behind)) (sym l)
    ∙ ap (λ t. take n behind ∷ words_of t) (sym (take_rest behind n))

white_fronts : (is_other 32 ≡ false) × (is_other 97 ≡ true)
    × (behind_white (codes " \n\taa b") ≡ codes "aa b") × (behind_white [] ≡ [])
white_fronts = (refl, refl, refl, refl)
