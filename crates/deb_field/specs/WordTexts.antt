-- Lemmas that the prover checks, and words for them: nothing in this file needs to be believed.
--
-- The text of words with one space between two of them.
use Rattle.std.proofs.Common.{◌≡◌, ℕ, ◌+◌, ◌≤◌, Bool, true, false, cond, List, [], ◌∷◌, ◌++◌, length, length-append, append-nil, append_assoc, refl, sym, ap, ◌∙◌, arith}
use Rattle.std.specs.Prelude.{codes}
use Rattle.std.specs.List.{filter, slice_split, onto_first}
use Rattle.deb_field.specs.Words.{is_white, is_word, words_of, words_text}
use Rattle.deb_field.specs.WordCuts.{split-white, split-other, first_piece}

-- words after a first one, each with a space before it
abbrev pub more_text : List (List ℕ) → List ℕ
more_text [] = []
more_text (word ∷ words) = 32 ∷ (word ++ more_text words)

pub words_text-cons : (word : List ℕ) (words : List (List ℕ))
    → words_text (word ∷ words) ≡ word ++ more_text words
words_text-cons word [] = sym (append-nil word)
words_text-cons word (next ∷ words) = ap (λ t. word ++ (32 ∷ t)) (words_text-cons next words)

-- the lengths of words, with one byte for each
abbrev pub total : List (List ℕ) → ℕ
total [] = 0
total (word ∷ words) = length word + 1 + total words

pub length-more_text : (words : List (List ℕ)) → length (more_text words) ≡ total words
length-more_text [] = refl
length-more_text (word ∷ words) =
    omega (arith, length-append word (more_text words), length-more_text words)

-- with a byte to spare, where there is a word
words_text-spare : (word : List ℕ) (words : List (List ℕ))
    → length (words_text (word ∷ words)) + 1 ≡ total (word ∷ words)
words_text-spare word words =
    omega (
      arith,
      ap length (words_text-cons word words),
      length-append word (more_text words),
      length-more_text words,
    )

filter-step : (piece : List ℕ) (pieces : List (List ℕ)) (keep : Bool) → is_word piece ≡ keep
    → total (filter is_word pieces) ≤ total pieces
    → total (filter is_word (piece ∷ pieces)) ≤ total (piece ∷ pieces)
filter-step piece pieces true h le =
    let e : filter is_word (piece ∷ pieces) ≡ piece ∷ filter is_word pieces =
    ap (λ t. cond t (piece ∷ filter is_word pieces) (filter is_word pieces)) h in
    omega (arith, ap total e, le)
filter-step piece pieces false h le =
    let e : filter is_word (piece ∷ pieces) ≡ filter is_word pieces =
    ap (λ t. cond t (piece ∷ filter is_word pieces) (filter is_word pieces)) h in
    omega (arith, ap total e, le)

total-filter : (pieces : List (List ℕ)) → total (filter is_word pieces) ≤ total pieces
total-filter [] = omega arith
total-filter (piece ∷ pieces) = filter-step piece pieces (is_word piece) refl (total-filter pieces)

total-onto : (b : ℕ) (pieces : List (List ℕ)) (first : List ℕ) (others : List (List ℕ))
    → pieces ≡ first ∷ others → total (onto_first b pieces) ≡ total pieces + 1
total-onto b pieces first others e = omega (arith, ap (λ p. total (onto_first b p)) e, ap total e)

split-step : (b : ℕ) (bs : List ℕ) (white : Bool) → is_white b ≡ white
    → total (slice_split is_white bs) ≡ length bs + 1
    → total (slice_split is_white (b ∷ bs)) ≡ length (b ∷ bs) + 1
split-step b bs true h e = omega (arith, ap total (split-white b bs h), e)
split-step b bs false h e =
    let p = first_piece bs in
    omega (
      arith,
      ap total (split-other b bs h),
      total-onto b (slice_split is_white bs) _ p.others p.split,
      e,
    )

total-split : (text : List ℕ) → total (slice_split is_white text) ≡ length text + 1
total-split [] = omega arith
total-split (b ∷ bs) = split-step b bs (is_white b) refl (total-split bs)

total-words : (text : List ℕ) → total (words_of text) ≤ length text + 1
total-words text = omega (arith, total-filter (slice_split is_white text), total-split text)

short-words : (text : List ℕ) (words : List (List ℕ)) → words_of text ≡ words
    → length (words_text words) ≤ length text
short-words text [] e = omega arith
short-words text (word ∷ words) e =
    omega (arith, words_text-spare word words, total-words text, ap total e)

-- words with one space between two of them are no longer than the text that has them
pub words_text-short : (text : List ℕ) → length (words_text (words_of text)) ≤ length text
words_text-short text = short-words text (words_of text) refl

-- a first word is cut off, and the words after it are those of the rest
module _ (text word from rest others : List ℕ) (same : from ≡ text)
    (cut : words_of from ≡ word ∷ words_of rest) (goes : others ≡ rest) where
  cut-text : words_text (words_of text) ≡ word ++ more_text (words_of others)
  cut-text =
      ap (λ t. words_text (words_of t)) (sym same) ∙ ap words_text cut
      ∙ words_text-cons word (words_of rest) ∙ ap (λ t. word ++ more_text (words_of t)) (sym goes)

  pub begin-len : length word + length (more_text (words_of others))
      ≡ length (words_text (words_of text))
  begin-len = omega (arith, ap length cut-text, length-append word (more_text (words_of others)))

  pub begin-text : (out new : List ℕ) → new ≡ out ++ word
      → new ++ more_text (words_of others) ≡ out ++ words_text (words_of text)
  begin-text out new e =
      ap (λ t. t ++ more_text (words_of others)) e
      ∙ append_assoc out word (more_text (words_of others)) ∙ ap (λ t. out ++ t) (sym cut-text)

words_aa_and_b : (more_text [] ≡ []) × (more_text (codes "aa" ∷ codes "b" ∷ []) ≡ codes " aa b")
    × (total [] ≡ 0) × (total (codes "aa" ∷ codes "b" ∷ []) ≡ 5)
words_aa_and_b = (refl, refl, refl, refl)
