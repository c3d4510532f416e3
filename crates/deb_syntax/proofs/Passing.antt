-- What passes of a text: blank lines, a paragraph, or all that is left.
use Rattle.deb_syntax.proofs.Common.{◌≡◌, ◌≢◌, ℕ, ◌+◌, ◌⊎◌, inl, inr, true, List, [], ◌∷◌, ◌++◌, length, refl, sym, ap, ◌∙◌, append_assoc, arith, length-append, append-nil, Line, AreBlank, AreNotBlank, lines_of, ends_blank, IsClosed, paragraphs_from, paragraphs_of}
use Rattle.deb_syntax.proofs.Boundaries.{lines_of-append, ends_line-both}
use Rattle.deb_syntax.proofs.NextParagraph.{paragraphs_from-append, no_paragraph, next_paragraph, ends_blank-append}

-- what has passed is closed, or nothing follows it
abbrev pub IsBehind : (passed more : List ℕ) → Type 0
IsBehind passed more = IsClosed passed ⊎ (more ≡ [])

pub lines_behind : (passed more : List ℕ) → IsBehind passed more → lines_of (passed ++ more) ≡ lines_of passed ++ lines_of more
lines_behind passed more (inl closed) = lines_of-append passed more closed.0
lines_behind passed more (inr none) =
    ap (λ zs. lines_of (passed ++ zs)) none ∙ ap lines_of (append-nil passed) ∙ sym (append-nil (lines_of passed)) ∙ ap (λ zs. lines_of passed ++ lines_of zs) (sym none)

pub paragraphs_behind : (passed more : List ℕ) → IsBehind passed more → paragraphs_of (passed ++ more) ≡ paragraphs_of passed ++ paragraphs_from (1 + length (lines_of passed)) (lines_of more)
paragraphs_behind passed more (inl closed) =
    ap (paragraphs_from 1) (lines_of-append passed more closed.0) ∙ paragraphs_from-append 1 (lines_of passed) (lines_of more) closed.1
paragraphs_behind passed more (inr none) =
    ap (λ zs. paragraphs_of (passed ++ zs)) none ∙ ap paragraphs_of (append-nil passed) ∙ sym (append-nil (paragraphs_of passed))
    ∙ ap (λ zs. paragraphs_of passed ++ paragraphs_from (1 + length (lines_of passed)) (lines_of zs)) (sym none)

-- a text is what has passed and what hasn't; the first has so many bytes and lines
pub record IsCut (text passed ahead : List ℕ) (count lines_count : ℕ) : Type 0 where
  pub whole : text ≡ passed ++ ahead
  pub bytes : count ≡ length passed
  pub lines : lines_count ≡ length (lines_of passed)
  pub behind : IsBehind passed ahead

nothing : (a b : List ℕ) → a ++ b ≡ [] → (a ≡ []) × (b ≡ [])
nothing [] b e = (refl, e)
nothing (x ∷ a) b e = absurd cc

-- closed lines and more of them
pub closed_more : (passed more : List ℕ) → IsClosed passed → IsClosed more → IsClosed (passed ++ more)
closed_more passed more a b = (ends_line-both passed more a.0 b.0, go (lines_of more) refl)
  where
    go : (lines : List Line) → lines_of more ≡ lines → ends_blank (lines_of (passed ++ more)) ≡ true
    go [] is = ap ends_blank (lines_of-append passed more a.0 ∙ ap (λ ls. lines_of passed ++ ls) is ∙ append-nil (lines_of passed)) ∙ a.1
    go (line ∷ lines) is =
        let some : line ∷ lines ≢ [] = λ e. cc in
        ap ends_blank (lines_of-append passed more a.0 ∙ ap (λ ls. lines_of passed ++ ls) is) ∙ ends_blank-append (lines_of passed) (line ∷ lines) some (ap ends_blank (sym is) ∙ b.1)

module _ (text passed ahead : List ℕ) (bytes lines : ℕ) (cut : IsCut text passed ahead bytes lines) where
  -- a prefix of what hasn't passed has passed
  pub cut_more : (front more : List ℕ) → ahead ≡ front ++ more → (IsClosed front ⊎ (more ≡ [])) → IsCut text (passed ++ front) more (bytes + length front) (lines + length (lines_of front))
  cut_more front more is closed = record {
    whole = cut.whole ∙ ap (λ zs. passed ++ zs) is ∙ sym (append_assoc passed front more);
    bytes = omega (arith, cut.bytes, length-append passed front);
    lines = omega (arith, cut.lines, ap length (lines_behind passed front front_behind), length-append (lines_of passed) (lines_of front));
    behind = go cut.behind closed;
  }
    where
      front_behind : IsBehind passed front
      front_behind = elim cut.behind [ inl c ↦ inl c | inr none ↦ inr (nothing front more (sym is ∙ none)).0 ]

      go : IsBehind passed ahead → (IsClosed front ⊎ (more ≡ [])) → IsBehind (passed ++ front) more
      go b (inr none) = inr none
      go (inl c) (inl d) = inl (closed_more passed front c d)
      go (inr none) (inl d) = inr (nothing front more (sym is ∙ none)).1

  front_paragraphs : (front more : List ℕ) → ahead ≡ front ++ more → paragraphs_of (passed ++ front) ≡ paragraphs_of passed ++ paragraphs_from (1 + length (lines_of passed)) (lines_of front)
  front_paragraphs front more is =
      paragraphs_behind passed front (elim cut.behind [ inl c ↦ inl c | inr none ↦ inr (nothing front more (sym is ∙ none)).0 ])

  -- blank lines before them
  pub blanks-passed : (front more : List ℕ) → ahead ≡ front ++ more → AreBlank (lines_of front) → paragraphs_of (passed ++ front) ≡ paragraphs_of passed
  blanks-passed front more is blank =
      front_paragraphs front more is ∙ ap (λ ps. paragraphs_of passed ++ ps) (no_paragraph (1 + length (lines_of passed)) (lines_of front) blank) ∙ append-nil (paragraphs_of passed)

  -- a paragraph, and blank lines after it
  pub paragraphs-passed : (front more : List ℕ) (line : Line) (run ending : List Line) → ahead ≡ front ++ more → lines_of front ≡ (line ∷ run) ++ ending → AreNotBlank (line ∷ run) → AreBlank ending → paragraphs_of (passed ++ front) ≡ paragraphs_of passed ++ record { first = lines + 1; lines = line ∷ run } ∷ []
  paragraphs-passed front more line run ending is front_lines not_blank blank =
      let number : 1 + length (lines_of passed) + 0 ≡ lines + 1 = omega (arith, cut.lines) in
      let some : line ∷ run ≢ [] = λ e. cc in
      front_paragraphs front more is ∙ ap (λ ls. paragraphs_of passed ++ paragraphs_from (1 + length (lines_of passed)) ls) front_lines
      ∙ ap (λ ps. paragraphs_of passed ++ ps) (next_paragraph (1 + length (lines_of passed)) [] (line ∷ run) ending tt not_blank some (begins ending blank)
      ∙ ap (λ ps. record { first = 1 + length (lines_of passed) + 0; lines = line ∷ run } ∷ ps) (no_paragraph (1 + length (lines_of passed) + 0 + length (line ∷ run)) ending blank)
      ∙ ap (λ n. record { first = n; lines = line ∷ run } ∷ []) number)
    where
      begins : (lines : List Line) → AreBlank lines → Rattle.deb_syntax.specs.Lines.begins_blank lines ≡ true
      begins [] h = refl
      begins (l ∷ ls) h = h.0
