-- The part of a text that is looked at, after whole lines of it.
use Rattle.deb_syntax.proofs.Common.{cond-true, cond-false, ◌≡◌, ℕ, ◌+◌, ◌-◌, ◌<◌, ◌≤◌, ◌==◌, inl, inr, true, List, [], ◌∷◌, ◌++◌, Some, None, length, take, leb, refl, sym, ap, ◌∙◌, arith, length-append, le-leb, lt-leb, cases_lt, take-append-add, newline, HasNoNewline, with_whole, whole_lines, part_within, line_beyond, lines_of, ends_line}
use Rattle.deb_syntax.proofs.Boundaries.{lines_of-append}

-- a newline before whole lines is one
newline-whole : (b : ℕ) (text : List ℕ) → (b == newline) ≡ true → with_whole b text ≡ b ∷ text
newline-whole b [] is = cond-true (b == newline) (b ∷ []) [] is
newline-whole b (c ∷ cs) is = refl

-- whole lines and then others
pub whole_lines-append : (a b : List ℕ) → ends_line a ≡ true → whole_lines (a ++ b) ≡ a ++ whole_lines b
whole_lines-append [] b h = refl
whole_lines-append (x ∷ []) b h = newline-whole x (whole_lines b) h
whole_lines-append (x ∷ y ∷ a) b h = ap (with_whole x) (whole_lines-append (y ∷ a) b h)

-- no line of a text without newline is whole
pub whole_lines-none : (text : List ℕ) → HasNoNewline text → whole_lines text ≡ []
whole_lines-none [] h = refl
whole_lines-none (b ∷ bs) h = ap (with_whole b) (whole_lines-none bs h.1) ∙ cond-false (b == newline) (b ∷ []) [] h.0

-- a text that isn't too long
pub part_within-all : (room : ℕ) (text : List ℕ) → length text ≤ room → part_within room text ≡ text
part_within-all room text h = cond-true (leb (length text) room) _ _ (le-leb (length text) room h)

-- one that is
pub part_within-some : (room : ℕ) (text : List ℕ) → room < length text → part_within room text ≡ whole_lines (take room text)
part_within-some room text h = cond-false (leb (length text) room) _ _ (lt-leb (length text) room h)

pub line_beyond-none : (n room : ℕ) (text : List ℕ) → length text ≤ room → line_beyond n room text ≡ None
line_beyond-none n room text h = cond-true (leb (length text) room) _ _ (le-leb (length text) room h)

pub line_beyond-some : (n room : ℕ) (text : List ℕ) → room < length text → line_beyond n room text ≡ Some (n + length (lines_of (part_within room text)))
line_beyond-some n room text h = cond-false (leb (length text) room) _ _ (lt-leb (length text) room h)

-- what is looked at of a text that begins with whole lines
pub part_within-append : (room : ℕ) (a b : List ℕ) → ends_line a ≡ true → length a ≤ room → part_within room (a ++ b) ≡ a ++ part_within (room - length a) b
part_within-append room a b ends within =
    elim (cases_lt (room - length a) (length b)) [
      | inl l ↦
          let long : room < length (a ++ b) = omega (arith, length-append a b) in
          let room_is : length a + (room - length a) ≡ room = omega arith in
          part_within-some room (a ++ b) long ∙ ap (λ r. whole_lines (take r (a ++ b))) (sym room_is) ∙ ap whole_lines (take-append-add a b (room - length a))
          ∙ whole_lines-append a (take (room - length a) b) ends ∙ ap (λ t. a ++ t) (sym (part_within-some (room - length a) b l))
      | inr l ↦
          let short : length (a ++ b) ≤ room = omega (arith, length-append a b) in
          part_within-all room (a ++ b) short ∙ ap (λ t. a ++ t) (sym (part_within-all (room - length a) b l))
    ]

-- the line of the first byte beyond, after whole lines
pub line_beyond-append : (n room : ℕ) (a b : List ℕ) → ends_line a ≡ true → length a ≤ room → line_beyond n room (a ++ b) ≡ line_beyond (n + length (lines_of a)) (room - length a) b
line_beyond-append n room a b ends within =
    elim (cases_lt (room - length a) (length b)) [
      | inl l ↦
          let long : room < length (a ++ b) = omega (arith, length-append a b) in
          let lines : lines_of (part_within room (a ++ b)) ≡ lines_of a ++ lines_of (part_within (room - length a) b)
          = ap lines_of (part_within-append room a b ends within) ∙ lines_of-append a (part_within (room - length a) b) ends in
          let count : n + length (lines_of (part_within room (a ++ b))) ≡ n + length (lines_of a) + length (lines_of (part_within (room - length a) b))
          = omega (arith, ap length lines, length-append (lines_of a) (lines_of (part_within (room - length a) b))) in
          line_beyond-some n room (a ++ b) long ∙ ap Some count ∙ sym (line_beyond-some (n + length (lines_of a)) (room - length a) b l)
      | inr l ↦
          let short : length (a ++ b) ≤ room = omega (arith, length-append a b) in
          line_beyond-none n room (a ++ b) short ∙ sym (line_beyond-none (n + length (lines_of a)) (room - length a) b l)
    ]
