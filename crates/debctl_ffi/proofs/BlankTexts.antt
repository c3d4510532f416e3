-- Blank lines, and the text of so many.
use Rattle.std.proofs.Common.{◌≡◌, ◌≢◌, ◌&&◌, ◌⊎◌, inr, ℕ, zero, suc, ◌+◌, ◌-◌, ◌*◌, ◌<◌, ◌≤◌, ◌==◌, ◌∙◌, min, Bool, true, false, cond, List, [], ◌∷◌, ◌++◌, length, take, drop, replicate, slice_index, nat_le, refl, sym, ap, subst, append_assoc, arith}
use Rattle.std.proofs.lemmas.Bool.{and_from, and_parts, false≢true, le-leb, leb-true}
use Rattle.std.proofs.lemmas.Bool.Decides.{nat_tests}
use Rattle.std.proofs.lemmas.List.{length-append, length-replicate, length-take-le, take-append-drop}
use Rattle.std.proofs.Math.Seq.{drop-append_seam, take-add, take-append_seam}
use Rattle.deb_base.proofs.AllElements.{All-append}
use Rattle.deb_base.specs.Bodies.{HasNoNewline, Line, is_all_blank, is_blank, is_blank_byte, newline, paragraph_limit, with_byte}
use Rattle.deb_syntax.specs.Extents.{AreBlank}
use Rattle.deb_syntax.specs.Lines.{IsClosed, ends_blank, ends_line, lines_of}
use Rattle.deb_syntax.proofs.Boundaries.{ends_line-append, ends_line-both, lines_of-append}
use Rattle.deb_syntax.proofs.LinesLawsTexts.{lines_of-some}
use Rattle.deb_syntax.proofs.NextParagraph.{ends_blank-append}
use Rattle.deb_syntax.proofs.Runs.{lines_of-line}
use Rattle.debctl_ffi.specs.Blanks.{AreBlankLines, DropsBlanks, blank_text, blank_text_from, is_closing, share_of}

no_newline_byte : (b : ℕ) → is_blank_byte b ≡ true → (b == newline) ≡ false
no_newline_byte b h = grind (arith, h, nat_tests)

pub no_newline : (line : Line) → is_all_blank line ≡ true → HasNoNewline line
no_newline [] h = tt
no_newline (b ∷ line) h = let p = and_parts (is_blank_byte b) (is_all_blank line) h in (no_newline_byte b p.0, no_newline line p.1)

all_spaces : (n : ℕ) → is_all_blank (replicate n 32) ≡ true
all_spaces zero = refl
all_spaces (suc n) = all_spaces n

-- no line, one, and those of two texts
pub no_lines : AreBlankLines [] 0 0
no_lines = record { whole = refl; blank = tt; counted = refl; bytes = refl; few = omega arith }

pub one_line : (line : Line) → is_all_blank line ≡ true → length line ≤ 16777215 → AreBlankLines (line ++ newline ∷ []) 1 (length line)
unfolding paragraph_limit
one_line line blank short =
    let lines : lines_of (line ++ newline ∷ []) ≡ line ∷ [] = lines_of-line line [] (no_newline line blank) in
    record {
      whole = ends_line-append [] line;
      blank = subst AreBlank (sym lines) (and_from _ _ (le-leb (length line + 1) 16777216 (omega (arith, short))) blank, tt);
      counted = ap length lines;
      bytes = omega (arith, length-append line (newline ∷ []));
      few = omega (arith, short);
    }

pub both_lines : (a b : List ℕ) (n s m t : ℕ) → AreBlankLines a n s → AreBlankLines b m t → AreBlankLines (a ++ b) (n + m) (s + t)
both_lines a b n s m t p q =
    let lines = lines_of-append a b p.whole in
    record {
      whole = ends_line-both a b p.whole q.whole;
      blank = subst AreBlank (sym lines) (All-append _ _ _ p.blank q.blank);
      counted = omega (arith, ap length lines, length-append (lines_of a) (lines_of b), p.counted, q.counted);
      bytes = omega (arith, length-append a b, p.bytes, q.bytes);
      few = omega (arith, p.few, q.few);
    }

-- how many spaces the first line has
record Shares (n s k : ℕ) : Type 0 where
  some : k ≤ s
  short : k ≤ 16777215
  rest : s - k ≤ n * 16777215

shares : (n s : ℕ) → s ≤ (n + 1) * 16777215 → Shares n s (share_of (n + 1) s)
shares n s few = go (nat_le s ((n + 1) * 1024)) refl
  where
    go : (t : Bool) → nat_le s ((n + 1) * 1024) ≡ t → Shares n s (min s (cond t 1024 16777215))
    go true is = let le = leb-true s ((n + 1) * 1024) is in record { some = omega arith; short = omega arith; rest = omega (arith, le) }
    go false is = record { some = omega arith; short = omega arith; rest = omega (arith, few) }

pub blank_text-lines : (n s : ℕ) → s ≤ n * 16777215 → AreBlankLines (blank_text n s) n s
blank_text-lines zero s few = subst (λ k. AreBlankLines [] 0 k) (omega (arith, few)) no_lines
blank_text-lines (suc n) s few =
    let one_more : suc n ≡ n + 1 = omega arith in
    let fit = subst (λ m. Shares n s (share_of m s)) (sym one_more) (shares n s (omega (arith, few, one_more))) in
    let k = share_of (suc n) s in
    let first = one_line (replicate k 32) (all_spaces k) (omega (arith, fit.short, length-replicate {A = ℕ} k 32)) in
    let both = both_lines (replicate k 32 ++ newline ∷ []) (blank_text n (s - k)) 1 (length (replicate k 32)) n (s - k) first (blank_text-lines n (s - k) fit.rest) in
    subst (λ text. AreBlankLines text (suc n) s) (append_assoc (replicate k 32) (newline ∷ []) (blank_text n (s - k)))
    (subst (λ m. AreBlankLines ((replicate k 32 ++ newline ∷ []) ++ blank_text n (s - k)) m s) (omega arith)
    (subst (λ t. AreBlankLines ((replicate k 32 ++ newline ∷ []) ++ blank_text n (s - k)) (1 + n) t) (omega (arith, length-replicate {A = ℕ} k 32, fit.some)) both))

-- the bytes one after another
pub from_first : (n s : ℕ) → blank_text_from (share_of n s) n (s - share_of n s) ≡ blank_text n s
from_first zero s = refl
from_first (suc n) s = refl

pub space_next : (first n s : ℕ) → 0 < first → 0 < n → blank_text_from first n s ≡ 32 ∷ blank_text_from (first - 1) n s
space_next zero n s some lines = absurd (omega (arith, some))
space_next (suc k) zero s some lines = absurd (omega (arith, lines))
space_next (suc k) (suc n) s some lines = let same : k ≡ suc k - 1 = omega arith in ap (λ j. 32 ∷ (replicate j 32 ++ newline ∷ blank_text n s)) same

pub newline_next : (first n s : ℕ) → first ≤ 0 → 0 < n → blank_text_from first n s ≡ newline ∷ blank_text_from (share_of (n - 1) s) (n - 1) (s - share_of (n - 1) s)
newline_next zero zero s none lines = absurd (omega (arith, lines))
newline_next zero (suc n) s none lines =
    let same : n ≡ suc n - 1 = omega arith in
    ap (λ m. newline ∷ blank_text m s) same ∙ ap (λ text. newline ∷ text) (sym (from_first (suc n - 1) s))
newline_next (suc k) n s none lines = absurd (omega (arith, none))

-- the part of a text up to a newline
take-one : (xs : List ℕ) (n : ℕ) → n < length xs → slice_index xs n ≡ newline → take (suc n) xs ≡ take n xs ++ newline ∷ []
take-one [] n lt here = absurd (omega (arith, lt))
take-one (x ∷ xs) zero lt here = ap (λ c. c ∷ []) here
take-one (x ∷ xs) (suc n) lt here = ap (λ zs. x ∷ zs) (take-one xs n (omega (arith, lt)) here)

pub take-line : (text : List ℕ) (n m : ℕ) → m < length (drop n text) → slice_index (drop n text) m ≡ newline → take (n + (m + 1)) text ≡ take n text ++ (take m (drop n text) ++ newline ∷ [])
take-line text n m lt here =
    let same : m + 1 ≡ suc m = omega arith in
    take-add n (m + 1) text ∙ ap (λ k. take n text ++ take k (drop n text)) same ∙ ap (λ zs. take n text ++ zs) (take-one (drop n text) m lt here)

-- one line more
pub more_lines : (text : List ℕ) (n m lines : ℕ) → AreBlankLines (take n text) lines (n - lines) → lines ≤ n → m < length (drop n text) → slice_index (drop n text) m ≡ newline → m ≤ 16777215 → is_all_blank (take m (drop n text)) ≡ true
    → AreBlankLines (take (n + (m + 1)) text) (lines + 1) (n + (m + 1) - (lines + 1))
more_lines text n m lines so_far few lt here short blank =
    let line = take m (drop n text) in
    let len : length line ≡ m = length-take-le m (drop n text) (omega (arith, lt)) in
    let both = both_lines (take n text) (line ++ newline ∷ []) lines (n - lines) 1 (length line) so_far (one_line line blank (omega (arith, len, short))) in
    subst (λ t. AreBlankLines t (lines + 1) (n + (m + 1) - (lines + 1))) (sym (take-line text n m lt here))
    (subst (AreBlankLines (take n text ++ (line ++ newline ∷ [])) (lines + 1)) (omega (arith, len, few)) both)

-- A text up to its second newline, of which the second line is blank.
some-line : (xs : List ℕ) (b : ℕ) → 1 ≤ length (lines_of (xs ++ b ∷ []))
some-line [] b = let f = lines_of-some b [] in omega (arith, ap length f.2)
some-line (x ∷ xs) b = let f = lines_of-some x (xs ++ b ∷ []) in omega (arith, ap length f.2)

pub closing-two : (text : List ℕ) (n m : ℕ) → n < length text → slice_index text n ≡ newline → m < length (drop (n + 1) text) → slice_index (drop (n + 1) text) m ≡ newline → m ≤ 16777215 → is_all_blank (take m (drop (n + 1) text)) ≡ true → is_closing (take (n + 1 + (m + 1)) text) ≡ true
unfolding paragraph_limit
closing-two text n m lt here lt_next here_next short blank =
    let line = take m (drop (n + 1) text) in
    let a = take n text ++ newline ∷ [] in
    let b = line ++ newline ∷ [] in
    let one : n + 1 ≡ suc n = omega arith in
    let len : length line ≡ m = length-take-le m (drop (n + 1) text) (omega (arith, lt_next)) in
    let is : take (n + 1 + (m + 1)) text ≡ a ++ b =
    take-line text (n + 1) m lt_next here_next ∙ ap (λ k. take k text ++ b) one ∙ ap (λ zs. zs ++ b) (take-one text n lt here) in
    let last : is_blank line ≡ true = and_from _ _ (le-leb (length line + 1) 16777216 (omega (arith, len, short))) blank in
    let lines : lines_of (a ++ b) ≡ lines_of a ++ line ∷ [] = lines_of-append a b (ends_line-append [] (take n text)) ∙ ap (λ ls. lines_of a ++ ls) (lines_of-line line [] (no_newline line blank)) in
    let some : line ∷ [] ≢ [] = λ e. cc in
    ap is_closing is
    ∙ and_from _ _ (and_from _ _ (ends_line-append a line) (ap ends_blank lines ∙ ends_blank-append (lines_of a) (line ∷ []) some last))
    (le-leb 2 (length (lines_of (a ++ b))) (omega (arith, ap length lines, length-append (lines_of a) (line ∷ []), some-line (take n text) newline)))

-- Whatever is before such a text, it is closed.
closing-more : (b : ℕ) (xs : List ℕ) → is_closing xs ≡ true → is_closing (b ∷ xs) ≡ true
closing-more b [] h = absurd (false≢true h)
closing-more b (c ∷ cs) h = go (lines_of (c ∷ cs)) refl
  where
    parts : (ends_line (c ∷ cs) && ends_blank (lines_of (c ∷ cs)) ≡ true) × (nat_le 2 (length (lines_of (c ∷ cs))) ≡ true)
    parts = and_parts _ _ h

    ends : (ends_line (c ∷ cs) ≡ true) × (ends_blank (lines_of (c ∷ cs)) ≡ true)
    ends = and_parts _ _ parts.0

    two : 2 ≤ length (lines_of (c ∷ cs))
    two = leb-true 2 (length (lines_of (c ∷ cs))) parts.1

    Good : List Line → Type 0
    Good lines = (ends_blank lines ≡ true) × (nat_le 2 (length lines) ≡ true)

    with_one : (l k : Line) (ls : List Line) → ends_blank (l ∷ k ∷ ls) ≡ true → (t : Bool) → Good (cond t ([] ∷ (l ∷ k ∷ ls)) (with_byte b (l ∷ k ∷ ls)))
    with_one l k ls e true = (e, le-leb 2 (length ([] ∷ l ∷ k ∷ ls)) (omega arith))
    with_one l k ls e false = (e, le-leb 2 (length ((b ∷ l) ∷ k ∷ ls)) (omega arith))

    go : (lines : List Line) → lines_of (c ∷ cs) ≡ lines → is_closing (b ∷ c ∷ cs) ≡ true
    go [] is = absurd (omega (arith, two, ap length is))
    go (l ∷ []) is = absurd (omega (arith, two, ap length is))
    go (l ∷ k ∷ ls) is =
        let good = subst (λ lines. Good (cond (b == newline) ([] ∷ lines) (with_byte b lines))) (sym is) (with_one l k ls (ap ends_blank (sym is) ∙ ends.1) (b == newline)) in
        and_from _ _ (and_from _ _ ends.0 good.0) good.1

closing-after : (e t : List ℕ) → is_closing t ≡ true → is_closing (e ++ t) ≡ true
closing-after [] t h = h
closing-after (b ∷ e) t h = closing-more b (e ++ t) (closing-after e t h)

pub closed-after : (e t : List ℕ) → is_closing t ≡ true → IsClosed (e ++ t)
closed-after e t h =
    let all = and_parts (ends_line (e ++ t) && ends_blank (lines_of (e ++ t))) (nat_le 2 (length (lines_of (e ++ t)))) (closing-after e t h) in
    and_parts (ends_line (e ++ t)) (ends_blank (lines_of (e ++ t))) all.0

pub closing-some : (text : List ℕ) → is_closing text ≡ true → 0 < length text
closing-some [] h = absurd (false≢true h)
closing-some (b ∷ text) h = omega arith

-- Blank lines that come after a closing text are only counted.
pub drops : (bytes : List ℕ) (f k n s m : ℕ) → f ≤ length bytes → is_closing (take f bytes) ≡ true → m ≤ k → s ≤ n * 16777215 → AreBlankLines (take k (drop f bytes)) m (k - m)
    → (new : List ℕ) (lines spaces : ℕ) → new ≡ take f bytes ++ drop k (drop f bytes) → lines ≡ n + m → spaces ≡ s + (k - m)
    → DropsBlanks (take f bytes ++ (blank_text n s ++ drop f bytes)) (take f new ++ (blank_text lines spaces ++ drop f new))
drops bytes f k n s m in_bytes closing few room are new lines spaces is_new is_lines is_spaces =
    let front = take f bytes in
    let later = drop f bytes in
    let rest = drop k later in
    let len : length front ≡ f = length-take-le f bytes in_bytes in
    let before = both_lines (blank_text n s) (take k later) n s m (k - m) (blank_text-lines n s room) are in
    let same_front : take f new ≡ front = ap (λ j. take j new) (sym len) ∙ ap (take (length front)) is_new ∙ take-append_seam front rest in
    let same_rest : drop f new ≡ rest = ap (λ j. drop j new) (sym len) ∙ ap (drop (length front)) is_new ∙ drop-append_seam front rest in
    let texts : blank_text lines spaces ≡ blank_text (n + m) (s + (k - m)) = ap (λ j. blank_text j spaces) is_lines ∙ ap (blank_text (n + m)) is_spaces in
    record {
      front = front;
      before = blank_text n s ++ take k later;
      after = blank_text (n + m) (s + (k - m));
      rest = rest;
      lines = n + m;
      spaces = s + (k - m);
      was = ap (λ t. front ++ t) (ap (λ t. blank_text n s ++ t) (sym (take-append-drop k later)) ∙ sym (append_assoc (blank_text n s) (take k later) rest));
      is = ap (λ t. t ++ (blank_text lines spaces ++ drop f new)) same_front ∙ ap (λ t. front ++ (t ++ drop f new)) texts ∙ ap (λ t. front ++ (blank_text (n + m) (s + (k - m)) ++ t)) same_rest;
      closing = closing;
      blank_before = before;
      blank_after = blank_text-lines (n + m) (s + (k - m)) before.few;
    }

pub drops-from : (old same : List ℕ) → old ≡ same → (new : List ℕ) → DropsBlanks same new → (new ≡ old) ⊎ DropsBlanks old new
drops-from old same is new dropped = inr (subst (λ text. DropsBlanks text new) (sym is) dropped)
