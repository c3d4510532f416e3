-- The bytes that were kept, of which some of a long line are only counted.
use Rattle.std.proofs.Common.{◌≡◌, ◌∙◌, ℕ, zero, suc, ◌+◌, ◌-◌, ◌<◌, ◌≤◌, true, List, [], ◌∷◌, ◌++◌, length, take, drop, replicate, slice_index, refl, sym, ap, append_assoc, append-nil, arith}
use Rattle.std.proofs.lemmas.List.{drop-append-le, drop_all, length-append, length-drop, length-replicate, length-take-le, take-append-drop, take-append-le, take_all}
use Rattle.std.proofs.Math.Seq.{drop-append_seam, take-append_seam}
use Rattle.memchr.specs.Find.{is_byte}
use Rattle.deb_base.specs.Bodies.{HasNoNewline, newline, paragraph_limit}
use Rattle.deb_base.proofs.AllElements.{All-append, All-drop}
use Rattle.deb_syntax.proofs.WalkingSteps.{line-none}
use Rattle.debctl_ffi.specs.Blanks.{blank_text}
use Rattle.debctl_ffi.specs.LongLines.{ChangesLongLine, line_byte, with_long}

-- nothing after the last newline is one
pub line-after : (text : List ℕ) (n : ℕ) → ((k : ℕ) → n ≤ k → k < length text → is_byte newline (slice_index text k) ≡ true → ⊥) → HasNoNewline (drop n text)
line-after [] zero none = tt
line-after [] (suc n) none = tt
line-after (b ∷ bs) zero none = line-none (b ∷ bs) (λ k few is. none k (omega arith) few is)
line-after (b ∷ bs) (suc n) none = line-after bs n (λ k low few is. none (suc k) (omega (arith, low)) (omega (arith, few)) is)

-- the end of a line without newline has none
pub line-rest : (n m : ℕ) (text : List ℕ) → n ≤ m → HasNoNewline (drop n text) → HasNoNewline (drop m text)
line-rest zero m text low line = All-drop _ m text line
line-rest (suc n) zero text low line = absurd (omega (arith, low))
line-rest (suc n) (suc m) [] low line = tt
line-rest (suc n) (suc m) (b ∷ bs) low line = line-rest n m bs (omega (arith, low)) line

counted-line : (n : ℕ) → HasNoNewline (replicate n line_byte)
counted-line zero = tt
counted-line (suc n) = (refl, counted-line n)

-- no byte is only counted
pub with_long-none : (n : ℕ) (text : List ℕ) → with_long n 0 text ≡ text
with_long-none n text = take-append-drop n text

pub with_long-same : (n m count : ℕ) (text : List ℕ) → count ≡ 0 → with_long n count text ≡ with_long m count text
with_long-same n m count text none =
    ap (λ k. with_long n k text) none ∙ with_long-none n text ∙ sym (with_long-none m text) ∙ sym (ap (λ k. with_long m k text) none)

-- more bytes at the end
with_long-append : (n count : ℕ) (text more : List ℕ) → n ≤ length text → with_long n count (text ++ more) ≡ with_long n count text ++ more
with_long-append n count text more within =
    let counted = replicate count line_byte in
    ap (λ t. t ++ (counted ++ drop n (text ++ more))) (take-append-le n text more within)
    ∙ ap (λ t. take n text ++ (counted ++ t)) (drop-append-le n text more within)
    ∙ ap (λ t. take n text ++ t) (sym (append_assoc counted (drop n text) more))
    ∙ sym (append_assoc (take n text) (counted ++ drop n text) more)

pub kept-more : (bytes more blanks : List ℕ) (f n count : ℕ) → f + n ≤ length bytes → take f (bytes ++ more) ++ (blanks ++ with_long n count (drop f (bytes ++ more))) ≡ (take f bytes ++ (blanks ++ with_long n count (drop f bytes))) ++ more
kept-more bytes more blanks f n count within =
    let low : f ≤ length bytes = omega (arith, within) in
    let room : n ≤ length (drop f bytes) = omega (arith, within, length-drop f bytes) in
    let later = with_long n count (drop f bytes) in
    ap (λ t. t ++ (blanks ++ with_long n count (drop f (bytes ++ more)))) (take-append-le f bytes more low)
    ∙ ap (λ t. take f bytes ++ (blanks ++ with_long n count t)) (drop-append-le f bytes more low)
    ∙ ap (λ t. take f bytes ++ (blanks ++ t)) (with_long-append n count (drop f bytes) more room)
    ∙ ap (λ t. take f bytes ++ t) (sym (append_assoc blanks later more))
    ∙ sym (append_assoc (take f bytes) (blanks ++ later) more)

-- The line from place n of the bytes after the first f on is only counted.
pub counts-line : (bytes blanks : List ℕ) (f m n count : ℕ) → f ≤ length bytes → n ≤ length (drop f bytes) → HasNoNewline (drop n (drop f bytes)) → with_long m count (drop f bytes) ≡ with_long n count (drop f bytes)
    → (new : List ℕ) (long : ℕ) → new ≡ take f bytes ++ take n (drop f bytes) → long ≡ count + (length (drop f bytes) - n) → paragraph_limit ≤ long
    → ChangesLongLine (take f bytes ++ (blanks ++ with_long m count (drop f bytes))) (take f new ++ (blanks ++ with_long n long (drop f new)))
counts-line bytes blanks f m n count low within line same new long is_new is_long enough =
    let front = take f bytes in
    let later = drop f bytes in
    let cut = take n later in
    let counted = replicate count line_byte in
    let all = replicate long line_byte in
    let len : length front ≡ f = length-take-le f bytes low in
    let cut_len : length cut ≡ n = length-take-le n later within in
    let same_front : take f new ≡ front = ap (λ j. take j new) (sym len) ∙ ap (take (length front)) is_new ∙ take-append_seam front cut in
    let same_cut : drop f new ≡ cut = ap (λ j. drop j new) (sym len) ∙ ap (drop (length front)) is_new ∙ drop-append_seam front cut in
    let short : length cut ≤ n = omega (arith, cut_len) in
    let long_cut : with_long n long cut ≡ cut ++ (all ++ []) = ap (λ t. t ++ (all ++ drop n cut)) (take_all n cut short) ∙ ap (λ t. cut ++ (all ++ t)) (drop_all n cut short) in
    let parts : (t : List ℕ) → front ++ (blanks ++ (cut ++ t)) ≡ (front ++ (blanks ++ cut)) ++ t = λ t. ap (λ z. front ++ z) (sym (append_assoc blanks cut t)) ∙ sym (append_assoc front (blanks ++ cut) t) in
    let bytes_before : length (counted ++ drop n later) ≡ long = omega (arith, is_long, within, length-append counted (drop n later), length-replicate {A = ℕ} count line_byte, length-drop n later) in
    record {
      front = front ++ (blanks ++ cut);
      before = counted ++ drop n later;
      after = all;
      rest = [];
      was = ap (λ t. front ++ (blanks ++ t)) same ∙ parts (counted ++ drop n later) ∙ ap (λ t. (front ++ (blanks ++ cut)) ++ t) (sym (append-nil (counted ++ drop n later)));
      is = ap (λ t. t ++ (blanks ++ with_long n long (drop f new))) same_front ∙ ap (λ t. front ++ (blanks ++ with_long n long t)) same_cut ∙ ap (λ t. front ++ (blanks ++ t)) long_cut ∙ parts (all ++ []);
      line_before = All-append _ counted (drop n later) (counted-line count) line;
      line_after = counted-line long;
      bytes = bytes_before ∙ sym (length-replicate {A = ℕ} long line_byte);
      long = omega (arith, enough, bytes_before);
    }

-- no byte is only counted
pub blanks-here : (bytes : List ℕ) (f between long lines spaces : ℕ) → long ≤ 0 → take f bytes ++ (blank_text lines spaces ++ with_long between long (drop f bytes)) ≡ take f bytes ++ (blank_text lines spaces ++ drop f bytes)
blanks-here bytes f between long lines spaces none =
    let zero_long : long ≡ 0 = omega (arith, none) in
    ap (λ k. take f bytes ++ (blank_text lines spaces ++ with_long between k (drop f bytes))) zero_long
    ∙ ap (λ t. take f bytes ++ (blank_text lines spaces ++ t)) (with_long-none between (drop f bytes))
