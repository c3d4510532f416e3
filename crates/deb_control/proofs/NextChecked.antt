-- What is answered of a document's next paragraph, from what its reader of paragraphs answers.
use Rattle.deb_control.proofs.Common.{◌≡◌, ℕ, ◌+◌, ◌<◌, ◌≤◌, ◌&&◌, true, false, List, [], ◌∷◌, ◌++◌, drop, length, Option, None, Some, Ok, Err, refl, sym, ap, ◌∙◌, arith, append_assoc, length-append, le-leb, lt-leb, ne_eqb, newline, FileTooLong, TooManyParagraphs, Refusal, Seen, line_beyond, paragraphs_within, answer_of_first, begin_of_first, next_answer, next_begin, Paragraph, file_limit, Entries, paragraph_text, file_text, built, within_file, has_some, answer_of_seen, answer_behind, line_behind, next_after, Rules, bytes_with, gap_behind}

-- of a document where no paragraph is one too many
pub next_after-seen : (rules : Rules) (text : List ℕ) (k : ℕ) (before : List Entries) → (rules.single && has_some before) ≡ false → next_after rules text k before ≡ answer_of_seen rules (line_behind text) before (next_answer text k)
next_after-seen rules text k before few = go (drop k (paragraphs_within text))
  where
    go : (left : List Paragraph) → answer_behind rules (line_beyond 1 file_limit text) (line_behind text) before left ≡ answer_of_seen rules (line_behind text) before (answer_of_first (line_beyond 1 file_limit text) left)
    go [] = refl
    go (p ∷ left) = rw few refl

-- where each further paragraph is one too many
module _ (rules : Rules) (text : List ℕ) (k : ℕ) (before : List Entries) (single : rules.single ≡ true) (some : has_some before ≡ true) where
  pub next_after-second : (line : ℕ) → next_begin text k ≡ Ok (Some line) → next_after rules text k before ≡ Err (record { code = TooManyParagraphs; line = line })
  next_after-second line begins = go (line_beyond 1 file_limit text) (drop k (paragraphs_within text)) begins
    where
      go : (beyond : Option ℕ) (left : List Paragraph) → begin_of_first beyond left ≡ Ok (Some line) → answer_behind rules beyond (line_behind text) before left ≡ Err (record { code = TooManyParagraphs; line = line })
      go None [] e = absurd (cc)
      go (Some n) [] e = absurd (cc)
      go beyond (p ∷ left) e =
          let same : p.first ≡ line = cc in
          rw (single, some) (ap (λ n. Err (record { code = TooManyParagraphs; line = n })) same)

  pub next_after-last : next_begin text k ≡ Ok None → next_after rules text k before ≡ Ok None
  next_after-last begins = go (line_beyond 1 file_limit text) (drop k (paragraphs_within text)) begins
    where
      go : (beyond : Option ℕ) (left : List Paragraph) → begin_of_first beyond left ≡ Ok None → answer_behind rules beyond (line_behind text) before left ≡ Ok None
      go None [] e = rw (single, some) refl
      go (Some n) [] e = absurd (cc)
      go beyond (p ∷ left) e = absurd (cc)

  pub next_after-refused : (refusal : Refusal) → next_begin text k ≡ Err refusal → next_after rules text k before ≡ Err refusal
  next_after-refused refusal begins = go (line_beyond 1 file_limit text) (drop k (paragraphs_within text)) begins
    where
      go : (beyond : Option ℕ) (left : List Paragraph) → begin_of_first beyond left ≡ Err refusal → answer_behind rules beyond (line_behind text) before left ≡ Err refusal
      go None [] e = absurd (cc)
      go (Some n) [] e = cc
      go beyond (p ∷ left) e = absurd (cc)

-- the canonical text of a file with a further paragraph
pub file_text-push : (before : List Entries) (entries : Entries) → file_text (before ++ entries ∷ []) ≡ file_text before ++ (gap_behind (length before) ++ paragraph_text entries)
file_text-push [] entries = refl
file_text-push (first ∷ []) entries = refl
file_text-push (first ∷ next ∷ before) entries =
    ap (λ rest. paragraph_text first ++ newline ∷ rest) (file_text-push (next ∷ before) entries)
    ∙ sym (append_assoc (paragraph_text first) (newline ∷ file_text (next ∷ before)) (newline ∷ paragraph_text entries))

length-file_text : (before : List Entries) (entries : Entries) → length (file_text (before ++ entries ∷ [])) ≡ bytes_with (length before) (length (file_text before)) (length (paragraph_text entries))
length-file_text [] entries = omega arith
length-file_text (first ∷ before) entries =
    let size : length (file_text (first ∷ (before ++ entries ∷ []))) ≡ length (file_text (first ∷ before)) + 1 + length (paragraph_text entries) = omega (arith, ap length (file_text-push (first ∷ before) entries), length-append (file_text (first ∷ before)) (newline ∷ paragraph_text entries)) in
    rw (ne_eqb (length (first ∷ before)) 0 (λ e. omega (arith, e))) size

pub bytes-with : (before : List Entries) (entries : Entries) (count bytes : ℕ) → count ≡ length before → bytes ≡ length (file_text before) → bytes_with count bytes (length (paragraph_text entries)) ≡ length (file_text (before ++ entries ∷ []))
bytes-with before entries count bytes counted is = ap (λ n. bytes_with n bytes (length (paragraph_text entries))) counted ∙ ap (λ n. bytes_with (length before) n (length (paragraph_text entries))) is ∙ sym (length-file_text before entries)

-- what is answered of a paragraph that was seen after these
module _ (rules : Rules) (text : List ℕ) (k : ℕ) (before : List Entries) (seen : Seen) (few : (rules.single && has_some before) ≡ false) (answer : next_answer text k ≡ Ok (Some seen)) where
  next_after-built : next_after rules text k before ≡ within_file before seen.first (built rules seen)
  next_after-built = next_after-seen rules text k before few ∙ ap (answer_of_seen rules (line_behind text) before) answer

  pub next_after-passes : (entries : Entries) → built rules seen ≡ Ok entries → length (file_text (before ++ entries ∷ [])) ≤ file_limit → next_after rules text k before ≡ Ok (Some entries)
  next_after-passes entries is short = next_after-built ∙ ap (within_file before seen.first) is ∙ rw (le-leb (length (file_text (before ++ entries ∷ []))) file_limit short) refl

  pub next_after-unbuilt : (refusal : Refusal) → built rules seen ≡ Err refusal → next_after rules text k before ≡ Err refusal
  next_after-unbuilt refusal is = next_after-built ∙ ap (within_file before seen.first) is

  pub next_after-too_long : (entries : Entries) → built rules seen ≡ Ok entries → file_limit < length (file_text (before ++ entries ∷ [])) → next_after rules text k before ≡ Err (record { code = FileTooLong; line = seen.first })
  next_after-too_long entries is long = next_after-built ∙ ap (within_file before seen.first) is ∙ rw (lt-leb (length (file_text (before ++ entries ∷ []))) file_limit long) refl
