-- The prefix of a file that a reader of checked paragraphs has passed: judged as a file of its own, exactly the paragraphs
-- that were given pass.
use Rattle.deb_control.proofs.Common.{◌≡◌, ℕ, zero, suc, ◌+◌, ◌<◌, ◌≤◌, ◌⊎◌, inl, inr, false, List, [], ◌∷◌, ◌++◌, length, take, drop, Option, None, Some, Result, Ok, Err, refl, sym, ap, ◌∙◌, subst, arith, append-nil, length-append, cases_lt, take-append-le, drop_all, Refusal, whole_lines, is_line, part_within, line_beyond, paragraphs_within, Paragraph, lines_of, IsClosed, paragraphs_of, file_limit, Entries, passed_count, left-paragraphs, part_within-some, line_beyond-some, Follow, answer_behind, next_checked, line_behind, stopped, followed, outcome_behind, outcome, Rules}
use Rattle.deb_control.proofs.FollowedParagraphs.{never_behind_all, outcome-starts}
use Rattle.deb_control.proofs.Limits.{line_beyond-none, part_within-whole}
use Rattle.deb_control.proofs.PartsWithin.{part-paragraphs}
use Rattle.deb_control.proofs.Passing.{passes-from_answer, answer-from_passes}

-- no more pass than there are
few-passed : (rules : Rules) (beyond : Option ℕ) (n : ℕ) (before : List Entries) (left : List Paragraph) → length (outcome_behind rules beyond n before left).passed ≤ length before + length left
few-passed rules beyond n before [] = go (answer_behind rules beyond n before [])
  where
    go : (a : Result (Option Entries) Refusal) → length (stopped before a).passed ≤ length before + 0
    go (Err refusal) = omega arith
    go (Ok next) = omega arith
few-passed rules beyond n before (p ∷ left) = go (answer_behind rules beyond n before (p ∷ left)) (λ entries. few-passed rules beyond n (before ++ entries ∷ []) left)
  where
    go : (a : Result (Option Entries) Refusal) → ((entries : Entries) → length (outcome_behind rules beyond n (before ++ entries ∷ []) left).passed ≤ length (before ++ entries ∷ []) + length left) → length (followed before a (λ e. outcome_behind rules beyond n (before ++ e ∷ []) left)).passed ≤ length before + length (p ∷ left)
    go (Err refusal) rest = omega arith
    go (Ok None) rest = omega arith
    go (Ok (Some entries)) rest = omega (arith, rest entries, length-append before (entries ∷ []))

drop-split : {X : Type 0} (k : ℕ) (xs ys : List X) → k < length xs → (x : X) × (rest : List X) × (drop k xs ≡ x ∷ rest) × (drop k (xs ++ ys) ≡ x ∷ (rest ++ ys))
drop-split k [] ys few = absurd (omega (arith, few))
drop-split zero (x ∷ xs) ys few = (x, xs, refl, refl)
drop-split (suc k) (x ∷ xs) ys few = drop-split k xs ys (omega (arith, few))

-- What passes of a file also passes of another one with the same first paragraphs, where no line is beyond, or the
-- same one.
module _ (rules : Rules) (text read : List ℕ) (others : List Paragraph) (first : paragraphs_within text ≡ paragraphs_within read ++ others) (beyond : (line_beyond 1 file_limit read ≡ None) ⊎ (line_beyond 1 file_limit read ≡ line_beyond 1 file_limit text)) where
  same-whole : (line : ℕ) → is_line line (line_beyond 1 file_limit text) ≡ false → is_line line (line_beyond 1 file_limit read) ≡ false
  same-whole line whole =
      elim beyond [
        | inl none ↦ ap (is_line line) none
        | inr same ↦ ap (is_line line) same ∙ whole
      ]

  same-next : (front : List Entries) (entries : Entries) → length front < length (paragraphs_within read) → next_checked rules text front ≡ Ok (Some entries) → next_checked rules read front ≡ Ok (Some entries)
  same-next front entries few next =
      let at = drop-split (length front) (paragraphs_within read) others few in
      let one = passes-from_answer rules (line_beyond 1 file_limit text) (line_behind text) front at.0 (at.1 ++ others) entries (subst (λ left. answer_behind rules (line_beyond 1 file_limit text) (line_behind text) front left ≡ Ok (Some entries)) (ap (drop (length front)) first ∙ at.3) next) in
      ap (answer_behind rules (line_beyond 1 file_limit read) (line_behind read) front) at.2
      ∙ answer-from_passes rules (line_beyond 1 file_limit read) (line_behind read) front at.0 at.1 entries (record { alone = one.alone; short = one.short; whole = same-whole (at.0.first + length at.0.lines) one.whole; fields = one.fields; seen = one.seen; good = one.good; named = one.named; short_text = one.short_text; short_file = one.short_file; is = one.is })

  same-follow : (front more : List Entries) → length front + length more ≤ length (paragraphs_within read) → Follow rules text front more → Follow rules read front more
  same-follow front [] few follow = tt
  same-follow front (entries ∷ more) few follow =
      (same-next front entries (omega (arith, few)) follow.0, same-follow (front ++ entries ∷ []) more (omega (arith, few, length-append front (entries ∷ []))) follow.1)

-- no more follow one another than there are
few-follow : (rules : Rules) (text : List ℕ) (front more : List Entries) → length front ≤ length (paragraphs_within text) → Follow rules text front more → length front + length more ≤ length (paragraphs_within text)
few-follow rules text front [] few follow = omega (arith, few)
few-follow rules text front (entries ∷ more) few follow =
    elim (cases_lt (length front) (length (paragraphs_within text))) [
      | inl less ↦ omega (arith, few-follow rules text (front ++ entries ∷ []) more (omega (arith, less, length-append front (entries ∷ []))) follow.1, length-append front (entries ∷ []))
      | inr all ↦ absurd (never_behind_all rules (line_beyond 1 file_limit text) (line_behind text) front entries (subst (λ left. answer_behind rules (line_beyond 1 file_limit text) (line_behind text) front left ≡ Ok (Some entries)) (drop_all (length front) (paragraphs_within text) all) follow.0))
    ]

nothing-more : (before more all : List Entries) → all ≡ before ++ more → length all ≤ length before → all ≡ before
nothing-more before [] all is few = is ∙ append-nil before
nothing-more before (entries ∷ more) all is few = absurd (omega (arith, ap length is, length-append before (entries ∷ more), few))

module _ (rules : Rules) (text read behind : List ℕ) (before : List Entries) (whole : text ≡ read ++ behind) (counted : passed_count read ≡ length before) (given : Follow rules text [] before) where
  -- no further one passes of it where its paragraphs are the file's first ones
  alone-from : (others : List Paragraph) → paragraphs_within text ≡ paragraphs_within read ++ others → (line_beyond 1 file_limit read ≡ None) ⊎ (line_beyond 1 file_limit read ≡ line_beyond 1 file_limit text) → length before ≤ length (paragraphs_within read) → (outcome rules read).passed ≡ before
  alone-from others first beyond some =
      let starts = outcome-starts rules read before (same-follow rules text read others first beyond [] before (omega (arith, some)) given) in
      let few = few-passed rules (line_beyond 1 file_limit read) (line_behind read) [] (paragraphs_within read) in
      nothing-more before starts.0 (outcome rules read).passed starts.1 (omega (arith, few, part-paragraphs file_limit read, counted))

  alone-same : part_within file_limit read ≡ part_within file_limit text → line_beyond 1 file_limit read ≡ line_beyond 1 file_limit text → (outcome rules read).passed ≡ before
  alone-same part beyond =
      let first : paragraphs_within text ≡ paragraphs_within read = ap paragraphs_of (sym part) in
      alone-from [] (first ∙ sym (append-nil (paragraphs_within read))) (inr beyond) (omega (arith, few-follow rules text [] before (omega arith) given, ap length first))

  from-long : file_limit < length read → (outcome rules read).passed ≡ before
  from-long long =
      let longer : file_limit < length text = omega (arith, long, ap length whole, length-append read behind) in
      let part : part_within file_limit read ≡ part_within file_limit text =
      part_within-some file_limit read long
      ∙ ap whole_lines (sym (ap (take file_limit) whole ∙ take-append-le file_limit read behind (omega (arith, long))))
      ∙ sym (part_within-some file_limit text longer) in
      alone-same part (line_beyond-some 1 file_limit read long ∙ ap (λ t. Some (1 + length (lines_of t))) part ∙ sym (line_beyond-some 1 file_limit text longer))

  from-short : length read ≤ file_limit → (IsClosed read ⊎ (behind ≡ [])) → (outcome rules read).passed ≡ before
  from-short short (inl closed) =
      let own : paragraphs_within read ≡ paragraphs_of read = ap paragraphs_of (part_within-whole read short) in
      let first = ap paragraphs_within whole ∙ left-paragraphs 1 file_limit read behind closed short in
      alone-from _ (rw (← own) at first) (inl (line_beyond-none read short)) (omega (arith, ap length own, counted))
  from-short short (inr none) =
      let same : read ≡ text = sym (whole ∙ ap (λ b. read ++ b) none ∙ append-nil read) in
      alone-same (ap (part_within file_limit) same) (ap (line_beyond 1 file_limit) same)

  -- Exactly these pass of it.
  pub read-alone : (IsClosed read ⊎ (behind ≡ [])) → (outcome rules read).passed ≡ before
  read-alone ends =
      elim (cases_lt file_limit (length read)) [
        | inl long ↦ from-long long
        | inr short ↦ from-short short ends
      ]
