-- A file that is too long has the refusal of its beginning, if that is too long already.
use Rattle.std.proofs.Common.{◌≡◌, ℕ, ◌+◌, ◌<◌, ◌&&◌, Bool, true, false, cond, List, [], ◌∷◌, ◌++◌, length, take, Option, Some, None, Result, Ok, Err, inl, inr, refl, sym, ap, ap₂, ◌∙◌, arith, append-nil, length-append}
use Rattle.std.proofs.lemmas.List.{take-append-le}
use Rattle.deb_base.specs.Bodies.{paragraph_limit, file_limit}
use Rattle.deb_base.specs.Reading.{IsEnough}
use Rattle.deb_base.specs.declared.code.Code.TheVariants.{FileTooLong, TooManyParagraphs}
use Rattle.deb_base.specs.declared.doc.Doc.{Doc}
use Rattle.deb_base.specs.declared.refusal.Refusal.{Refusal}
use Rattle.deb_control.specs.Documents.{refusal_of, rules_of}
use Rattle.deb_control.specs.Refusals.{Outcome, answer_behind_under, answer_of_seen_under, followed, has_some, line_behind, outcome_behind_under, refusal_under}
use Rattle.deb_control.specs.Rules.{Rules}
use Rattle.deb_syntax.specs.Answers.{is_line, line_beyond, line_too_long, paragraph_answer, part_within, seen_from, whole_lines}
use Rattle.deb_syntax.specs.Fields.{Field}
use Rattle.deb_syntax.specs.Judging.{judged}
use Rattle.deb_syntax.specs.Lines.{Paragraph, lines_of, paragraphs_under}
use Rattle.deb_syntax.specs.Meaning.{Entries}
use Rattle.deb_syntax.proofs.Parts.{line_beyond-some, part_within-some}

module _ (limit most : ℕ) (rules : Rules) (line : ℕ) where
  -- what is answered of a paragraph doesn't ask for the line after the last one
  seen_alike : (n m : ℕ) (before : List Entries) (first : ℕ) (r : Result (List Field) Refusal) → answer_of_seen_under limit most rules n before (seen_from first r) ≡ answer_of_seen_under limit most rules m before (seen_from first r)
  seen_alike n m before first (Ok fields) = refl
  seen_alike n m before first (Err refusal) = refl

  short_alike : (n m : ℕ) (before : List Entries) (p : Paragraph) (refusal : Refusal) (t : Bool) → answer_of_seen_under limit most rules n before (cond t (Err refusal) (seen_from p.first (judged p.first p.lines))) ≡ answer_of_seen_under limit most rules m before (cond t (Err refusal) (seen_from p.first (judged p.first p.lines)))
  short_alike n m before p refusal true = refl
  short_alike n m before p refusal false = seen_alike n m before p.first (judged p.first p.lines)

  paragraph_alike : (n m : ℕ) (before : List Entries) (p : Paragraph) (o : Option ℕ) → answer_of_seen_under limit most rules n before (paragraph_answer o (Some line) p) ≡ answer_of_seen_under limit most rules m before (paragraph_answer o (Some line) p)
  paragraph_alike n m before p (Some l) = refl
  paragraph_alike n m before p None = short_alike n m before p (record { code = FileTooLong; line = p.first + length p.lines }) (is_line (p.first + length p.lines) (Some line))

  behind_alike : (n m : ℕ) (before : List Entries) (p : Paragraph) (left : List Paragraph) → answer_behind_under limit most rules (Some line) n before (p ∷ left) ≡ answer_behind_under limit most rules (Some line) m before (p ∷ left)
  behind_alike n m before p left = ap (λ a. cond (rules.single && has_some before) (Err (record { code = TooManyParagraphs; line = p.first })) a) (paragraph_alike n m before p (line_too_long p.first limit p.lines))

  followed_alike : (before : List Entries) (one other : Result (Option Entries) Refusal) → one ≡ other → (f g : Entries → Outcome) → ((entries : Entries) → f entries ≡ g entries) → followed before one f ≡ followed before other g
  followed_alike before one other is f g same = ap (λ a. followed before a f) is ∙ go other
    where
      go : (a : Result (Option Entries) Refusal) → followed before a f ≡ followed before a g
      go (Err refusal) = refl
      go (Ok None) = refl
      go (Ok (Some entries)) = same entries

  outcome_alike : (n m : ℕ) (before : List Entries) (ps : List Paragraph) → outcome_behind_under limit most rules (Some line) n before ps ≡ outcome_behind_under limit most rules (Some line) m before ps
  outcome_alike n m before [] = refl
  outcome_alike n m before (p ∷ left) =
      followed_alike before (answer_behind_under limit most rules (Some line) n before (p ∷ left)) (answer_behind_under limit most rules (Some line) m before (p ∷ left)) (behind_alike n m before p left)
      (λ entries. outcome_behind_under limit most rules (Some line) n (before ++ entries ∷ []) left) (λ entries. outcome_behind_under limit most rules (Some line) m (before ++ entries ∷ []) left) (λ entries. outcome_alike n m (before ++ entries ∷ []) left)

refusal_of_long : (limit most : ℕ) (rules : Rules) (text read rest : List ℕ) → text ≡ read ++ rest → most < length read → refusal_under limit most rules text ≡ refusal_under limit most rules read
refusal_of_long limit most rules text read rest is long =
    let longer : most < length text = omega (arith, long, ap length is ∙ length-append read rest) in
    let same : part_within most text ≡ part_within most read = part_within-some most text longer ∙ ap whole_lines (ap (take most) is ∙ take-append-le most read rest (omega (arith, long))) ∙ sym (part_within-some most read long) in
    let line : ℕ = 1 + length (lines_of (part_within most read)) in
    let beyond : line_beyond 1 most text ≡ Some line = line_beyond-some 1 most text longer ∙ ap (λ part. Some (1 + length (lines_of part))) same in
    let beyond_read : line_beyond 1 most read ≡ Some line = line_beyond-some 1 most read long in
    ap (λ (o : Outcome). o.refusal)
    (ap₂ (λ b part. outcome_behind_under limit most rules b (line_behind text) [] (paragraphs_under limit 1 (lines_of part))) beyond same
    ∙ outcome_alike limit most rules line (line_behind text) (line_behind read) [] (paragraphs_under limit 1 (lines_of (part_within most read)))
    ∙ ap (λ b. outcome_behind_under limit most rules b (line_behind read) [] (paragraphs_under limit 1 (lines_of (part_within most read)))) (sym beyond_read))

-- what was read of a file has the refusal of the whole file
pub refusal_of_read : (doc : Doc) (text read : List ℕ) → IsEnough file_limit text read → refusal_of doc text ≡ refusal_of doc read
refusal_of_read doc text read enough = elim enough.enough [
  | inl nothing ↦ ap (refusal_of doc) (enough.whole ∙ ap (λ rest. read ++ rest) nothing ∙ append-nil read)
  | inr long ↦ refusal_of_long paragraph_limit file_limit (rules_of doc) text read enough.rest enough.whole long
]
