-- The refusal of a file: its code, and the line at which it is reported.
use Rattle.deb_control.proofs.Common.{◌≡◌, ℕ, ◌+◌, ◌≤◌, ◌&&◌, inl, inr, not, nat_le, Bool, true, false, cond, List, [], ◌∷◌, ◌++◌, length, drop, Option, None, Some, Result, Ok, Err, refl, sym, ap, ◌∙◌, subst, arith, length-append, and_from, le-leb, AllByRecursion, list_all, All-drop, Line, paragraph_limit, colon, canonical_name, Code, FileTooLong, MissingField, NoParagraph, ParagraphTooLong, TooManyParagraphs, Refusal, Seen, part_within, line_beyond, line_too_long, answer_of_first, paragraphs_within, Field, SpellsField, SpellsFields, IsRun, StandsAmong, Paragraph, lines_of, paragraphs_of, file_limit, Entries, next_answer-refusal, judged-sound, paragraphs_of-IsRun, paragraphs_of-StandsAmong, Doc, paragraph_text, file_text, IsRefusalOfDocument, rules_of, IsRefusalOfFile, RefusalsAreOfTheFile, refusal_or, value_refusal_of, have_names, canonical_entries, refused_or_built, built, within_file, has_some, answer_of_seen, answer_behind, line_behind, next_checked, stopped, followed, outcome_behind, Rules}
use Rattle.deb_control.proofs.FollowedParagraphs.{drop_one}
use Rattle.deb_control.proofs.Limits.{total_length-within}
use Rattle.deb_control.proofs.PartsWithin.{part-front}
use Rattle.deb_control.proofs.Passing.{some_same, IsSeen, seen-parts, answer_of_first-cons}
use Rattle.deb_control.proofs.RefusalCodes.{built-code}

pub same_refusal : {A : Type 0} (r : Result A Refusal) (a b : Refusal) → r ≡ Err a → r ≡ Err b → a ≡ b
same_refusal r a b e f = cc

-- a file that is refused is so after some of its paragraphs
pub refused_behind : (rules : Rules) (text : List ℕ) (before : List Entries) (left : List Paragraph) (refusal : Refusal) → left ≡ drop (length before) (paragraphs_within text) → (outcome_behind rules (line_beyond 1 file_limit text) (line_behind text) before left).refusal ≡ Some refusal → (front : List Entries) × (next_checked rules text front ≡ Err refusal)
refused_behind rules text before [] refusal is h = go (answer_behind rules (line_beyond 1 file_limit text) (line_behind text) before []) refl h
  where
    go : (a : Result (Option Entries) Refusal) → answer_behind rules (line_beyond 1 file_limit text) (line_behind text) before [] ≡ a → (stopped before a).refusal ≡ Some refusal → (front : List Entries) × (next_checked rules text front ≡ Err refusal)
    go (Err other) e f = (before, ap (answer_behind rules (line_beyond 1 file_limit text) (line_behind text) before) (sym is) ∙ e ∙ ap Err (some_same (Some other) other refusal refl f))
    go (Ok next) e f = absurd (cc)
refused_behind rules text before (p ∷ left) refusal is h = go (answer_behind rules (line_beyond 1 file_limit text) (line_behind text) before (p ∷ left)) refl h (λ entries. refused_behind rules text (before ++ entries ∷ []) left refusal (next entries))
  where
    next : (entries : Entries) → left ≡ drop (length (before ++ entries ∷ [])) (paragraphs_within text)
    next entries = ap (drop 1) is ∙ drop_one (length before) (paragraphs_within text) ∙ ap (λ k. drop k (paragraphs_within text)) (sym (length-append before (entries ∷ [])))

    go : (a : Result (Option Entries) Refusal) → answer_behind rules (line_beyond 1 file_limit text) (line_behind text) before (p ∷ left) ≡ a → (followed before a (λ e. outcome_behind rules (line_beyond 1 file_limit text) (line_behind text) (before ++ e ∷ []) left)).refusal ≡ Some refusal → ((entries : Entries) → (outcome_behind rules (line_beyond 1 file_limit text) (line_behind text) (before ++ entries ∷ []) left).refusal ≡ Some refusal → (front : List Entries) × (next_checked rules text front ≡ Err refusal)) → (front : List Entries) × (next_checked rules text front ≡ Err refusal)
    go (Err other) e f rest = (before, ap (answer_behind rules (line_beyond 1 file_limit text) (line_behind text) before) (sym is) ∙ e ∙ ap Err (some_same (Some other) other refusal refl f))
    go (Ok None) e f rest = absurd (cc)
    go (Ok (Some entries)) e f rest = rest entries f

part-lines : (room : ℕ) (text : List ℕ) → length (lines_of (part_within room text)) ≤ length (lines_of text)
part-lines room text =
    let front = part-front room text in
    let size = ap length front.1 ∙ length-append (lines_of (part_within room text)) front.0 in
    omega (arith, size)

-- a paragraph's lines are among the first n, and it has one
record IsAmong (n : ℕ) (p : Paragraph) : Type 0 where
  first : 1 ≤ p.first
  last : p.first + length p.lines ≤ 1 + n
  run : IsRun p.lines

among : (lines : List Line) (ps : List Paragraph) → AllByRecursion (StandsAmong 1 lines) ps → AllByRecursion (λ p. IsRun p.lines) ps → AllByRecursion (IsAmong (length lines)) ps
among lines [] h runs = tt
among lines (p ∷ ps) h runs =
    let s = h.0 in
    let number : p.first ≡ 1 + length s.before = s.number in
    let size : length lines ≡ length s.before + length (p.lines ++ s.behind) = ap length s.is ∙ length-append s.before (p.lines ++ s.behind) in
    let more : length (p.lines ++ s.behind) ≡ length p.lines + length s.behind = length-append p.lines s.behind in
    (record { first = omega arith; last = omega arith; run = runs.0 }, among lines ps h.1 runs.1)

some_line : (lines : List Line) → IsRun lines → 1 ≤ length lines
some_line [] run = absurd (run.some refl)
some_line (line ∷ lines) run = omega arith

-- a number of a line, of the first n
abbrev IsLine : ℕ → ℕ → Type 0
IsLine n line = (1 ≤ line) × (line ≤ n)

own-some : (own : List Line) (field : Field) → SpellsField own field → 1 ≤ length own
own-some [] field spells = absurd (omega (arith, ap length spells.spelt, length-append field.name (colon ∷ (spells.before ++ (field.body ++ spells.after)))))
own-some (line ∷ own) field spells = omega arith

-- the first lines of fields are among their paragraph's
field-lines : (n m : ℕ) (lines : List Line) (fields : List Field) → SpellsFields n lines fields → 1 ≤ n → n + length lines ≤ 1 + m → AllByRecursion (λ field. IsLine m field.line) fields
field-lines n m lines [] spells least most = tt
field-lines n m lines (field ∷ fields) spells least most =
    let own = spells.0 in
    let rest = spells.1 in
    let some = own-some own field spells.4 in
    let size : length lines ≡ length own + length rest = ap length spells.2 ∙ length-append own rest in
    let at : field.line ≡ n = spells.3 in
    ((omega arith, omega arith), field-lines (n + length own) m rest fields spells.5 (omega arith) (omega arith))

-- and counted from 1
numbered : (m : ℕ) (fields : List Field) → AllByRecursion (λ field. IsLine m field.line) fields → list_all (λ field. nat_le 1 field.line) fields ≡ true
numbered m [] lines = refl
numbered m (field ∷ fields) lines = and_from (nat_le 1 field.line) (list_all (λ f. nat_le 1 f.line) fields) (le-leb 1 field.line lines.0.0) (numbered m fields lines.1)

value-line : (rules : Rules) (m : ℕ) (fields : List Field) (refusal : Refusal) → AllByRecursion (λ field. IsLine m field.line) fields → value_refusal_of rules fields ≡ Some refusal → IsLine m refusal.line
value-line rules m [] refusal lines h = absurd (cc)
value-line rules m (field ∷ fields) refusal lines h = go (rules.refusal (canonical_name field.name) field.body) (value-line rules m fields refusal lines.1) h
  where
    go : (o : Option Code) → (value_refusal_of rules fields ≡ Some refusal → IsLine m refusal.line) → refusal_or o field.line (value_refusal_of rules fields) ≡ Some refusal → IsLine m refusal.line
    go (Some code) rest e = subst (λ r. IsLine m r.line) (some_same (Some (record { code = code; line = field.line })) (record { code = code; line = field.line }) refusal refl e) lines.0
    go None rest e = rest e

-- what is refused of a paragraph by itself is so at one of its lines
built-line : (rules : Rules) (m : ℕ) (seen : Seen) (refusal : Refusal) → IsLine m seen.first → AllByRecursion (λ field. IsLine m field.line) seen.fields → built rules seen ≡ Err refusal → IsLine m refusal.line
built-line rules m seen refusal at lines h = go (value_refusal_of rules seen.fields) refl h
  where
    late : (t u : Bool) → cond {A = Result Entries Refusal} (not t) (Err (record { code = MissingField; line = seen.first })) (cond (not u) (Err (record { code = ParagraphTooLong; line = seen.first })) (Ok (canonical_entries rules seen.fields))) ≡ Err refusal → IsLine m refusal.line
    late false u e = subst (λ r. IsLine m r.line) (same_refusal _ _ _ refl e) at
    late true false e = subst (λ r. IsLine m r.line) (same_refusal _ _ _ refl e) at
    late true true e = absurd (cc)

    go : (o : Option Refusal) → value_refusal_of rules seen.fields ≡ o → refused_or_built rules seen o ≡ Err refusal → IsLine m refusal.line
    go (Some other) is e = value-line rules m seen.fields refusal lines (is ∙ ap Some (same_refusal _ other refusal refl e))
    go None is e = late (have_names seen.fields rules.required) (nat_le (length (paragraph_text (canonical_entries rules seen.fields))) paragraph_limit) e

module _ (doc : Doc) (text : List ℕ) (m : ℕ) (within : m ≤ length (lines_of text)) (front : List Entries) (refusal : Refusal) where
  at_line : IsRefusalOfDocument refusal → IsLine m refusal.line → IsRefusalOfFile text refusal
  at_line code line = record { least = code.least; most = code.most; first = line.0; last = inl (omega (arith, line.1, within)) }

  -- after other paragraphs
  within-line : (seen : Seen) → IsLine m seen.first → AllByRecursion (λ field. IsLine m field.line) seen.fields → within_file front seen.first (built (rules_of doc) seen) ≡ Err refusal → IsRefusalOfFile text refusal
  within-line seen at lines h = go (built (rules_of doc) seen) refl h
    where
      long : (t : Bool) (entries : Entries) → cond {A = Result (Option Entries) Refusal} (not t) (Err (record { code = FileTooLong; line = seen.first })) (Ok (Some entries)) ≡ Err refusal → IsRefusalOfFile text refusal
      long false entries e = subst (IsRefusalOfFile text) (same_refusal _ _ _ refl e) (record { least = omega arith; most = omega arith; first = at.0; last = inl (omega (arith, at.1, within)) })
      long true entries e = absurd (cc)

      go : (b : Result Entries Refusal) → built (rules_of doc) seen ≡ b → within_file front seen.first b ≡ Err refusal → IsRefusalOfFile text refusal
      go (Err other) is e =
          let same = is ∙ ap Err (same_refusal (Err other) other refusal refl e) in
          at_line (built-code doc seen refusal (and_from (nat_le 1 seen.first) (list_all (λ field. nat_le 1 field.line) seen.fields) (le-leb 1 seen.first at.0) (numbered m seen.fields lines)) same) (built-line (rules_of doc) m seen refusal at lines same)
      go (Ok entries) is e = long (nat_le (length (file_text (front ++ entries ∷ []))) file_limit) entries e

  seen-line : (beyond : Option ℕ) (left : List Paragraph) (seen : Seen) → AllByRecursion (IsAmong m) left → answer_of_first beyond left ≡ Ok (Some seen) → IsLine m seen.first × AllByRecursion (λ field. IsLine m field.line) seen.fields
  seen-line None [] seen all h = absurd (cc)
  seen-line (Some line) [] seen all h = absurd (cc)
  seen-line beyond (p ∷ left) seen all h =
      let found : IsSeen beyond p seen = seen-parts (line_too_long p.first paragraph_limit p.lines) beyond p seen refl (sym (answer_of_first-cons beyond p left) ∙ h) in
      let spells = judged-sound p.first p.lines found.fields all.0.run (total_length-within p.lines p.first paragraph_limit found.short) found.judges in
      let lines = field-lines p.first m p.lines found.fields spells.spelt all.0.first all.0.last in
      let some = some_line p.lines all.0.run in
      subst (λ s. IsLine m s.first × AllByRecursion (λ field. IsLine m field.line) s.fields) (sym found.is) ((all.0.first, omega (arith, all.0.last, some)), lines)

  answered-line : (beyond : Option ℕ) (left : List Paragraph) → AllByRecursion (IsAmong m) left → ((other : Refusal) → answer_of_first beyond left ≡ Err other → IsRefusalOfFile text other) → answer_of_seen (rules_of doc) (line_behind text) front (answer_of_first beyond left) ≡ Err refusal → IsRefusalOfFile text refusal
  answered-line beyond left all refused h = go (answer_of_first beyond left) refl h
    where
      none : (t : Bool) → cond {A = Result (Option Entries) Refusal} t (Err (record { code = NoParagraph; line = line_behind text })) (Ok None) ≡ Err refusal → IsRefusalOfFile text refusal
      none true e = subst (IsRefusalOfFile text) (same_refusal _ _ _ refl e) (record { least = omega arith; most = omega arith; first = omega arith; last = inr refl })
      none false e = absurd (cc)

      go : (s : Result (Option Seen) Refusal) → answer_of_first beyond left ≡ s → answer_of_seen (rules_of doc) (line_behind text) front s ≡ Err refusal → IsRefusalOfFile text refusal
      go (Err other) is e = refused refusal (is ∙ ap Err (same_refusal (Err other) other refusal refl e))
      go (Ok None) is e = none ((rules_of doc).single && not (has_some front)) e
      go (Ok (Some seen)) is e = let lines = seen-line beyond left seen all is in within-line seen lines.0 lines.1 e

  behind-line : (beyond : Option ℕ) (left : List Paragraph) → AllByRecursion (IsAmong m) left → ((other : Refusal) → answer_of_first beyond left ≡ Err other → IsRefusalOfFile text other) → answer_behind (rules_of doc) beyond (line_behind text) front left ≡ Err refusal → IsRefusalOfFile text refusal
  behind-line beyond [] all refused h = answered-line beyond [] all refused h
  behind-line beyond (p ∷ left) all refused h = go ((rules_of doc).single && has_some front) h
    where
      go : (t : Bool) → cond {A = Result (Option Entries) Refusal} t (Err (record { code = TooManyParagraphs; line = p.first })) (answer_of_seen (rules_of doc) (line_behind text) front (answer_of_first beyond (p ∷ left))) ≡ Err refusal → IsRefusalOfFile text refusal
      go true e = let some = some_line p.lines all.0.run in subst (IsRefusalOfFile text) (same_refusal _ _ _ refl e) (record { least = omega arith; most = omega arith; first = all.0.first; last = inl (omega (arith, all.0.last, some, within)) })
      go false e = answered-line beyond (p ∷ left) all refused e

pub refusal_of_the_file : RefusalsAreOfTheFile
refusal_of_the_file doc text refusal h =
    let found = refused_behind (rules_of doc) text [] (paragraphs_within text) refusal refl h in
    let part : List ℕ = part_within file_limit text in
    let all = among (lines_of part) (paragraphs_of part) (paragraphs_of-StandsAmong part) (paragraphs_of-IsRun part) in
    behind-line doc text (length (lines_of part)) (part-lines file_limit text) found.0 refusal (line_beyond 1 file_limit text) (drop (length found.0) (paragraphs_within text))
    (All-drop (IsAmong (length (lines_of part))) (length found.0) (paragraphs_of part) all)
    (λ other e. let is = next_answer-refusal text (length found.0) other e in record { least = is.least; most = omega (arith, is.most); first = is.first; last = inl is.last })
    found.1
