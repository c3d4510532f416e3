-- Paragraphs that pass one after another, and what comes of a file whose paragraphs all pass.
use Rattle.deb_control.proofs.Common.{◌≡◌, ℕ, ◌+◌, ◌≤◌, ◌&&◌, not, Bool, true, false, cond, List, [], ◌∷◌, ◌++◌, ◌⊎◌, inl, inr, ◌<◌, length, nat_le, Option, None, Some, Result, Ok, Err, refl, sym, ap, ◌∙◌, subst, append-nil, leb-true, le-leb, lt-leb, not-false, NoParagraph, FileTooLong, ParagraphTooLong, Refusal, paragraph_limit, Paragraph, file_limit, Field, judged, Entries, Seen, line_too_long, is_line, seen_from, paragraph_answer, answer_of_first, push-append, paragraph_text, file_text, Rules, value_refusal_of, have_names, canonical_entries, refused_or_built, built, within_file, has_some, answer_of_seen, answer_behind, stopped, followed, outcome_behind}

-- A paragraph passes every step after others, and has these canonical bodies.
pub record Passes (rules : Rules) (beyond : Option ℕ) (before : List Entries) (p : Paragraph) (entries : Entries) : Type 0 where
  pub alone : (rules.single && has_some before) ≡ false
  pub short : line_too_long p.first paragraph_limit p.lines ≡ None
  pub whole : is_line (p.first + length p.lines) beyond ≡ false
  pub fields : List Field
  pub seen : judged p.first p.lines ≡ Ok fields
  pub good : value_refusal_of rules fields ≡ None
  pub named : have_names fields rules.required ≡ true
  pub short_text : length (paragraph_text (canonical_entries rules fields)) ≤ paragraph_limit
  pub short_file : length (file_text (before ++ entries ∷ [])) ≤ file_limit
  pub is : entries ≡ canonical_entries rules fields

-- a test that isn't refused
not_refused : {A : Type 0} (t : Bool) (refusal : Refusal) (x : Result A Refusal) (y : A) → cond t (Err refusal) x ≡ Ok y → (t ≡ false) × (x ≡ Ok y)
not_refused true refusal x y h = absurd (cc)
not_refused false refusal x y h = (refl, h)

pub answer_of_first-cons : (beyond : Option ℕ) (p : Paragraph) (left : List Paragraph) → answer_of_first beyond (p ∷ left) ≡ paragraph_answer (line_too_long p.first paragraph_limit p.lines) beyond p
answer_of_first-cons None p left = refl
answer_of_first-cons (Some line) p left = refl

ok_same : {A : Type 0} (r : Result A Refusal) (a b : A) → r ≡ Ok a → r ≡ Ok b → a ≡ b
ok_same r a b e f = cc

pub some_same : {A : Type 0} (o : Option A) (a b : A) → o ≡ Some a → o ≡ Some b → a ≡ b
some_same o a b e f = cc

never_some : {A : Type 0} (o : Option A) (a : A) → o ≡ Some a → o ≡ None → ⊥
never_some o a e f = cc

-- what was seen of a paragraph
seen_fields : (n : ℕ) (j : Result (List Field) Refusal) (seen : Seen) → seen_from n j ≡ Ok (Some seen) → (fields : List Field) × (j ≡ Ok fields) × (seen ≡ record { first = n; fields = fields })
seen_fields n (Err refusal) seen h = absurd (cc)
seen_fields n (Ok fields) seen h =
    let found : Seen = record { first = n; fields = fields } in
    (fields, refl, some_same (Some seen) seen found refl (ok_same (Ok (Some found)) (Some seen) (Some found) h refl))

-- the parts of an answer about a paragraph's lines
pub record IsSeen (beyond : Option ℕ) (p : Paragraph) (seen : Seen) : Type 0 where
  pub short : line_too_long p.first paragraph_limit p.lines ≡ None
  pub whole : is_line (p.first + length p.lines) beyond ≡ false
  pub fields : List Field
  pub judges : judged p.first p.lines ≡ Ok fields
  pub is : seen ≡ record { first = p.first; fields = fields }

pub seen-parts : (o beyond : Option ℕ) (p : Paragraph) (seen : Seen) → line_too_long p.first paragraph_limit p.lines ≡ o → paragraph_answer o beyond p ≡ Ok (Some seen) → IsSeen beyond p seen
seen-parts (Some line) beyond p seen e h = absurd (cc)
seen-parts None beyond p seen e h =
    let whole = not_refused (is_line (p.first + length p.lines) beyond) (record { code = FileTooLong; line = p.first + length p.lines }) (seen_from p.first (judged p.first p.lines)) (Some seen) h in
    let fields = seen_fields p.first (judged p.first p.lines) seen whole.1 in
    record { short = e; whole = whole.0; fields = fields.0; judges = fields.1; is = fields.2 }

-- the parts of what is built
pub record IsBuilt (rules : Rules) (seen : Seen) (entries : Entries) : Type 0 where
  pub good : value_refusal_of rules seen.fields ≡ None
  pub named : have_names seen.fields rules.required ≡ true
  pub short : length (paragraph_text (canonical_entries rules seen.fields)) ≤ paragraph_limit
  pub is : entries ≡ canonical_entries rules seen.fields

pub built-parts : (rules : Rules) (seen : Seen) (entries : Entries) (o : Option Refusal) → value_refusal_of rules seen.fields ≡ o → refused_or_built rules seen o ≡ Ok entries → IsBuilt rules seen entries
built-parts rules seen entries (Some refusal) e h = absurd (cc)
built-parts rules seen entries None e h =
    let named = not_refused (not (have_names seen.fields rules.required)) _ _ entries h in
    let short = not_refused (not (nat_le (length (paragraph_text (canonical_entries rules seen.fields))) paragraph_limit)) _ (Ok (canonical_entries rules seen.fields)) entries named.1 in
    record {
      good = e;
      named = not-false (have_names seen.fields rules.required) named.0;
      short = leb-true (length (paragraph_text (canonical_entries rules seen.fields))) paragraph_limit (not-false (nat_le (length (paragraph_text (canonical_entries rules seen.fields))) paragraph_limit) short.0);
      is = ok_same (Ok (canonical_entries rules seen.fields)) entries (canonical_entries rules seen.fields) short.1 refl;
    }

within-parts : (before : List Entries) (line : ℕ) (r : Result Entries Refusal) (entries : Entries) → within_file before line r ≡ Ok (Some entries) → (r ≡ Ok entries) × (length (file_text (before ++ entries ∷ [])) ≤ file_limit)
within-parts before line (Err refusal) entries h = absurd (cc)
within-parts before line (Ok found) entries h =
    let short = not_refused (not (nat_le (length (file_text (before ++ found ∷ []))) file_limit)) _ (Ok (Some found)) (Some entries) h in
    let same : found ≡ entries = some_same (Some found) found entries refl (ok_same (Ok (Some found)) (Some found) (Some entries) refl short.1) in
    (ap Ok same, subst (λ e. length (file_text (before ++ e ∷ [])) ≤ file_limit) same (leb-true (length (file_text (before ++ found ∷ []))) file_limit (not-false (nat_le (length (file_text (before ++ found ∷ []))) file_limit) short.0)))

within-some : (before : List Entries) (line : ℕ) (r : Result Entries Refusal) → within_file before line r ≡ Ok None → ⊥
within-some before line (Err refusal) h = cc
within-some before line (Ok found) h =
    let short = not_refused (not (nat_le (length (file_text (before ++ found ∷ []))) file_limit)) _ (Ok (Some found)) None h in
    never_some (Some found) found refl (ok_same (Ok (Some found)) (Some found) None refl short.1)

-- what was seen of a paragraph that passes
seen-parts-of : (rules : Rules) (n : ℕ) (before : List Entries) (s : Result (Option Seen) Refusal) (next : Option Entries) → answer_of_seen rules n before s ≡ Ok next → (s ≡ Ok None) ⊎ ((seen : Seen) × (s ≡ Ok (Some seen)) × (within_file before seen.first (built rules seen) ≡ Ok next))
seen-parts-of rules n before (Err refusal) next h = absurd (cc)
seen-parts-of rules n before (Ok None) next h = inl refl
seen-parts-of rules n before (Ok (Some seen)) next h = inr (seen, refl, h)

never_none : (o beyond : Option ℕ) (p : Paragraph) → paragraph_answer o beyond p ≡ Ok None → ⊥
never_none (Some line) beyond p h = cc
never_none None beyond p h =
    let whole = not_refused (is_line (p.first + length p.lines) beyond) (record { code = FileTooLong; line = p.first + length p.lines }) (seen_from p.first (judged p.first p.lines)) None h in
    go (judged p.first p.lines) whole.1
  where
    go : (j : Result (List Field) Refusal) → seen_from p.first j ≡ Ok None → ⊥
    go (Err refusal) e = cc
    go (Ok fields) e = cc

-- what is answered of a paragraph is seen of it, where it passes
seen_of : (rules : Rules) (beyond : Option ℕ) (n : ℕ) (before : List Entries) (p : Paragraph) (left : List Paragraph) (next : Option Entries) → answer_behind rules beyond n before (p ∷ left) ≡ Ok next → ((rules.single && has_some before) ≡ false) × ((seen : Seen) × IsSeen beyond p seen × (within_file before seen.first (built rules seen) ≡ Ok next))
seen_of rules beyond n before p left next h =
    let alone = not_refused (rules.single && has_some before) _ (answer_of_seen rules n before (answer_of_first beyond (p ∷ left))) next h in
    (alone.0, go (seen-parts-of rules n before (answer_of_first beyond (p ∷ left)) next alone.1))
  where
    go : ((answer_of_first beyond (p ∷ left) ≡ Ok None) ⊎ ((seen : Seen) × (answer_of_first beyond (p ∷ left) ≡ Ok (Some seen)) × (within_file before seen.first (built rules seen) ≡ Ok next))) → (seen : Seen) × IsSeen beyond p seen × (within_file before seen.first (built rules seen) ≡ Ok next)
    go (inl none) = absurd (never_none (line_too_long p.first paragraph_limit p.lines) beyond p (sym (answer_of_first-cons beyond p left) ∙ none))
    go (inr found) = (found.0, seen-parts (line_too_long p.first paragraph_limit p.lines) beyond p found.0 refl (sym (answer_of_first-cons beyond p left) ∙ found.1), found.2)

pub never_past : (rules : Rules) (beyond : Option ℕ) (n : ℕ) (before : List Entries) (p : Paragraph) (left : List Paragraph) → answer_behind rules beyond n before (p ∷ left) ≡ Ok None → ⊥
never_past rules beyond n before p left h =
    let seen = seen_of rules beyond n before p left None h in
    within-some before seen.1.0.first (built rules seen.1.0) seen.1.2

pub passes-from_answer : (rules : Rules) (beyond : Option ℕ) (n : ℕ) (before : List Entries) (p : Paragraph) (left : List Paragraph) (entries : Entries) → answer_behind rules beyond n before (p ∷ left) ≡ Ok (Some entries) → Passes rules beyond before p entries
passes-from_answer rules beyond n before p left entries h =
    let found = seen_of rules beyond n before p left (Some entries) h in
    let seen = found.1.0 in
    let lines = found.1.1 in
    let file = within-parts before seen.first (built rules seen) entries found.1.2 in
    let values = subst (λ s. IsBuilt rules s entries) lines.is (built-parts rules seen entries (value_refusal_of rules seen.fields) refl file.0) in
    record {
      alone = found.0;
      short = lines.short;
      whole = lines.whole;
      fields = lines.fields;
      seen = lines.judges;
      good = values.good;
      named = values.named;
      short_text = values.short;
      short_file = file.1;
      is = values.is;
    }

pub built-from_parts : (rules : Rules) (seen : Seen) → value_refusal_of rules seen.fields ≡ None → have_names seen.fields rules.required ≡ true → length (paragraph_text (canonical_entries rules seen.fields)) ≤ paragraph_limit → built rules seen ≡ Ok (canonical_entries rules seen.fields)
built-from_parts rules seen good named short =
    ap (refused_or_built rules seen) good
    ∙ rw (named, le-leb (length (paragraph_text (canonical_entries rules seen.fields))) paragraph_limit short) refl

pub built-long : (rules : Rules) (seen : Seen) → value_refusal_of rules seen.fields ≡ None → have_names seen.fields rules.required ≡ true → paragraph_limit < length (paragraph_text (canonical_entries rules seen.fields)) → built rules seen ≡ Err (record { code = ParagraphTooLong; line = seen.first })
built-long rules seen good named long =
    ap (refused_or_built rules seen) good
    ∙ rw (named, lt-leb (length (paragraph_text (canonical_entries rules seen.fields))) paragraph_limit long) refl

within-from_parts : (before : List Entries) (line : ℕ) (entries : Entries) → length (file_text (before ++ entries ∷ [])) ≤ file_limit → within_file before line (Ok entries) ≡ Ok (Some entries)
within-from_parts before line entries short = rw (le-leb (length (file_text (before ++ entries ∷ []))) file_limit short) refl

pub answer-from_passes : (rules : Rules) (beyond : Option ℕ) (n : ℕ) (before : List Entries) (p : Paragraph) (left : List Paragraph) (entries : Entries) → Passes rules beyond before p entries → answer_behind rules beyond n before (p ∷ left) ≡ Ok (Some entries)
answer-from_passes rules beyond n before p left entries passes =
    let seen : Seen = record { first = p.first; fields = passes.fields } in
    let lines : answer_of_first beyond (p ∷ left) ≡ Ok (Some seen) =
    answer_of_first-cons beyond p left
    ∙ ap (λ o. paragraph_answer o beyond p) passes.short
    ∙ ap (λ t. cond t (Err (record { code = FileTooLong; line = p.first + length p.lines })) (seen_from p.first (judged p.first p.lines))) passes.whole
    ∙ ap (seen_from p.first) passes.seen in
    let values : built rules seen ≡ Ok entries = built-from_parts rules seen passes.good passes.named passes.short_text ∙ ap Ok (sym passes.is) in
    rw passes.alone
    (ap (answer_of_seen rules n before) lines
    ∙ ap (within_file before p.first) values
    ∙ within-from_parts before p.first entries passes.short_file)

-- The paragraphs pass one after another after others, and have these canonical bodies.
abbrev pub AllPass : Rules → Option ℕ → List Entries → List Paragraph → List Entries → Type 0
AllPass rules beyond before [] passed = passed ≡ []
AllPass rules beyond before (p ∷ left) [] = ⊥
AllPass rules beyond before (p ∷ left) (entries ∷ passed) = Passes rules beyond before p entries × AllPass rules beyond (before ++ entries ∷ []) left passed

pub outcome-from_pass : (rules : Rules) (beyond : Option ℕ) (n : ℕ) (before : List Entries) (left : List Paragraph) (passed : List Entries) → AllPass rules beyond before left passed → answer_behind rules beyond n (before ++ passed) [] ≡ Ok None → outcome_behind rules beyond n before left ≡ record { passed = before ++ passed; refusal = None }
outcome-from_pass rules beyond n before [] passed all last =
    let same : before ++ passed ≡ before = ap (λ m. before ++ m) all ∙ append-nil before in
    ap (stopped before) (subst (λ m. answer_behind rules beyond n m [] ≡ Ok None) same last)
    ∙ ap (λ m. record { passed = m; refusal = None }) (sym same)
outcome-from_pass rules beyond n before (p ∷ left) [] all last = absurd all
outcome-from_pass rules beyond n before (p ∷ left) (entries ∷ passed) all last =
    ap (λ a. followed before a (λ e. outcome_behind rules beyond n (before ++ e ∷ []) left)) (answer-from_passes rules beyond n before p left entries all.0)
    ∙ outcome-from_pass rules beyond n (before ++ entries ∷ []) left passed all.1 (subst (λ m. answer_behind rules beyond n m [] ≡ Ok None) (sym (push-append before entries passed)) last)
    ∙ ap (λ m. record { passed = m; refusal = None }) (push-append before entries passed)

-- the answer after the last paragraph of a file that isn't too long, by whether one is missing
abbrev last_answer : ℕ → Bool → Result (Option Entries) Refusal
last_answer n missing = cond missing (Err (record { code = NoParagraph; line = n })) (Ok None)

last_none : (n : ℕ) (before : List Entries) (missing : Bool) → (stopped before (last_answer n missing)).refusal ≡ None → missing ≡ false
last_none n before true h = absurd (cc)
last_none n before false h = refl

none_left : (rules : Rules) (beyond : Option ℕ) (n : ℕ) (before : List Entries) → (stopped before (answer_behind rules beyond n before [])).refusal ≡ None → answer_behind rules beyond n before [] ≡ Ok None
none_left rules (Some line) n before h = absurd (cc)
none_left rules None n before h = ap (last_answer n) (last_none n before (rules.single && not (has_some before)) h)

-- after the last paragraph of a file that passes: it isn't too long, and no paragraph is missing
pub last-parts : (rules : Rules) (beyond : Option ℕ) (n : ℕ) (before : List Entries) → answer_behind rules beyond n before [] ≡ Ok None → (beyond ≡ None) × ((rules.single && not (has_some before)) ≡ false)
last-parts rules (Some line) n before h = absurd (cc)
last-parts rules None n before h = (refl, (not_refused (rules.single && not (has_some before)) _ (Ok None) None h).0)

pub last-from_parts : (rules : Rules) (n : ℕ) (before : List Entries) → (rules.single && not (has_some before)) ≡ false → answer_behind rules None n before [] ≡ Ok None
last-from_parts rules n before h = ap (last_answer n) h

pub pass-from_outcome : (rules : Rules) (beyond : Option ℕ) (n : ℕ) (before : List Entries) (left : List Paragraph) → (outcome_behind rules beyond n before left).refusal ≡ None → (passed : List Entries) × AllPass rules beyond before left passed × (answer_behind rules beyond n (before ++ passed) [] ≡ Ok None)
pass-from_outcome rules beyond n before [] h =
    ([], refl, subst (λ m. answer_behind rules beyond n m [] ≡ Ok None) (sym (append-nil before)) (none_left rules beyond n before h))
pass-from_outcome rules beyond n before (p ∷ left) h = go (answer_behind rules beyond n before (p ∷ left)) refl h (λ entries. pass-from_outcome rules beyond n (before ++ entries ∷ []) left)
  where
    go : (a : Result (Option Entries) Refusal) → answer_behind rules beyond n before (p ∷ left) ≡ a → (followed before a (λ e. outcome_behind rules beyond n (before ++ e ∷ []) left)).refusal ≡ None → ((entries : Entries) → (outcome_behind rules beyond n (before ++ entries ∷ []) left).refusal ≡ None → (passed : List Entries) × AllPass rules beyond (before ++ entries ∷ []) left passed × (answer_behind rules beyond n ((before ++ entries ∷ []) ++ passed) [] ≡ Ok None)) → (passed : List Entries) × AllPass rules beyond before (p ∷ left) passed × (answer_behind rules beyond n (before ++ passed) [] ≡ Ok None)
    go (Err refusal) e h rest = absurd (cc)
    go (Ok None) e h rest = absurd (never_past rules beyond n before p left e)
    go (Ok (Some entries)) e h rest =
        let r = rest entries h in
        (entries ∷ r.0, (passes-from_answer rules beyond n before p left entries e, r.1), subst (λ m. answer_behind rules beyond n m [] ≡ Ok None) (push-append before entries r.0) r.2)
