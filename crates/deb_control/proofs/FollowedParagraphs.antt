-- What comes of a file after its first paragraphs, which have passed.
use Rattle.deb_control.proofs.Common.{◌≡◌, ℕ, zero, suc, ◌+◌, List, [], ◌∷◌, ◌++◌, ◌&&◌, not, Bool, true, false, cond, length, drop, Option, None, Some, Result, Ok, Err, refl, sym, ap, ◌∙◌, subst, arith, append-nil, length-append, NoParagraph, Refusal, line_beyond, answer_of_first, paragraphs_within, Paragraph, file_limit, Entries, push-append, Answered, Follow, FollowGiven, all_pass, whole_answer, length-map, map-append, next_after, next_given, passed_in, has_some, answer_of_seen, answer_behind, next_checked, Outcome, stopped, followed, outcome_behind, outcome, line_behind, Rules}

-- one paragraph more follows
pub follow-push : (rules : Rules) (text : List ℕ) (front more : List Entries) (entries : Entries) → Follow rules text front more → next_checked rules text (front ++ more) ≡ Ok (Some entries) → Follow rules text front (more ++ entries ∷ [])
follow-push rules text front [] entries follow next = (subst (λ m. next_checked rules text m ≡ Ok (Some entries)) (append-nil front) next, tt)
follow-push rules text front (first ∷ more) entries follow next =
    (follow.0, follow-push rules text (front ++ first ∷ []) more entries follow.1 (subst (λ m. next_checked rules text m ≡ Ok (Some entries)) (sym (push-append front first more)) next))

-- the same by what was answered of each
pub given-push : (rules : Rules) (text : List ℕ) (front more : List Answered) (answer : Answered) → FollowGiven rules text front more → next_given rules text (front ++ more) ≡ whole_answer answer → FollowGiven rules text front (more ++ answer ∷ [])
given-push rules text front [] answer follow next = (subst (λ m. next_given rules text m ≡ whole_answer answer) (append-nil front) next, tt)
given-push rules text front (first ∷ more) answer follow next =
    (follow.0, given-push rules text (front ++ first ∷ []) more answer follow.1 (subst (λ m. next_given rules text m ≡ whole_answer answer) (sym (push-append front first more)) next))

-- those that passed
pub passed-push : (answered : List Answered) (entries : Entries) → passed_in (answered ++ Ok entries ∷ []) ≡ passed_in answered ++ entries ∷ []
passed-push [] entries = refl
passed-push (Ok first ∷ answered) entries = ap (λ l. first ∷ l) (passed-push answered entries)
passed-push (Err refusal ∷ answered) entries = passed-push answered entries

pub refused-push : (answered : List Answered) (refusal : Refusal) → passed_in (answered ++ Err refusal ∷ []) ≡ passed_in answered
refused-push [] refusal = refl
refused-push (Ok first ∷ answered) refusal = ap (λ l. first ∷ l) (refused-push answered refusal)
refused-push (Err other ∷ answered) refusal = refused-push answered refusal

-- where all did
pub passed-all : (before : List Entries) → passed_in (all_pass before) ≡ before
passed-all [] = refl
passed-all (entries ∷ before) = ap (λ l. entries ∷ l) (passed-all before)

pub next-all : (rules : Rules) (text : List ℕ) (before : List Entries) → next_given rules text (all_pass before) ≡ next_checked rules text before
next-all rules text before = ap (λ l. next_after rules text (length (all_pass before)) l) (passed-all before) ∙ ap (λ k. next_after rules text k before) (length-map before (λ entries. Ok entries))

pub follow-all : (rules : Rules) (text : List ℕ) (front more : List Entries) → FollowGiven rules text (all_pass front) (all_pass more) → Follow rules text front more
follow-all rules text front [] follow = tt
follow-all rules text front (entries ∷ more) follow = (
  sym (next-all rules text front) ∙ follow.0,
  follow-all rules text (front ++ entries ∷ []) more (subst (λ l. FollowGiven rules text l (all_pass more)) (sym (map-append (λ e. Ok e) front (entries ∷ []))) follow.1),
)

pub all-follow : (rules : Rules) (text : List ℕ) (front more : List Entries) → Follow rules text front more → FollowGiven rules text (all_pass front) (all_pass more)
all-follow rules text front [] follow = tt
all-follow rules text front (entries ∷ more) follow = (
  next-all rules text front ∙ follow.0,
  subst (λ l. FollowGiven rules text l (all_pass more)) (map-append (λ e. Ok e) front (entries ∷ [])) (all-follow rules text (front ++ entries ∷ []) more follow.1),
)

suc_plus : (k : ℕ) → suc k + 1 ≡ suc (k + 1)
suc_plus k = omega arith

pub drop_one : {X : Type 0} (k : ℕ) (xs : List X) → drop 1 (drop k xs) ≡ drop (k + 1) xs
drop_one zero xs = refl
drop_one (suc k) [] = sym (ap (λ m. drop m []) (suc_plus k))
drop_one (suc k) (x ∷ xs) = drop_one k xs ∙ sym (ap (λ m. drop m (x ∷ xs)) (suc_plus k))

module _ (rules : Rules) (beyond : Option ℕ) (n : ℕ) where
  -- after the last paragraph there is none
  pub never_behind_all : (before : List Entries) (entries : Entries) → answer_behind rules beyond n before [] ≡ Ok (Some entries) → ⊥
  never_behind_all before entries h = go beyond h
    where
      none : (t : Bool) → cond {A = Result (Option Entries) Refusal} t (Err (record { code = NoParagraph; line = n })) (Ok None) ≡ Ok (Some entries) → ⊥
      none true e = cc
      none false e = cc

      go : (o : Option ℕ) → answer_of_seen rules n before (answer_of_first o []) ≡ Ok (Some entries) → ⊥
      go None e = none (rules.single && not (has_some before)) e
      go (Some line) e = cc

  -- what comes of it is reported after a paragraph that passes
  pub outcome-next : (before : List Entries) (left : List Paragraph) (entries : Entries) → answer_behind rules beyond n before left ≡ Ok (Some entries) → outcome_behind rules beyond n before left ≡ outcome_behind rules beyond n (before ++ entries ∷ []) (drop 1 left)
  outcome-next before [] entries h = absurd (never_behind_all before entries h)
  outcome-next before (p ∷ left) entries h = ap (λ a. followed before a (λ e. outcome_behind rules beyond n (before ++ e ∷ []) left)) h

  pub outcome-refused : (before : List Entries) (left : List Paragraph) (refusal : Refusal) → answer_behind rules beyond n before left ≡ Err refusal → outcome_behind rules beyond n before left ≡ record { passed = before; refusal = Some refusal }
  outcome-refused before [] refusal h = ap (stopped before) h
  outcome-refused before (p ∷ left) refusal h = ap (λ a. followed before a (λ e. outcome_behind rules beyond n (before ++ e ∷ []) left)) h

  pub outcome-ended : (before : List Entries) (left : List Paragraph) → answer_behind rules beyond n before left ≡ Ok None → outcome_behind rules beyond n before left ≡ record { passed = before; refusal = None }
  outcome-ended before [] h = ap (stopped before) h
  outcome-ended before (p ∷ left) h = ap (λ a. followed before a (λ e. outcome_behind rules beyond n (before ++ e ∷ []) left)) h

  -- more paragraphs may pass after those that have
  pub outcome-passed : (before : List Entries) (left : List Paragraph) → (more : List Entries) × ((outcome_behind rules beyond n before left).passed ≡ before ++ more)
  outcome-passed before [] = ([], go (answer_behind rules beyond n before []))
    where
      go : (a : Result (Option Entries) Refusal) → (stopped before a).passed ≡ before ++ []
      go (Err refusal) = sym (append-nil before)
      go (Ok next) = sym (append-nil before)
  outcome-passed before (p ∷ left) = go (answer_behind rules beyond n before (p ∷ left)) (λ entries. outcome-passed (before ++ entries ∷ []) left)
    where
      go : (a : Result (Option Entries) Refusal) → ((entries : Entries) → (more : List Entries) × ((outcome_behind rules beyond n (before ++ entries ∷ []) left).passed ≡ (before ++ entries ∷ []) ++ more)) → (more : List Entries) × ((followed before a (λ e. outcome_behind rules beyond n (before ++ e ∷ []) left)).passed ≡ before ++ more)
      go (Err refusal) rest = ([], sym (append-nil before))
      go (Ok None) rest = ([], sym (append-nil before))
      go (Ok (Some entries)) rest = let r = rest entries in (entries ∷ r.0, r.1 ∙ push-append before entries r.0)

-- what comes of a file after these paragraphs
abbrev pub outcome_from : Rules → List ℕ → List Entries → Outcome
outcome_from rules text before = outcome_behind rules (line_beyond 1 file_limit text) (line_behind text) before (drop (length before) (paragraphs_within text))

pub outcome-follow : (rules : Rules) (text : List ℕ) (front more : List Entries) → Follow rules text front more → outcome_from rules text front ≡ outcome_from rules text (front ++ more)
outcome-follow rules text front [] follow = ap (outcome_from rules text) (sym (append-nil front))
outcome-follow rules text front (entries ∷ more) follow =
    let beyond = line_beyond 1 file_limit text in
    let one_more : length (front ++ entries ∷ []) ≡ length front + 1 = length-append front (entries ∷ []) in
    outcome-next rules beyond (line_behind text) front (drop (length front) (paragraphs_within text)) entries follow.0
    ∙ ap (outcome_behind rules beyond (line_behind text) (front ++ entries ∷ [])) (drop_one (length front) (paragraphs_within text) ∙ ap (λ k. drop k (paragraphs_within text)) (sym one_more))
    ∙ outcome-follow rules text (front ++ entries ∷ []) more follow.1
    ∙ ap (outcome_from rules text) (push-append front entries more)

-- The file is refused after its first paragraphs.
pub outcome-from_refusal : (rules : Rules) (text : List ℕ) (before : List Entries) (refusal : Refusal) → Follow rules text [] before → next_checked rules text before ≡ Err refusal → outcome rules text ≡ record { passed = before; refusal = Some refusal }
outcome-from_refusal rules text before refusal follow next =
    outcome-follow rules text [] before follow
    ∙ outcome-refused rules (line_beyond 1 file_limit text) (line_behind text) before (drop (length before) (paragraphs_within text)) refusal next

-- It has no more than these.
pub outcome-from_end : (rules : Rules) (text : List ℕ) (before : List Entries) → Follow rules text [] before → next_checked rules text before ≡ Ok None → outcome rules text ≡ record { passed = before; refusal = None }
outcome-from_end rules text before follow next =
    outcome-follow rules text [] before follow
    ∙ outcome-ended rules (line_beyond 1 file_limit text) (line_behind text) before (drop (length before) (paragraphs_within text)) next

-- They are its first.
pub outcome-starts : (rules : Rules) (text : List ℕ) (before : List Entries) → Follow rules text [] before → (more : List Entries) × ((outcome rules text).passed ≡ before ++ more)
outcome-starts rules text before follow =
    let rest = outcome-passed rules (line_beyond 1 file_limit text) (line_behind text) before (drop (length before) (paragraphs_within text)) in
    (rest.0, ap (λ o. o.passed) (outcome-follow rules text [] before follow) ∙ rest.1)
