-- Texts that have the same answers, whatever follows them.
use Rattle.std.proofs.Common.{◌≡◌, ℕ, ◌+◌, ◌-◌, ◌<◌, ◌≤◌, ◌∙◌, ◌⊎◌, inl, inr, List, [], ◌∷◌, ◌++◌, length, drop, map, Some, refl, sym, ap, subst, append_assoc, append-nil, arith}
use Rattle.std.proofs.lemmas.List.{append_cancel_right, length-append, length-map}
use Rattle.deb_base.specs.Bodies.{file_limit}
use Rattle.deb_base.specs.declared.doc.Doc.{Doc}
use Rattle.deb_syntax.specs.Answers.{Seen, answer_of_first, line_beyond, next_answer, paragraphs_within, part_within}
use Rattle.deb_syntax.specs.Lines.{IsClosed, lines_of, paragraphs_from, paragraphs_of}
use Rattle.deb_syntax.specs.Meaning.{Entries}
use Rattle.deb_syntax.proofs.Boundaries.{lines_of-append}
use Rattle.deb_syntax.proofs.LeftAnswers.{left-paragraphs}
use Rattle.deb_syntax.proofs.NextParagraph.{blank-ends, no_paragraph}
use Rattle.deb_syntax.proofs.Parts.{line_beyond-append}
use Rattle.deb_syntax.proofs.Passing.{closed_more, paragraphs_behind}
use Rattle.deb_field.specs.Values.{SpellsValue, ValueMeaning, value_text}
use Rattle.deb_field.specs.ValueLaws.{value_law}
use Rattle.deb_control.specs.Calls.{HasParagraphs}
use Rattle.deb_control.specs.Checking.{CheckedState, Follow}
use Rattle.deb_control.specs.Documents.{rules_of}
use Rattle.deb_control.specs.Refusals.{answer_behind, line_behind, next_checked, outcome, outcome_behind}
use Rattle.deb_control.specs.Rules.{Rules}
use Rattle.deb_control.specs.ValueFiles.{body_under}
use Rattle.deb_control.proofs.Accepting.{outcome-accepted}
use Rattle.deb_control.proofs.CheckedSoFar.{has_paragraphs}
use Rattle.deb_control.proofs.DocumentRules.{document_rules}
use Rattle.debctl_ffi.specs.Blanks.{AreBlankLines, DropsBlanks}
use Rattle.debctl_ffi.specs.Alike.{AnswerAlike}
use Rattle.debctl_ffi.specs.Feeds.{ArePassing, HasRead, ReadsToEnd, RefusesOn}
use Rattle.deb_control.specs.GivenParagraphs.{AreNext}
use Rattle.deb_control.proofs.FollowedParagraphs.{all-follow, follow-all}
use Rattle.debctl_ffi.specs.declared.field.Tables.{Tables}
use Rattle.deb_base.specs.declared.refusal.Refusal.{Refusal}
use Rattle.debctl_ffi.proofs.BlankTexts.{closed-after, closing-some}

-- ---- texts

pub alike-self : (text : List ℕ) → AnswerAlike text text
alike-self text = record {
  bytes = refl;
  next = λ more k. refl;
  checked = λ doc more before. refl;
  comes = λ doc more. refl;
}

pub alike-then : (a b c : List ℕ) → AnswerAlike a b → AnswerAlike b c → AnswerAlike a c
alike-then a b c p q = record {
  bytes = p.bytes ∙ q.bytes;
  next = λ more k. p.next more k ∙ q.next more k;
  checked = λ doc more before. p.checked doc more before ∙ q.checked doc more before;
  comes = λ doc more. p.comes doc more ∙ q.comes doc more;
}

pub alike-more : (a b rest : List ℕ) → AnswerAlike a b → AnswerAlike (a ++ rest) (b ++ rest)
alike-more a b rest p = record {
  bytes = omega (arith, p.bytes, length-append a rest, length-append b rest);
  next = λ more k. ap (λ t. next_answer t k) (append_assoc a rest more) ∙ p.next (rest ++ more) k ∙ ap (λ t. next_answer t k) (sym (append_assoc b rest more));
  checked = λ doc more before. ap (λ t. next_checked (rules_of doc) t before) (append_assoc a rest more) ∙ p.checked doc (rest ++ more) before ∙ ap (λ t. next_checked (rules_of doc) t before) (sym (append_assoc b rest more));
  comes = λ doc more. ap (outcome (rules_of doc)) (append_assoc a rest more) ∙ p.comes doc (rest ++ more) ∙ ap (outcome (rules_of doc)) (sym (append_assoc b rest more));
}

-- Closed texts with as many bytes and lines and the same paragraphs.
module _ (a b : List ℕ) (ca : IsClosed a) (cb : IsClosed b) (bytes : length a ≡ length b) (short : length a ≤ file_limit) (lines : length (lines_of a) ≡ length (lines_of b)) (same : paragraphs_of a ≡ paragraphs_of b) where
  short_b : length b ≤ file_limit
  short_b = omega (arith, bytes, short)

  within : (more : List ℕ) → paragraphs_within (a ++ more) ≡ paragraphs_within (b ++ more)
  within more =
      left-paragraphs 1 file_limit a more ca short
      ∙ ap (λ ps. ps ++ paragraphs_from (1 + length (lines_of a)) (lines_of (part_within (file_limit - length a) more))) same
      ∙ ap (λ n. paragraphs_of b ++ paragraphs_from (1 + n) (lines_of (part_within (file_limit - length a) more))) lines
      ∙ ap (λ n. paragraphs_of b ++ paragraphs_from (1 + length (lines_of b)) (lines_of (part_within (file_limit - n) more))) bytes
      ∙ sym (left-paragraphs 1 file_limit b more cb short_b)

  beyond : (more : List ℕ) → line_beyond 1 file_limit (a ++ more) ≡ line_beyond 1 file_limit (b ++ more)
  beyond more =
      line_beyond-append 1 file_limit a more ca.0 short
      ∙ ap (λ n. line_beyond (1 + n) (file_limit - length a) more) lines
      ∙ ap (λ n. line_beyond (1 + length (lines_of b)) (file_limit - n) more) bytes
      ∙ sym (line_beyond-append 1 file_limit b more cb.0 short_b)

  after : (more : List ℕ) → line_behind (a ++ more) ≡ line_behind (b ++ more)
  after more =
      omega (arith, lines, ap length (lines_of-append a more ca.0), ap length (lines_of-append b more cb.0), length-append (lines_of a) (lines_of more), length-append (lines_of b) (lines_of more))

  alike-closed : AnswerAlike a b
  alike-closed = record {
    bytes = bytes;
    next = λ more k. ap (λ o. answer_of_first o (drop k (paragraphs_within (a ++ more)))) (beyond more) ∙ ap (λ ps. answer_of_first (line_beyond 1 file_limit (b ++ more)) (drop k ps)) (within more);
    checked = λ doc more before.
        ap (λ o. answer_behind (rules_of doc) o (line_behind (a ++ more)) before (drop (length before) (paragraphs_within (a ++ more)))) (beyond more)
        ∙ ap (λ n. answer_behind (rules_of doc) (line_beyond 1 file_limit (b ++ more)) n before (drop (length before) (paragraphs_within (a ++ more)))) (after more)
        ∙ ap (λ ps. answer_behind (rules_of doc) (line_beyond 1 file_limit (b ++ more)) (line_behind (b ++ more)) before (drop (length before) ps)) (within more);
    comes = λ doc more.
        ap (λ o. outcome_behind (rules_of doc) o (line_behind (a ++ more)) [] (paragraphs_within (a ++ more))) (beyond more)
        ∙ ap (λ n. outcome_behind (rules_of doc) (line_beyond 1 file_limit (b ++ more)) n [] (paragraphs_within (a ++ more))) (after more)
        ∙ ap (λ ps. outcome_behind (rules_of doc) (line_beyond 1 file_limit (b ++ more)) (line_behind (b ++ more)) [] ps) (within more);
  }

-- blank lines after a closed text
module _ (c text : List ℕ) (n s : ℕ) (closed : IsClosed c) (are : AreBlankLines text n s) where
  closed-blank : IsClosed (c ++ text)
  closed-blank = closed_more c text closed (are.whole, blank-ends (lines_of text) are.blank)

  paragraphs-blank : paragraphs_of (c ++ text) ≡ paragraphs_of c
  paragraphs-blank =
      paragraphs_behind c text (inl closed)
      ∙ ap (λ ps. paragraphs_of c ++ ps) (no_paragraph (1 + length (lines_of c)) (lines_of text) are.blank)
      ∙ append-nil (paragraphs_of c)

  lines-blank : length (lines_of (c ++ text)) ≡ length (lines_of c) + n
  lines-blank = omega (arith, ap length (lines_of-append c text closed.0), length-append (lines_of c) (lines_of text), are.counted)

-- Blank lines in place of others.
module _ (u old new : List ℕ) (drops : DropsBlanks old new) (short : length (u ++ old) ≤ file_limit) where
  abbrev c : List ℕ
  c = u ++ drops.front

  closed : IsClosed c
  closed = closed-after u drops.front drops.closing

  was : u ++ old ≡ (c ++ drops.before) ++ drops.rest
  was = ap (λ t. u ++ t) drops.was ∙ sym (append_assoc u drops.front (drops.before ++ drops.rest)) ∙ sym (append_assoc c drops.before drops.rest)

  is : u ++ new ≡ (c ++ drops.after) ++ drops.rest
  is = ap (λ t. u ++ t) drops.is ∙ sym (append_assoc u drops.front (drops.after ++ drops.rest)) ∙ sym (append_assoc c drops.after drops.rest)

  pub drops-alike : AnswerAlike (u ++ old) (u ++ new)
  drops-alike =
      let b = drops.blank_before in
      let a = drops.blank_after in
      subst (λ t. AnswerAlike t (u ++ new)) (sym was) (subst (λ t. AnswerAlike ((c ++ drops.before) ++ drops.rest) t) (sym is)
      (alike-more (c ++ drops.before) (c ++ drops.after) drops.rest
      (alike-closed (c ++ drops.before) (c ++ drops.after)
      (closed-blank c drops.before drops.lines drops.spaces closed b) (closed-blank c drops.after drops.lines drops.spaces closed a)
      (omega (arith, length-append c drops.before, length-append c drops.after, b.bytes, a.bytes))
      (omega (arith, short, ap length was, length-append (c ++ drops.before) drops.rest))
      (lines-blank c drops.before drops.lines drops.spaces closed b ∙ sym (lines-blank c drops.after drops.lines drops.spaces closed a))
      (paragraphs-blank c drops.before drops.lines drops.spaces closed b ∙ sym (paragraphs-blank c drops.after drops.lines drops.spaces closed a)))))

  pub drops-some : 0 < length old
  drops-some = omega (arith, ap length drops.was, length-append drops.front (drops.before ++ drops.rest), closing-some drops.front drops.closing)

-- ---- what was read

follow-alike : (rules : Rules) (text other : List ℕ) → ((front : List Entries) → next_checked rules text front ≡ next_checked rules other front) → (front more : List Entries) → Follow rules text front more → Follow rules other front more
follow-alike rules text other same front [] follow = tt
follow-alike rules text other same front (entries ∷ more) follow = (sym (same front) ∙ follow.0, follow-alike rules text other same (front ++ entries ∷ []) more follow.1)

next-alike : (text other : List ℕ) → ((k : ℕ) → next_answer text k ≡ next_answer other k) → (k : ℕ) (given : List Seen) → AreNext text k given → AreNext other k given
next-alike text other same k [] next = tt
next-alike text other same k (seen ∷ given) next = (sym (same k) ∙ next.0, next-alike text other same (k + 1) given next.1)

some_same : (a b : List ℕ) → Some a ≡ Some b → a ≡ b
some_same a b e = cc

not_empty : (rest : List ℕ) → 0 < length rest → rest ≡ [] → ⊥
not_empty rest some none = absurd (omega (arith, some, ap length none))

last_not_empty : (a b rest : List ℕ) → 0 < length rest → a ++ (b ++ rest) ≡ [] → ⊥
last_not_empty a b rest some none = absurd (omega (arith, some, ap length none, length-append a (b ++ rest), length-append b rest))

closed_of : (passed all : List ℕ) → (IsClosed passed ⊎ (all ≡ [])) → (all ≡ [] → ⊥) → IsClosed passed
closed_of passed all (inl closed) some = closed
closed_of passed all (inr none) some = absurd (some none)

-- What was read of a text was read of one with other bytes that have the same answers.
pub has_read-alike : (doc : Doc) (u old new more : List ℕ) (given : List Seen) (state : CheckedState) → AnswerAlike (u ++ old) (u ++ new) → 0 < length old → HasRead doc ((u ++ old) ++ more) given state (Some (old ++ more)) → HasRead doc ((u ++ new) ++ more) given state (Some (new ++ more))
has_read-alike doc u old new more given state alike full read =
    let checked = read.checked.fits in
    let fits = checked.fits in
    let same : old ++ more ≡ fits.rest = some_same (old ++ more) fits.rest fits.told in
    let some : 0 < length fits.rest = omega (arith, ap length same, length-append old more, full) in
    let v = checked.passed ++ (fits.overlong ++ state.reader.unread) in
    let whole : u ++ (old ++ more) ≡ v ++ (old ++ more) =
    sym (append_assoc u old more) ∙ fits.whole ∙ ap (λ t. checked.passed ++ (fits.overlong ++ (state.reader.unread ++ t))) (sym same)
    ∙ ap (λ t. checked.passed ++ t) (sym (append_assoc fits.overlong state.reader.unread (old ++ more))) ∙ sym (append_assoc checked.passed (fits.overlong ++ state.reader.unread) (old ++ more)) in
    let is_u : u ≡ v = append_cancel_right u v (old ++ more) whole in
    record {
      checked = record {
        before = read.checked.before;
        fits = record {
          passed = checked.passed;
          fits = record {
            overlong = fits.overlong;
            rest = new ++ more;
            told = refl;
            whole = append_assoc u new more ∙ ap (λ t. t ++ (new ++ more)) is_u
                ∙ append_assoc checked.passed (fits.overlong ++ state.reader.unread) (new ++ more)
                ∙ ap (λ t. checked.passed ++ t) (append_assoc fits.overlong state.reader.unread (new ++ more));
            bytes = fits.bytes;
            lines = fits.lines;
            overlong_bytes = fits.overlong_bytes;
            overlong_line = fits.overlong_line;
            closed = inl (closed_of checked.passed (fits.overlong ++ (state.reader.unread ++ fits.rest)) fits.closed (last_not_empty fits.overlong state.reader.unread fits.rest some));
            ended = λ e. absurd (not_empty fits.rest some (fits.ended e));
            finished = λ e. absurd (last_not_empty fits.overlong state.reader.unread fits.rest some (fits.finished e));
          };
          given = all-follow (rules_of doc) ((u ++ new) ++ more) [] read.checked.before (follow-alike (rules_of doc) ((u ++ old) ++ more) ((u ++ new) ++ more) (alike.checked doc more) [] read.checked.before (follow-all (rules_of doc) ((u ++ old) ++ more) [] read.checked.before checked.given));
          paragraphs = checked.paragraphs;
          counted = checked.counted;
          bytes = checked.bytes;
        };
      };
      next = next-alike ((u ++ old) ++ more) ((u ++ new) ++ more) (alike.next more) 0 given read.next;
      counted = read.counted;
    }

-- ---- what is answered

module _ (doc : Doc) (text other : List ℕ) (alike : AnswerAlike text other) (more : List ℕ) where
  has-alike : (n : ℕ) → HasParagraphs doc (other ++ more) n → HasParagraphs doc (text ++ more) n
  has-alike n has =
      let is = outcome-accepted ValueMeaning (SpellsValue doc) value_text (value_law doc) (rules_of doc) (document_rules doc) (other ++ more) has.meaning has.accepted in
      has_paragraphs doc (text ++ more) (map (map (body_under value_text)) has.meaning) n (alike.comes doc more ∙ is) (length-map has.meaning (map (body_under value_text)) ∙ has.count)

  passing-alike : (paragraphs : List Seen) → ArePassing doc (other ++ more) paragraphs → ArePassing doc (text ++ more) paragraphs
  passing-alike paragraphs are = record {
    next = next-alike (other ++ more) (text ++ more) (λ k. sym (alike.next more k)) 0 paragraphs are.next;
    passed = are.passed ∙ ap (λ o. length o.passed) (sym (alike.comes doc more));
  }

  pub to_end-alike : (given : List Seen) (tables : Tables) (count : ℕ) → ReadsToEnd doc (other ++ more) given tables count → ReadsToEnd doc (text ++ more) given tables count
  to_end-alike given tables count to_end = record {
    fresh = to_end.fresh;
    reads = record {
      has = has-alike count to_end.reads.has;
      all = passing-alike (given ++ to_end.fresh) to_end.reads.all;
      shows = to_end.reads.shows;
    };
  }

  pub refuses-alike : (given : List Seen) (refusal : Refusal) (tables : Tables) → RefusesOn doc (other ++ more) given refusal tables → RefusesOn doc (text ++ more) given refusal tables
  refuses-alike given refusal tables refuses = record {
    fresh = refuses.fresh;
    refuses = record {
      refused = ap (λ o. o.refusal) (alike.comes doc more) ∙ refuses.refuses.refused;
      all = passing-alike (given ++ refuses.fresh) refuses.refuses.all;
      shows = refuses.refuses.shows;
    };
  }
