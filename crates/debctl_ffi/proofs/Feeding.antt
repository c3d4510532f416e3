-- What was read of a text that goes on: its paragraphs are the first of each longer text.
use Rattle.std.proofs.Common.{◌≡◌, ℕ, zero, suc, ◌+◌, ◌-◌, ◌<◌, ◌≤◌, ◌==◌, ◌⊎◌, inl, inr, Bool, true, false, cond, List, [], ◌∷◌, ◌++◌, length, drop, nat_le, Option, Some, None, Ok, Err, IfSome, refl, sym, ap, ◌∙◌, subst, append_assoc, arith}
use Rattle.std.specs.List.{AllByRecursion}
use Rattle.std.proofs.lemmas.List.{length-append, length-map}
use Rattle.deb_base.specs.Bodies.{Line, is_blank, paragraph_limit, file_limit}
use Rattle.deb_base.specs.declared.doc.Doc.{Doc}
use Rattle.deb_base.specs.declared.code.Code.TheVariants.{FileTooLong}
use Rattle.deb_syntax.specs.Answers.{Seen, answer_of_first, is_line, line_beyond, line_too_long, next_answer, paragraph_answer, paragraphs_within, part_within, seen_from}
use Rattle.deb_syntax.specs.Judging.{judged}
use Rattle.deb_syntax.specs.Lines.{IsClosed, Paragraph, ends_blank, lines_of, paragraphs_from, with_line}
use Rattle.deb_syntax.specs.Meaning.{Entries}
use Rattle.deb_syntax.proofs.LeftAnswers.{left-paragraphs}
use Rattle.deb_syntax.proofs.Parts.{line_beyond-append}
use Rattle.deb_control.specs.Checking.{CheckedState, Follow}
use Rattle.deb_control.specs.Documents.{rules_of}
use Rattle.deb_control.specs.Refusals.{Answered, answer_behind, line_behind, next_checked}
use Rattle.deb_control.specs.Rules.{Rules}
use Rattle.deb_control.proofs.Passing.{answer-from_passes, answer_of_first-cons, passes-from_answer, seen-parts}
use Rattle.deb_control.specs.GivenParagraphs.{AreNext}
use Rattle.deb_control.proofs.FollowedParagraphs.{all-follow, follow-all}
use Rattle.debctl_ffi.specs.Feeds.{HasRead}

-- an element, and what is after it, whatever follows
split : {X : Type 0} (Q : X → Type 0) (k : ℕ) (xs : List X) → k < length xs → AllByRecursion Q xs → (x : X) × (rest : List X) × Q x × ((ys : List X) → drop k (xs ++ ys) ≡ x ∷ (rest ++ ys))
split Q k [] few all = absurd (omega (arith, few))
split Q zero (x ∷ xs) few all = (x, xs, all.0, λ ys. refl)
split Q (suc k) (x ∷ xs) few all = split Q k xs (omega (arith, few)) all.1

-- a paragraph begins at line n or later, and the line after it is before another one
abbrev EndsBefore : ℕ → ℕ → Paragraph → Type 0
EndsBefore n end p = (n ≤ p.first) × (p.first + length p.lines < end)

earlier : (n end : ℕ) (ps : List Paragraph) → AllByRecursion (EndsBefore (n + 1) end) ps → AllByRecursion (EndsBefore n end) ps
earlier n end [] all = tt
earlier n end (p ∷ ps) all = ((omega (arith, all.0.0), all.0.1), earlier n end ps all.1)

with_line-ends : (n end : ℕ) (line : Line) (b : Bool) (ps : List Paragraph) → n + 1 < end → AllByRecursion (EndsBefore (n + 1) end) ps → AllByRecursion (EndsBefore n end) (with_line n line b ps)
with_line-ends n end line true ps room all = ((omega arith, omega (arith, room)), earlier n end ps all)
with_line-ends n end line false [] room all = ((omega arith, omega (arith, room)), tt)
with_line-ends n end line false (p ∷ ps) room all = ((omega arith, omega (arith, all.0.0, all.0.1)), earlier n end ps all.1)

-- after each paragraph of lines of which the last is blank there is a line
ends-before : (n : ℕ) (lines : List Line) → ends_blank lines ≡ true → AllByRecursion (EndsBefore n (n + length lines)) (paragraphs_from n lines)
ends-before n [] h = tt
ends-before n (line ∷ []) h = rw h tt
ends-before n (line ∷ next ∷ lines) h =
    let ps = paragraphs_from (n + 1) (next ∷ lines) in
    let end : ℕ = n + length (line ∷ next ∷ lines) in
    let same : n + 1 + length (next ∷ lines) ≡ end = omega arith in
    let room : n + 1 < end = omega arith in
    let ih : AllByRecursion (EndsBefore (n + 1) end) ps = subst (λ e. AllByRecursion (EndsBefore (n + 1) e) ps) same (ends-before (n + 1) (next ∷ lines) h) in
    elim (is_blank line) as (λ t. AllByRecursion (EndsBefore n end) (cond t ps (with_line n line (is_blank next) ps))) [
      | true ↦ earlier n end ps ih
      | false ↦ with_line-ends n end line (is_blank next) ps room ih
    ]

not-equal : (k line : ℕ) → k < line → (line == k) ≡ false
not-equal k line less = grind (arith, less, Rattle.std.proofs.lemmas.Bool.Decides.nat_tests)

-- a line is none that comes later
not-later : (k : ℕ) (o : Option ℕ) → IfSome o (λ line. k < line) → is_line k o ≡ false
not-later k None later = refl
not-later k (Some line) later = not-equal k line later

beyond-later : (n room : ℕ) (text : List ℕ) → IfSome (line_beyond n room text) (λ line. n ≤ line)
beyond-later n room text =
    elim (nat_le (length text) room) as (λ t. IfSome (cond t None (Some (n + length (lines_of (part_within room text))))) (λ line. n ≤ line)) [
      | true ↦ tt
      | false ↦ omega arith
    ]

later-than : (k n : ℕ) (o : Option ℕ) → k < n → IfSome o (λ line. n ≤ line) → IfSome o (λ line. k < line)
later-than k n None less at = tt
later-than k n (Some line) less at = omega (arith, less, at)

-- What passes of a closed text and some bytes after it also passes of it and others.
module _ (rules : Rules) (passed behind other : List ℕ) (closed : IsClosed passed) (short : length passed ≤ file_limit) where
  abbrev pub paragraphs : List Paragraph
  paragraphs = paragraphs_from 1 (lines_of passed)

  abbrev tail : List ℕ → List Paragraph
  tail bytes = paragraphs_from (1 + length (lines_of passed)) (lines_of (part_within (file_limit - length passed) bytes))

  first : (bytes : List ℕ) → paragraphs_within (passed ++ bytes) ≡ paragraphs ++ tail bytes
  first bytes = left-paragraphs 1 file_limit passed bytes closed short

  one : (k : ℕ) → k < length paragraphs → (p : Paragraph) × (rest : List Paragraph) × EndsBefore 1 (1 + length (lines_of passed)) p × ((ys : List Paragraph) → drop k (paragraphs ++ ys) ≡ p ∷ (rest ++ ys))
  one k few = split (EndsBefore 1 (1 + length (lines_of passed))) k paragraphs few (ends-before 1 (lines_of passed) closed.1)

  whole : (p : Paragraph) → EndsBefore 1 (1 + length (lines_of passed)) p → is_line (p.first + length p.lines) (line_beyond 1 file_limit (passed ++ other)) ≡ false
  whole p ends =
      not-later (p.first + length p.lines) (line_beyond 1 file_limit (passed ++ other))
      (later-than (p.first + length p.lines) (1 + length (lines_of passed)) (line_beyond 1 file_limit (passed ++ other)) ends.1
      (subst (λ o. IfSome o (λ line. 1 + length (lines_of passed) ≤ line)) (sym (line_beyond-append 1 file_limit passed other closed.0 short)) (beyond-later (1 + length (lines_of passed)) (file_limit - length passed) other)))

  checked-other : (front : List Entries) (entries : Entries) → length front < length paragraphs → next_checked rules (passed ++ behind) front ≡ Ok (Some entries) → next_checked rules (passed ++ other) front ≡ Ok (Some entries)
  checked-other front entries few next =
      let at = one (length front) few in
      let p = at.0 in
      let here : drop (length front) (paragraphs_within (passed ++ behind)) ≡ p ∷ (at.1 ++ tail behind) = ap (drop (length front)) (first behind) ∙ at.3 (tail behind) in
      let there : drop (length front) (paragraphs_within (passed ++ other)) ≡ p ∷ (at.1 ++ tail other) = ap (drop (length front)) (first other) ∙ at.3 (tail other) in
      let passes = passes-from_answer rules (line_beyond 1 file_limit (passed ++ behind)) (line_behind (passed ++ behind)) front p (at.1 ++ tail behind) entries
      (subst (λ left. answer_behind rules (line_beyond 1 file_limit (passed ++ behind)) (line_behind (passed ++ behind)) front left ≡ Ok (Some entries)) here next) in
      ap (answer_behind rules (line_beyond 1 file_limit (passed ++ other)) (line_behind (passed ++ other)) front) there
      ∙ answer-from_passes rules (line_beyond 1 file_limit (passed ++ other)) (line_behind (passed ++ other)) front p (at.1 ++ tail other) entries
      (record { alone = passes.alone; short = passes.short; whole = whole p at.2; fields = passes.fields; seen = passes.seen; good = passes.good; named = passes.named; short_text = passes.short_text; short_file = passes.short_file; is = passes.is })

  pub follow-other : (front more : List Entries) → length front + length more ≤ length paragraphs → Follow rules (passed ++ behind) front more → Follow rules (passed ++ other) front more
  follow-other front [] few follow = tt
  follow-other front (entries ∷ more) few follow =
      (checked-other front entries (omega (arith, few)) follow.0, follow-other (front ++ entries ∷ []) more (omega (arith, few, length-append front (entries ∷ []))) follow.1)

  answer-other : (k : ℕ) (seen : Seen) → k < length paragraphs → next_answer (passed ++ behind) k ≡ Ok (Some seen) → next_answer (passed ++ other) k ≡ Ok (Some seen)
  answer-other k seen few next =
      let at = one k few in
      let p = at.0 in
      let here : drop k (paragraphs_within (passed ++ behind)) ≡ p ∷ (at.1 ++ tail behind) = ap (drop k) (first behind) ∙ at.3 (tail behind) in
      let there : drop k (paragraphs_within (passed ++ other)) ≡ p ∷ (at.1 ++ tail other) = ap (drop k) (first other) ∙ at.3 (tail other) in
      let beyond = line_beyond 1 file_limit (passed ++ behind) in
      let found = seen-parts (line_too_long p.first paragraph_limit p.lines) beyond p seen refl
      (sym (answer_of_first-cons beyond p (at.1 ++ tail behind)) ∙ subst (λ left. answer_of_first beyond left ≡ Ok (Some seen)) here next) in
      ap (answer_of_first (line_beyond 1 file_limit (passed ++ other))) there
      ∙ answer_of_first-cons (line_beyond 1 file_limit (passed ++ other)) p (at.1 ++ tail other)
      ∙ ap (λ o. paragraph_answer o (line_beyond 1 file_limit (passed ++ other)) p) found.short
      ∙ ap (λ t. cond t (Err (record { code = FileTooLong; line = p.first + length p.lines })) (seen_from p.first (judged p.first p.lines))) (whole p at.2)
      ∙ ap (seen_from p.first) found.judges
      ∙ ap (λ s. Ok (Some s)) (sym found.is)

  pub next-other : (k : ℕ) (given : List Seen) → k + length given ≤ length paragraphs → AreNext (passed ++ behind) k given → AreNext (passed ++ other) k given
  next-other k [] few next = tt
  next-other k (seen ∷ given) few next = (answer-other k seen (omega (arith, few)) next.0, next-other (k + 1) given (omega (arith, few)) next.1)

some_same : (a b : List ℕ) → Some a ≡ Some b → a ≡ b
some_same a b e = cc

not_empty : (rest : List ℕ) → 0 < length rest → rest ≡ [] → ⊥
not_empty rest some none = absurd (omega (arith, some, ap length none))

last_not_empty : (a b rest : List ℕ) → 0 < length rest → a ++ (b ++ rest) ≡ [] → ⊥
last_not_empty a b rest some none = absurd (omega (arith, some, ap length none, length-append a (b ++ rest), length-append b rest))

closed_here : (passed all : List ℕ) → (IsClosed passed ⊎ (all ≡ [])) → (all ≡ [] → ⊥) → IsClosed passed
closed_here passed all (inl closed) some = closed
closed_here passed all (inr none) some = absurd (some none)

-- What was read of a text of which some bytes are left was read of each longer one.
pub has_read-more : (doc : Doc) (text more : List ℕ) (given : List Seen) (state : CheckedState) (rest : List ℕ) → 0 < length rest → length text ≤ file_limit → HasRead doc text given state (Some rest) → HasRead doc (text ++ more) given state (Some (rest ++ more))
has_read-more doc text more given state rest some short read =
    let checked = read.checked.fits in
    let fits = checked.fits in
    let passed : List ℕ = checked.passed in
    let same : rest ≡ fits.rest = some_same rest fits.rest fits.told in
    let left : 0 < length fits.rest = subst (λ r. 0 < length r) same some in
    let behind : List ℕ = fits.overlong ++ (state.reader.unread ++ fits.rest) in
    let closed = closed_here passed behind fits.closed (last_not_empty fits.overlong state.reader.unread fits.rest left) in
    let within : length passed ≤ file_limit = omega (arith, short, ap length fits.whole, length-append passed behind) in
    let whole : text ++ more ≡ passed ++ (behind ++ more) = ap (λ t. t ++ more) fits.whole ∙ append_assoc passed behind more in
    let parts : behind ++ more ≡ fits.overlong ++ (state.reader.unread ++ (fits.rest ++ more)) =
    append_assoc fits.overlong (state.reader.unread ++ fits.rest) more ∙ ap (λ b. fits.overlong ++ b) (append_assoc state.reader.unread fits.rest more) in
    let all : length (paragraphs_from 1 (lines_of passed)) ≡ length read.checked.before = checked.paragraphs ∙ length-map {B = Answered} read.checked.before (λ e. Ok e) in
    record {
      checked = record {
        before = read.checked.before;
        fits = record {
          passed = passed;
          fits = record {
            overlong = fits.overlong;
            rest = fits.rest ++ more;
            told = ap (λ r. Some (r ++ more)) same;
            whole = whole ∙ ap (λ b. passed ++ b) parts;
            bytes = fits.bytes;
            lines = fits.lines;
            overlong_bytes = fits.overlong_bytes;
            overlong_line = fits.overlong_line;
            closed = inl closed;
            ended = λ e. absurd (not_empty fits.rest left (fits.ended e));
            finished = λ e. absurd (last_not_empty fits.overlong state.reader.unread fits.rest left (fits.finished e));
          };
          given = all-follow (rules_of doc) (text ++ more) [] read.checked.before (subst (λ t. Follow (rules_of doc) t [] read.checked.before) (sym whole)
              (follow-other (rules_of doc) passed behind (behind ++ more) closed within [] read.checked.before (omega (arith, all))
              (subst (λ t. Follow (rules_of doc) t [] read.checked.before) fits.whole (follow-all (rules_of doc) text [] read.checked.before checked.given))));
          paragraphs = checked.paragraphs;
          counted = checked.counted;
          bytes = checked.bytes;
        };
      };
      next = subst (λ t. AreNext t 0 given) (sym whole)
          (next-other (rules_of doc) passed behind (behind ++ more) closed within 0 given (omega (arith, all, read.counted))
          (subst (λ t. AreNext t 0 given) fits.whole read.next));
      counted = read.counted;
    }
