-- What the calls of a reader of paragraphs say of a text that fits, from what its walk finds ahead.
use Rattle.deb_syntax.proofs.Common.{seen_from, ◌≡◌, ℕ, ◌+◌, ◌<◌, ◌≤◌, ◌&&◌, Bool, false, List, [], ◌++◌, Option, Some, None, Ok, Err, length, take, refl, sym, ap, ◌∙◌, subst, arith, rules, length-append, IfNone, IfSome, IsSome, Shown, lt-leb, Line, is_blank, is_all_blank, line_length, ParagraphTooLong, Fault, Refused, Memory, Read, Write, Refusal, Extent, IsNear, TakesNoMore, IsExtentOf, Seen, next_answer, next_begin, CursorState, cursor_state, buffer_of, start_of, piece_limit, left_count, Takes, FileCursor, FieldSpan, judged, paragraphs_of, State, state_from, Fits, passed_count, GivesLine, BeginsHere, IsRefusalOfText, Moment, Advances, Begins, KeepsErrors, IsReadersFault, IsFaultOf, HidesLong}
use Rattle.deb_base.specs.Bodies.{paragraph_limit, file_limit}
use Rattle.std.specs.List.{slice_range}
use Rattle.deb_syntax.proofs.CursorLemmas.{front_of_unread}
use Rattle.deb_syntax.proofs.JudgingLawsRefusals.{judged-refusal}
use Rattle.deb_syntax.proofs.NextLines.{near-short}

-- a line as long as a paragraph may be isn't blank
pub long_not_blank : (line : List ℕ) → paragraph_limit ≤ length line → is_blank line ≡ false
long_not_blank line long = ap (λ t. ◌&&◌ t (is_all_blank line)) (lt-leb (line_length line) paragraph_limit (omega arith))

-- the same number of paragraphs have passed
pub same_count : (text passed passed_now : List ℕ) → paragraphs_of passed_now ≡ paragraphs_of passed → (next_answer text (passed_count passed_now) ≡ next_answer text (passed_count passed)) × (next_begin text (passed_count passed_now) ≡ next_begin text (passed_count passed))
same_count text passed passed_now e = (ap (λ ps. next_answer text (length ps)) e, ap (λ ps. next_begin text (length ps)) e)

-- a refusal of a line of a paragraph is one of a text
judged_refusal_is : (n : ℕ) (lines : List Line) (refusal : Refusal) → 1 ≤ n → judged n lines ≡ Err refusal → IsRefusalOfText refusal
judged_refusal_is n lines refusal some is =
    let within = judged-refusal n lines refusal is in
    record { least = within.least; most = omega (arith, within.most); line = omega (arith, within.first) }

pub judged_is_readers : (n : ℕ) (lines : List Line) (fault : Fault) → 1 ≤ n → IsFaultOf (judged n lines) fault → IsReadersFault fault IsRefusalOfText
judged_is_readers n lines (Refused refusal) some is = judged_refusal_is n lines refusal some is
judged_is_readers n lines Memory some is = tt
judged_is_readers n lines Read some is = absurd is
judged_is_readers n lines Write some is = absurd is

-- the answer, where a line is refused
pub judged_fault : (text passed : List ℕ) (n : ℕ) (lines : List Line) (fault : Fault) → next_answer text (passed_count passed) ≡ seen_from n (judged n lines) → IsFaultOf (judged n lines) fault → IsReadersFault fault (λ refusal. next_answer text (passed_count passed) ≡ Err refusal)
judged_fault text passed n lines (Refused refusal) answer is = answer ∙ ap (seen_from n) is
judged_fault text passed n lines Memory answer is = tt
judged_fault text passed n lines Read answer is = absurd is
judged_fault text passed n lines Write answer is = absurd is

-- where a paragraph's bytes are in the buffer, these are its bytes
module _ (mid : FileCursor) (buffer : List ℕ) (e : Extent) (from : ℕ) (spans : List FieldSpan) (same : buffer ≡ buffer_of mid) (at : from ≡ start_of mid) (x : IsExtentOf e (cursor_state mid)) where
  pub standing_bytes : slice_range buffer from (from + e.end) ≡ take e.end (cursor_state mid).unread
  standing_bytes = ap (λ zs. slice_range zs from (from + e.end)) same ∙ ap (λ k. slice_range (buffer_of mid) k (k + e.end)) at ∙ front_of_unread mid e.end x.end_within

-- nothing is near where nothing is unread
pub near_nothing : (bytes : List ℕ) → bytes ≡ [] → IsNear bytes
near_nothing bytes none = near-short bytes (omega (arith, ap length none))

-- no discarded line passes the test
pub hides_nothing : (overlong_len : ℕ) (cursor : CursorState) → overlong_len ≡ 0 → HidesLong overlong_len cursor
hides_nothing overlong_len cursor none = λ some. absurd (omega arith)

pub long_some : (n : ℕ) → paragraph_limit ≤ n → 0 < n
unfolding paragraph_limit
long_some n long = omega arith

-- a paragraph begins after the blank lines that have passed
pub begins_line : (text passed : List ℕ) (new : State) (left : Option (List ℕ)) (line : ℕ) → line ≡ new.lines + 1 → IsNear new.unread → BeginsHere text passed new left → GivesLine text passed line new left
begins_line text passed new left line is near b = record {
  begin = b.begin ∙ ap (λ n. Ok (Some n)) (sym is);
  passed_now = b.passed_now;
  again = b.again;
  passes = b.passes;
  at = is;
  near = near;
}

pub if_none : (o : Option Fault) (P : Type 0) → P → IfNone o P
if_none None P p = p
if_none (Some f) P p = tt

pub if_some : (o : Option Fault) (P : Fault → Type 0) → ((f : Fault) → o ≡ Some f → ⊥) → IfSome o P
if_some None P none = tt
if_some (Some f) P none = absurd (none f refl)

-- a call that fails keeps its error
pub advance_err : (before : Moment) (after other : State) (source : Shown) (e : Fault) → ((f : Fault) → before.state.fault ≡ Some f → ⊥) → Advances before (Err e) (record { state = after; source = source }) → other.fault ≡ Some e → other.current ≡ after.current → other.finished ≡ after.finished → KeepsErrors Advances before (Err e) (record { state = other; source = source })
advance_err before after other source e none a kept current finished = record {
  goes = if_none before.state.fault _ (record { answers = a.answers; taken = a.taken; counted = a.counted; fault = a.fault; current = current ∙ a.current; finished = finished ∙ a.finished; ended = a.ended; no_overlong = tt });
  keeps = if_none before.state.fault _ kept;
  repeats = if_some before.state.fault _ none;
}

pub begins_err : (before : Moment) (after other : State) (source : Shown) (e : Fault) → ((f : Fault) → before.state.fault ≡ Some f → ⊥) → Begins before (Err e) (record { state = after; source = source }) → other.fault ≡ Some e → other.current ≡ after.current → other.finished ≡ after.finished → KeepsErrors Begins before (Err e) (record { state = other; source = source })
begins_err before after other source e none a kept current finished = record {
  goes = if_none before.state.fault _ (record { answers = a.answers; taken = a.taken; counted = a.counted; fault = a.fault; current = current ∙ a.current; finished = finished ∙ a.finished; ended = a.ended; line = tt });
  keeps = if_none before.state.fault _ kept;
  repeats = if_some before.state.fault _ none;
}

-- a paragraph whose first line is too long is refused at a line
pub is_line_refusal : (n : ℕ) → IsRefusalOfText (record { code = ParagraphTooLong; line = n + 1 })
is_line_refusal n = record { least = omega arith; most = omega arith; line = omega arith }

-- what was taken of a text that fits
pub takes_text : (text passed : List ℕ) (state : State) (left left_after : Option (List ℕ)) → Fits text passed state left → Takes (state.bytes + length state.unread + state.overlong_len) left (file_limit + piece_limit) left_after → TakesNoMore text file_limit left_after
takes_text text passed state left None fits t = let s = t.shown (subst IsSome (sym fits.told) (search rules)) in absurd cc
takes_text text passed state left (Some rest) fits t = record {
  rest = rest;
  told = refl;
  few = omega (arith, t.few, ap left_count fits.told, fits.bytes, fits.overlong_bytes, ap length fits.whole, length-append passed (fits.overlong ++ (state.unread ++ fits.rest)), length-append fits.overlong (state.unread ++ fits.rest), length-append state.unread fits.rest);
}

-- the same where nothing was read
pub taken_none : (text passed : List ℕ) (cursor : CursorState) (overlong_len : ℕ) (finished : Bool) (current : Option Seen) (fault : Option Fault) (left : Option (List ℕ)) → Fits text passed (state_from cursor overlong_len finished current fault) left → cursor.bytes + overlong_len + length cursor.unread ≤ file_limit + piece_limit → TakesNoMore text file_limit left
taken_none text passed cursor overlong_len finished current fault left fits reach = record {
  rest = fits.rest;
  told = fits.told;
  few = omega (arith, reach, fits.bytes, fits.overlong_bytes, ap length fits.whole, length-append passed (fits.overlong ++ (cursor.unread ++ fits.rest)), length-append fits.overlong (cursor.unread ++ fits.rest), length-append cursor.unread fits.rest);
}

-- the bound on what the buffer and the counts show, as a number
pub reach_limit : (n : ℕ) → n ≤ 4295032831 → n ≤ file_limit + piece_limit
unfolding file_limit
reach_limit n h = omega (arith, h)

pub limit_reach : (n : ℕ) → n ≤ file_limit + piece_limit → n ≤ 4295032831
unfolding file_limit
limit_reach n h = omega (arith, h)
