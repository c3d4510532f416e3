-- What passing a paragraph, and then judging its lines, says of a reader and of a text that fits.
use Rattle.deb_syntax.proofs.Common.{◌≡◌, ℕ, ◌&&◌, Bool, true, false, List, [], Option, Some, None, Result, Ok, Err, refl, sym, ◌∙◌, subst, rules, IsTrue, IsSome, false≢true, IfSome, Shown, and_from, and_parts, leb, leb-true, list_all, slice_range, length, pieces_of, Fault, Refused, Memory, Read, Write, Seen, next_answer, judged, Paragraph, paragraphs_of, State, Fits, Moment, Advances, KeepsErrors, IsReadersFault, IsFaultOf, passed_count, read_failures_after, tells_end, FieldSpan, fields_at, lies_within, stands_within}
use Rattle.std.specs.Prelude.{◌↔◌}
use Rattle.deb_syntax.specs.Judged.{ShowsJudged, lines_standing}
use Rattle.deb_syntax.specs.Paragraphs.{advance_answer}
use Rattle.deb_syntax.specs.Passing.{AnswersPass, CanBeJudged, JudgesPassed, Passes, pass_answer}
use Rattle.deb_syntax.specs.Resuming.{HasPassed}
use Rattle.deb_syntax.specs.declared.paragraphs.CurrentParagraph.{CurrentParagraph}
use Rattle.deb_syntax.proofs.Advancing.{if_none, if_some, judged_fault, judged_is_readers, same_count}
use Rattle.deb_syntax.proofs.Faults.{readers_fault}
use Rattle.deb_syntax.proofs.FieldTests.{are_fields-judged, are_numbered-judged}
use Rattle.deb_syntax.proofs.JudgedLines.{judged_code, length_is_text, shows_found, shows_refused}
use Rattle.deb_syntax.proofs.Resuming.{gives_next, passed_any, passed_behind}
use Rattle.deb_syntax.proofs.SpansWithin.{within_test}

-- a call that fails keeps its error
pub pass_err : (before : Moment) (after other : State) (source : Shown) (e : Fault) → ((f : Fault) → before.state.fault ≡ Some f → ⊥) → Passes before (Err e) (record { state = after; source = source }) → other.fault ≡ Some e → other.current ≡ after.current → other.finished ≡ after.finished → KeepsErrors Passes before (Err e) (record { state = other; source = source })
pass_err before after other source e none a kept current finished = record {
  goes = if_none before.state.fault _ (record { answers = a.answers; taken = a.taken; counted = a.counted; fault = a.fault; current = current ∙ a.current; finished = finished ∙ a.finished; ended = a.ended; no_overlong = tt });
  keeps = if_none before.state.fault _ kept;
  repeats = if_some before.state.fault _ none;
}

-- where a paragraph has passed, that is the answer, and no end
pub some_passes : (text passed passed_now : List ℕ) (last : Option Paragraph) (new : State) (left : Option (List ℕ)) → paragraphs_of passed_now ≡ paragraphs_of passed → IsSome last → IfSome last (λ p. HasPassed text passed_now p new left) → AnswersPass text passed (Ok last) new left
some_passes text passed passed_now None new left same some h = absurd cc
some_passes text passed passed_now (Some p) new left same some h = passed_behind text passed passed_now p new left same h

pub some_goes_on : (last : Option Paragraph) → IsSome last → tells_end {A = Paragraph} (Ok last) ≡ false
some_goes_on None some = absurd cc
some_goes_on (Some p) some = refl

pub if_last : (last : Option Paragraph) (P : Type 0) → P → IfSome last (λ _. P)
if_last None P p = tt
if_last (Some s) P p = p

-- an error after blank lines that have passed is the error before them
pub fault_behind : (text passed passed_now : List ℕ) (fault : Fault) → paragraphs_of passed_now ≡ paragraphs_of passed → IsReadersFault fault (λ refusal. next_answer text (passed_count passed_now) ≡ Err refusal) → IsReadersFault fault (λ refusal. next_answer text (passed_count passed) ≡ Err refusal)
fault_behind text passed passed_now fault same is = readers_fault fault (λ refusal e. sym (same_count text passed passed_now same).0 ∙ e) is

-- the fields of a paragraph that was judged lie within the buffer
pub stands_judged : (buffer : List ℕ) (at : CurrentParagraph) (spans : List FieldSpan) → IsTrue (stands_within buffer [] (Some at)) → CanBeJudged (lines_standing buffer at) → judged at.first_line (pieces_of (slice_range buffer at.from at.to)) ≡ Ok (fields_at (slice_range buffer at.from at.to) spans) → IsTrue (list_all (lies_within (slice_range buffer at.from at.to)) spans) → IsTrue (stands_within buffer spans (Some at))
stands_judged buffer at spans stands can judges within =
    let part = slice_range buffer at.from at.to in
    let outer = and_parts (leb at.from at.to && leb at.to (length buffer) && true) _ stands in
    let inner = and_parts (leb at.from at.to && leb at.to (length buffer)) true outer.0 in
    let both = and_parts (leb at.from at.to) (leb at.to (length buffer)) inner.0 in
    within_test at.from at.to buffer part spans _ (leb-true at.from at.to both.0) (leb-true at.to (length buffer) both.1) refl within
    (and_from _ _ (are_fields-judged at.first_line part (fields_at part spans) can.not_blank can.short judges) (are_numbered-judged at.first_line part (fields_at part spans) can.first can.not_blank can.short judges))

-- no read has failed where lines were judged
no_read : (T : Type 0) (n : ℕ) (fault : Fault) (lines : List (List ℕ)) (first : ℕ) → IsFaultOf (judged first lines) fault → n ≡ read_failures_after {T = T} n (Err fault)
no_read T n (Refused refusal) lines first is = refl
no_read T n Memory lines first is = refl
no_read T n Read lines first is = absurd is
no_read T n Write lines first is = absurd is

-- where there is no further paragraph, and where there is an error
pub advances_none : (before after : Moment) → Passes before (Ok None) after → Advances before (Ok None) after
advances_none before after p = record { answers = p.answers; taken = p.taken; counted = p.counted; fault = tt; current = p.current; finished = p.finished; ended = λ _. refl; no_overlong = tt }

pub advances_err : (before after : Moment) (fault : Fault) → Passes before (Err fault) after → Advances before (Err fault) after
advances_err before after fault p = record {
  answers = p.answers;
  taken = p.taken;
  counted = p.counted;
  fault = length_is_text fault p.fault;
  current = p.current;
  finished = p.finished;
  ended = λ finished. let e = p.ended finished in absurd cc;
  no_overlong = tt;
}

-- a paragraph that has passed, and was judged
module _ (before mid : Moment) (last : Option Paragraph) (some : IsSome last) (can : IfSome last CanBeJudged) (passes : Passes before (Ok last) mid) (result : Result Bool Fault) (after : State) (judges : JudgesPassed mid.state last result after) where
  abbrev now : Moment
  now = record { state = after; source = mid.source }

  pub advances_judged : Advances before (advance_answer after result) now
  advances_judged = go last some can passes result judges
    where
      found : (p : Paragraph) → Passes before (Ok (Some p)) mid → (seen : Seen) → seen.first ≡ p.first → judged p.first p.lines ≡ Ok seen.fields → Advances before (Ok (Some seen)) (record { state = record mid.state { current = Some seen }; source = mid.source })
      found p passes seen first fields = record {
        answers = λ text passed fits. gives_next text passed seen p _ _ first fields (passed_any text passed p mid.state (Some seen) mid.state.fault _ (passes.answers text passed fits));
        taken = passes.taken;
        counted = passes.counted;
        fault = tt;
        current = refl;
        finished = passes.finished;
        ended = λ finished. let e = passes.ended finished in absurd cc;
        no_overlong = passes.no_overlong;
      }

      go : (last : Option Paragraph) → IsSome last → IfSome last CanBeJudged → Passes before (Ok last) mid → (result : Result Bool Fault) → JudgesPassed mid.state last result after → Advances before (advance_answer after result) now
      go None some can passes result judges = absurd cc
      go (Some p) some can passes (Ok true) (seen, is, first, fields, state) =
          subst (λ (s : State). Advances before (Ok s.current) (record { state = s; source = mid.source })) (sym state) (found p passes seen first fields)
      go (Some p) some can passes (Ok false) (seen, is, first, fields, state) = absurd cc
      go (Some p) some can passes (Err fault) (is, state) =
          subst (λ (s : State). Advances before (Err fault) (record { state = s; source = mid.source })) (sym state)
          (record {
            answers = λ text passed fits. judged_fault text passed p.first p.lines fault (passes.answers text passed fits).answer is;
            taken = passes.taken;
            counted = passes.counted ∙ no_read Seen _ fault p.lines p.first is;
            fault = judged_is_readers p.first p.lines fault can.first is;
            current = passes.current;
            finished = passes.finished;
            ended = λ finished. let e = passes.ended finished in absurd cc;
            no_overlong = tt;
          })

  module _ (text passed : List ℕ) (fits : Fits text passed before.state before.source.bytes) where
    pub passed_judged : IfSome last (λ p. HasPassed text passed p after mid.source.bytes)
    passed_judged = go last passes result judges
      where
        go : (last : Option Paragraph) → Passes before (Ok last) mid → (result : Result Bool Fault) → JudgesPassed mid.state last result after → IfSome last (λ p. HasPassed text passed p after mid.source.bytes)
        go None passes result judges = tt
        go (Some p) passes (Ok found) (seen, is, first, fields, state) =
            subst (λ (s : State). HasPassed text passed p s mid.source.bytes) (sym state) (passed_any text passed p mid.state (Some seen) mid.state.fault _ (passes.answers text passed fits))
        go (Some p) passes (Err fault) (is, state) = subst (λ (s : State). HasPassed text passed p s mid.source.bytes) (sym state) (passes.answers text passed fits)

    pub shows_judged : ShowsJudged text (passed_count passed) (advance_answer after result) last
    shows_judged = go last some can passes result judges
      where
        go : (last : Option Paragraph) → IsSome last → IfSome last CanBeJudged → Passes before (Ok last) mid → (result : Result Bool Fault) → JudgesPassed mid.state last result after → ShowsJudged text (passed_count passed) (advance_answer after result) last
        go None some can passes result judges = absurd cc
        go (Some p) some can passes (Ok true) (seen, is, first, fields, state) =
            let h = passes.answers text passed fits in
            subst (λ (s : State). ShowsJudged text (passed_count passed) (Ok s.current) (Some p)) (sym state)
            (shows_found text passed seen p mid.state mid.source.bytes (gives_next text passed seen p mid.state mid.source.bytes first fields h).answer h)
        go (Some p) some can passes (Ok false) (seen, is, first, fields, state) = absurd cc
        go (Some p) some can passes (Err fault) (is, state) =
            let h = passes.answers text passed fits in
            shows_refused text passed fault p mid.state mid.source.bytes (judged_fault text passed p.first p.lines fault h.answer is) (judged_code p.first p.lines fault is) h

-- what an answer says by whether there is a paragraph
pub some_found : (found : Bool) (last : Option Paragraph) → found ≡ true → IsTrue found ↔ IsSome last → IsSome last
some_found found last is iff = iff.0 is

pub none_found : (found : Bool) (last : Option Paragraph) → found ≡ false → IsTrue found ↔ IsSome last → last ≡ None
none_found found None is iff = refl
none_found found (Some p) is iff = absurd (false≢true (sym is ∙ iff.1 (search rules)))

pub passes_found : (found : Bool) (before : Moment) (last : Option Paragraph) (after : Moment) → found ≡ true → Passes before (pass_answer last (Ok found)) after → Passes before (Ok last) after
passes_found found before last after is passes = subst (λ f. Passes before (pass_answer last (Ok f)) after) is passes

pub passes_none : (found : Bool) (before : Moment) (last : Option Paragraph) (after : Moment) → found ≡ false → Passes before (pass_answer last (Ok found)) after → Passes before (Ok None) after
passes_none found before last after is passes = subst (λ f. Passes before (pass_answer last (Ok f)) after) is passes
