-- What was written of a file while its paragraphs passed one after another, and where that ends.
use Rattle.std.proofs.Common.{◌≡◌, ℕ, ◌+◌, ◌⊎◌, inl, inr, Bool, true, false, List, [], ◌∷◌, ◌++◌, length, Option, None, Some, IfNone, IsTrue, IsSome, ◌↔◌, option_map, Ok, Err, refl, sym, ap, ◌∙◌, subst, append-nil, append_assoc, arith, rules}
use Rattle.std.proofs.lemmas.Bool.{false≢true}
use Rattle.std.specs.Io.KnownBytes.{Appends}
use Rattle.std.proofs.KnownBytes.{Appends-nil, Appends-trans}
use Rattle.deb_base.specs.Bodies.{Line, file_limit}
use Rattle.deb_base.specs.Devices.{AppendsFront, read_failures_after}
use Rattle.deb_base.specs.Faults.{IsReadersFault}
use Rattle.deb_base.specs.Reading.{TakesNoMore}
use Rattle.deb_base.proofs.Writes.{AppendsFront-then, AppendsFront-more}
use Rattle.deb_base.specs.declared.fault.Fault.{Fault}
use Rattle.deb_base.specs.declared.fault.Fault.TheVariants.{Refused, Memory, Read, Write}
use Rattle.deb_syntax.specs.Answers.{next_answer}
use Rattle.deb_syntax.specs.Lines.{IsClosed, Paragraph, lines_of, paragraphs_from, paragraphs_of}
use Rattle.deb_syntax.specs.Passing.{AnswersPass, Passes, pass_answer}
use Rattle.deb_syntax.specs.Reading.{Fits, KeepsErrors, Moment, State, passed_count}
use Rattle.deb_syntax.specs.Resuming.{HasPassed}
use Rattle.deb_syntax.proofs.Boundaries.{lines_of-append}
use Rattle.deb_syntax.proofs.Callers.{sound-from_passes}
use Rattle.deb_syntax.proofs.NextParagraph.{paragraphs_from-append}
use Rattle.deb_control.specs.Calls.{IfCutOff, IfRefused, IfWriteFailed}
use Rattle.deb_latest.specs.Writes.{HasWritten, PutsParagraph, WritesFile, WritesRead, WritesRefused}
use Rattle.deb_latest.specs.Written.{text_after}
use Rattle.deb_latest.specs.declared.winners.Winners.{Winners}
use Rattle.deb_latest.proofs.WrittenTexts.{text_after-append}

-- the paragraphs of a prefix that is closed are the first ones
pub first_paragraphs : (read rest : List ℕ) → IsClosed read ⊎ (rest ≡ []) → (more : List Paragraph) × (paragraphs_of (read ++ rest) ≡ paragraphs_of read ++ more)
first_paragraphs read rest (inl closed) = (
  paragraphs_from (1 + length (lines_of read)) (lines_of rest),
  ap (paragraphs_from 1) (lines_of-append read rest closed.0) ∙ paragraphs_from-append 1 (lines_of read) (lines_of rest) closed.1,
)
first_paragraphs read rest (inr none) = ([], ap (λ l. paragraphs_of (read ++ l)) none ∙ ap paragraphs_of (append-nil read) ∙ sym (append-nil (paragraphs_of read)))

first_passed : (text passed : List ℕ) (state : State) (left : Option (List ℕ)) → Fits text passed state left → (more : List Paragraph) × (paragraphs_of text ≡ paragraphs_of passed ++ more)
first_passed text passed state left fits =
    let first = first_paragraphs passed (fits.overlong ++ (state.unread ++ fits.rest)) fits.closed in
    (first.0, ap paragraphs_of fits.whole ∙ first.1)

-- Of the text this has passed, and what is chosen of it was written.
pub record PassedOn (text : List ℕ) (old new : Winners) (held held_now : Option (List ℕ))
    (state : State) (left : Option (List ℕ)) : Type 0 where
  pub passed : List ℕ
  pub fits : Fits text passed state left
  pub taken : TakesNoMore text file_limit left
  pub wrote : (numbers : List ℕ) (count : ℕ) (before : List Paragraph) → HasWritten numbers count before old
      → HasWritten numbers count (before ++ paragraphs_of passed) new × Appends held held_now (text_after numbers before (paragraphs_of passed))

pub none_passed : (text : List ℕ) (winners : Winners) (held : Option (List ℕ)) (state : State) (left : Option (List ℕ)) → ((text : List ℕ) → Fits text [] state (Some text)) → left ≡ Some text → PassedOn text winners winners held held state left
none_passed text winners held state left fits told = record {
  passed = [];
  fits = subst (Fits text [] state) (sym told) (fits text);
  taken = record { rest = text; told = told; few = omega arith };
  wrote = λ numbers count before has. (subst (λ ps. HasWritten numbers count ps winners) (sym (append-nil before)) has, Appends-nil held);
}

-- which lines were judged, where these are shown or none are
pub lines_shown : (lines : List Line) (last : Option Paragraph) → Some lines ≡ option_map (λ p. p.lines) last → (p : Paragraph) × (last ≡ Some p) × (lines ≡ p.lines)
lines_shown lines None is = absurd (cc)
lines_shown lines (Some p) is = (p, refl, cc)

pub none_shown : (last : Option Paragraph) → None ≡ option_map (λ p. p.lines) last → last ≡ None
none_shown None is = refl
none_shown (Some p) is = absurd (cc)

-- a clause for a reader without an error
pub unfailed : {P : Type 0} (fault : Option Fault) → fault ≡ None → IfNone fault P → P
unfailed {P} fault sound clause = subst (λ f. IfNone f P) sound clause

-- where none has passed without an error, no paragraph follows
pub all_passed : (text passed : List ℕ) (found : Bool) (new : State) (left : Option (List ℕ)) (last : Option Paragraph) → AnswersPass text passed (pass_answer last (Ok found)) new left → last ≡ None → paragraphs_of text ≡ paragraphs_of passed
all_passed text passed false new left last answers none = answers.passes
all_passed text passed true new left None answers none = answers.passes
all_passed text passed true new left (Some p) answers none = absurd cc

-- one that has passed, if there is one
pub one_answered : (text passed : List ℕ) (found : Bool) (new : State) (left : Option (List ℕ)) (last : Option Paragraph) → IsTrue found ↔ IsSome last → (p : Paragraph) → last ≡ Some p → AnswersPass text passed (pass_answer last (Ok found)) new left → HasPassed text passed p new left
one_answered text passed found new left None iff p is answers = absurd cc
one_answered text passed true new left (Some q) iff p is answers = let same : q ≡ p = cc in subst (λ r. HasPassed text passed r new left) same answers
one_answered text passed false new left (Some q) iff p is answers = absurd (false≢true (iff.1 (search rules)))

-- without an error none is kept, and no read failed
pub sound_after : (found : Bool) (last : Option Paragraph) (before after : Moment) → before.state.fault ≡ None → KeepsErrors Passes before (pass_answer last (Ok found)) after → after.state.fault ≡ None
sound_after true last before after sound passes = sound-from_passes Passes before after last sound passes
sound_after false last before after sound passes = sound-from_passes Passes before after None sound passes

pub counted_after : (found : Bool) (last : Option Paragraph) (n m : ℕ) → n ≡ read_failures_after m (pass_answer last (Ok found)) → n ≡ m
counted_after true last n m counted = counted
counted_after false last n m counted = counted

module _ {text : List ℕ} {old now : Winners} {held held_now : Option (List ℕ)} {state : State} {left : Option (List ℕ)} (so_far : PassedOn text old now held held_now state left) where
  -- one more paragraph
  pub one_passed : (new : Winners) (held_new : Option (List ℕ)) (next : State) (left_next : Option (List ℕ)) (p : Paragraph) → HasPassed text so_far.passed p next left_next → TakesNoMore text file_limit left_next
      → ((numbers : List ℕ) (count : ℕ) (before : List Paragraph) → HasWritten numbers count before now → PutsParagraph numbers count before p (Ok tt) new held_now held_new)
      → PassedOn text old new held held_new next left_next
  one_passed new held_new next left_next p passes taken puts = record {
    passed = passes.front ++ passes.fresh;
    fits = passes.again;
    taken = taken;
    wrote = λ numbers count before has.
        let was = so_far.wrote numbers count before has in
        let put = puts numbers count (before ++ paragraphs_of so_far.passed) was.0 in (
          subst (λ ps. HasWritten numbers count ps new) (append_assoc before (paragraphs_of so_far.passed) (p ∷ []) ∙ ap (λ ps. before ++ ps) (sym passes.passes)) put.0,
          subst (Appends held held_new) (sym (text_after-append numbers before (paragraphs_of so_far.passed) (p ∷ [])) ∙ ap (text_after numbers before) (sym passes.passes)) (Appends-trans held held_now held_new _ _ was.1 put.1),
        );
  }

  -- all of them
  pub writes_file : paragraphs_of text ≡ paragraphs_of so_far.passed → (numbers : List ℕ) (count : ℕ) (before : List Paragraph) → HasWritten numbers count before old → WritesFile numbers count before text now held held_now
  writes_file all numbers count before has =
      let was = so_far.wrote numbers count before has in record {
        has = subst (λ ps. HasWritten numbers count (before ++ ps) now) (sym all) was.0;
        written = subst (λ ps. Appends held held_now (text_after numbers before ps)) (sym all) was.1;
      }

  -- another fault: what has passed is a prefix
  pub writes_read : (numbers : List ℕ) (count : ℕ) (before : List Paragraph) → HasWritten numbers count before old → WritesRead numbers before text held held_now
  writes_read numbers count before has = record {
    read = so_far.passed;
    rest = so_far.fits.overlong ++ (state.unread ++ so_far.fits.rest);
    whole = so_far.fits.whole;
    closed = so_far.fits.closed;
    written = (so_far.wrote numbers count before has).1;
  }

  -- a refusal of what follows
  pub writes_refused : (T : Type 0) (fault : Fault) → IsReadersFault fault (λ refusal. next_answer text (passed_count so_far.passed) ≡ Err refusal) → (numbers : List ℕ) (count : ℕ) (before : List Paragraph) → HasWritten numbers count before old
      → IfRefused {T = T} (Err fault) (λ refusal. WritesRefused numbers before text refusal held held_now)
  unfolding writes_read
  writes_refused T (Refused refusal) is numbers count before has = record { reads = writes_read numbers count before has; refused = is }
  writes_refused T Memory is numbers count before has = tt
  writes_refused T Read is numbers count before has = tt
  writes_refused T Write is numbers count before has = tt

  -- a fault while the next paragraph is written
  module _ (numbers : List ℕ) (count : ℕ) (before : List Paragraph) (has : HasWritten numbers count before old) (new : Winners) (held_new : Option (List ℕ)) (p : Paragraph) where
    abbrev Puts : Fault → Type 0
    Puts fault = PutsParagraph numbers count (before ++ paragraphs_of so_far.passed) p (Err fault) new held_now held_new

    pub cut_then : (T : Type 0) (fault : Fault) → Puts fault → IfCutOff {T = T} (Err fault) (WritesRead numbers before text held held_new)
    cut_then T (Refused refusal) puts = tt
    cut_then T Memory puts = subst (λ h. WritesRead numbers before text held h) puts (writes_read numbers count before has)
    cut_then T Read puts = absurd puts
    cut_then T Write puts = tt

    pub failed_then : (T : Type 0) (fault : Fault) (next : State) (left_next : Option (List ℕ)) → HasPassed text so_far.passed p next left_next → Puts fault
        → IfWriteFailed {T = T} (Err fault) (AppendsFront held held_new (text_after numbers before (paragraphs_of text)))
    failed_then T (Refused refusal) next left_next passes puts = tt
    failed_then T Memory next left_next passes puts = tt
    failed_then T Read next left_next passes puts = tt
    failed_then T Write next left_next passes puts =
        let first = first_passed text (passes.front ++ passes.fresh) next left_next passes.again in
        let was = so_far.wrote numbers count before has in
        let both = AppendsFront-then held held_now held_new _ _ was.1 puts in
        let upto : text_after numbers before (paragraphs_of so_far.passed) ++ text_after numbers (before ++ paragraphs_of so_far.passed) (p ∷ []) ≡ text_after numbers before (paragraphs_of (passes.front ++ passes.fresh)) =
        sym (text_after-append numbers before (paragraphs_of so_far.passed) (p ∷ [])) ∙ ap (text_after numbers before) (sym passes.passes) in
        subst (AppendsFront held held_new) (sym (ap (text_after numbers before) first.1 ∙ text_after-append numbers before (paragraphs_of (passes.front ++ passes.fresh)) first.0))
        (AppendsFront-more held held_new (text_after numbers before (paragraphs_of (passes.front ++ passes.fresh))) _ (subst (AppendsFront held held_new) upto both))
