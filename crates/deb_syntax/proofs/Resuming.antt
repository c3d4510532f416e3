-- A paragraph whose lines were judged has passed, whether or not one of them is refused.
use Rattle.deb_syntax.proofs.Common.{Ok, GivesNext, ◌≡◌, ℕ, Bool, false, List, [], ◌∷◌, ◌++◌, Option, Some, None, sym, ap, ◌∙◌, subst, IfSome, option_map, Fault, Seen, seen_from, CursorState, judged, Paragraph, paragraphs_of, State, state_from, Fits}
use Rattle.deb_syntax.specs.Judged.{lines_standing}
use Rattle.deb_syntax.specs.Resuming.{HasPassed}
use Rattle.deb_syntax.specs.declared.paragraphs.CurrentParagraph.{CurrentParagraph}
use Rattle.deb_syntax.proofs.Advancing.{same_count}

-- said of what had passed before blank lines
pub passed_behind : (text passed passed_now : List ℕ) (p : Paragraph) (new : State) (left : Option (List ℕ)) → paragraphs_of passed_now ≡ paragraphs_of passed → HasPassed text passed_now p new left → HasPassed text passed p new left
passed_behind text passed passed_now p new left same h = record {
  more = h.more;
  next = h.next ∙ ap (λ ps. ps ++ p ∷ h.more) same;
  answer = sym (same_count text passed passed_now same).0 ∙ h.answer;
  some = h.some;
  short = h.short;
  front = h.front;
  fresh = h.fresh;
  ending = h.ending;
  closed = h.closed;
  before = h.before ∙ same;
  lines = h.lines;
  blank = h.blank;
  within = h.within;
  again = h.again;
  passes = h.passes ∙ ap (λ ps. ps ++ p ∷ []) same;
  ends = h.ends;
  near = h.near;
}

-- what has passed is that of a reader with another current paragraph and error too
pub passed_any : (text passed : List ℕ) (p : Paragraph) (new : State) (current : Option Seen) (fault : Option Fault) (left : Option (List ℕ)) → HasPassed text passed p new left → HasPassed text passed p (record new { current = current; fault = fault }) left
passed_any text passed p new current fault left h = record {
  more = h.more;
  next = h.next;
  answer = h.answer;
  some = h.some;
  short = h.short;
  front = h.front;
  fresh = h.fresh;
  ending = h.ending;
  closed = h.closed;
  before = h.before;
  lines = h.lines;
  blank = h.blank;
  within = h.within;
  again = fits h.again;
  passes = h.passes;
  ends = h.ends;
  near = h.near;
}
  where
    fits : {passed : List ℕ} → Fits text passed new left → Fits text passed (record new { current = current; fault = fault }) left
    fits f = record { overlong = f.overlong; rest = f.rest; told = f.told; whole = f.whole; bytes = f.bytes; lines = f.lines; overlong_bytes = f.overlong_bytes; overlong_line = f.overlong_line; closed = f.closed; ended = f.ended; finished = f.finished }

pub passed_any_fault : (text passed : List ℕ) (last : Option Paragraph) (new : State) (fault : Option Fault) (left : Option (List ℕ)) → IfSome last (λ p. HasPassed text passed p new left) → IfSome last (λ p. HasPassed text passed p (record new { fault = fault }) left)
passed_any_fault text passed None new fault left h = tt
passed_any_fault text passed (Some p) new fault left h = passed_any text passed p new new.current fault left h

-- said of a reader that drops no bytes and goes on
pub reader_passed : (text passed passed_now : List ℕ) (judged : Option CurrentParagraph) (buffer : List ℕ) (cursor : CursorState) (overlong_len : ℕ) (finished : Bool) (current : Option Seen) (fault : Option Fault) (left : Option (List ℕ)) → passed_now ≡ passed → overlong_len ≡ 0 → finished ≡ false → IfSome judged (λ at. HasPassed text passed_now (lines_standing buffer at) (state_from cursor 0 false None None) left) → IfSome (option_map (lines_standing buffer) judged) (λ p. HasPassed text passed p (state_from cursor overlong_len finished current fault) left)
reader_passed text passed passed_now None buffer cursor overlong_len finished current fault left same none going h = tt
reader_passed text passed passed_now (Some at) buffer cursor overlong_len finished current fault left same none going h =
    subst (λ t. HasPassed text t (lines_standing buffer at) (state_from cursor overlong_len finished current fault) left) same
    (subst (λ n. HasPassed text passed_now (lines_standing buffer at) (state_from cursor n finished current fault) left) (sym none)
    (subst (λ b. HasPassed text passed_now (lines_standing buffer at) (state_from cursor 0 b current fault) left) (sym going)
    (passed_any text passed_now (lines_standing buffer at) (state_from cursor 0 false None None) current fault left h)))

-- the answer where its lines were judged without a refusal
pub gives_next : (text passed : List ℕ) (seen : Seen) (p : Paragraph) (new : State) (left : Option (List ℕ)) → seen.first ≡ p.first → judged p.first p.lines ≡ Ok seen.fields → HasPassed text passed p new left → GivesNext text passed seen new left
gives_next text passed seen p new left first fields h = record {
  answer = h.answer ∙ ap (seen_from p.first) fields ∙ ap (λ n. Ok (Some (record { first = n; fields = seen.fields }))) (sym first);
  paragraph = p;
  more = h.more;
  next = h.next;
  first = first;
  fields = fields;
  short = h.short;
  passed_now = h.front ++ h.fresh;
  again = h.again;
  passes = h.passes;
  ends = h.ends;
  near = h.near;
}
