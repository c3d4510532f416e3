-- What is found of the first line that isn't blank, said of a text that fits.
use Rattle.deb_syntax.proofs.Common.{◌≡◌, ℕ, ◌+◌, ◌-◌, ◌<◌, ◌≤◌, ◌⊎◌, inl, inr, Bool, true, false, List, [], ◌∷◌, ◌++◌, Option, Some, Ok, Err, length, take, drop, refl, sym, ap, ◌∙◌, subst, append_assoc, append-nil, take-append-drop, length-take-le, drop-length, arith, length-append, IsTrue, false≢true, get_or, Line, newline, HasNoNewline, is_blank, ParagraphTooLong, Fault, At, EndsOverlong, HidesLong, KeepsLine, KeepsLines, Skips, CursorState, passed_of, left_begin, part_within, lines_of, ends_line, paragraphs_of, passed_count, next_answer, Seen, Fits, BeginsHere, GivesNone, state_from, AreBlank, AreNotBlank}
use Rattle.deb_base.specs.Bodies.{paragraph_limit, file_limit}
use Rattle.deb_syntax.proofs.Advancing.{long_not_blank, same_count}
use Rattle.deb_syntax.proofs.Boundaries.{ends_line-append}
use Rattle.deb_syntax.proofs.KeptLines.{ended_lines, not_empty, visible_lines}
use Rattle.deb_syntax.proofs.LeftAnswers.{left-begins, left-long, left-none}
use Rattle.deb_syntax.proofs.LinesLaws.{pieces_of-some}
use Rattle.deb_syntax.proofs.Passing.{IsCut}
use Rattle.deb_syntax.proofs.Positions.{answer_ahead, at_cut, begin_ahead, cut_fits, fits_cut}

-- nothing is left after blank lines
pub none_left : (text passed passed_now dropped rest : List ℕ) (cursor : CursorState) (overlong_len : ℕ) (current : Option Seen) (fault : Option Fault) (left : Option (List ℕ)) → IsCut text passed_now (dropped ++ (cursor.unread ++ rest)) cursor.bytes cursor.lines → dropped ++ (cursor.unread ++ rest) ≡ [] → paragraphs_of passed_now ≡ paragraphs_of passed → cursor.bytes ≤ file_limit → left ≡ Some rest → length dropped ≡ overlong_len → HasNoNewline dropped → (IsTrue cursor.ended → rest ≡ []) → GivesNone text passed (state_from cursor overlong_len true current fault) left
none_left text passed passed_now dropped rest cursor overlong_len current fault left cut none same small told len line ended =
    let all : text ≡ passed_now = cut.whole ∙ ap (λ zs. passed_now ++ zs) none ∙ append-nil passed_now in
    let here = left-none (cursor.lines + 1) (file_limit - cursor.bytes) (dropped ++ (cursor.unread ++ rest)) (subst (λ zs. AreBlank (lines_of zs)) (sym none) tt) (omega (arith, ap length none)) in
    let count = same_count text passed passed_now same in
    record {
      answer = sym count.0 ∙ answer_ahead text passed_now _ cursor.bytes cursor.lines cut small ∙ here.0;
      begin = sym count.1 ∙ begin_ahead text passed_now _ cursor.bytes cursor.lines cut small ∙ here.1;
      again = cut_fits text text cursor overlong_len true current fault left dropped rest (subst (λ p. IsCut text p (dropped ++ (cursor.unread ++ rest)) cursor.bytes cursor.lines) (sym all) cut) told ended len line (λ f. none);
      passes = ap paragraphs_of all ∙ same;
      finished = refl;
    }

-- what a reader that has answered that no paragraph follows goes on answering
pub stays_none : (text passed : List ℕ) (cursor : CursorState) (overlong_len : ℕ) (current current_after : Option Seen) (fault : Option Fault) (left : Option (List ℕ)) → Fits text passed (state_from cursor overlong_len true current fault) left → cursor.bytes ≤ file_limit → GivesNone text passed (state_from cursor overlong_len true current_after fault) left
stays_none text passed cursor overlong_len current current_after fault left fits small =
    none_left text passed passed fits.overlong fits.rest cursor overlong_len current_after fault left (fits_cut text passed cursor overlong_len true current fault left fits) (fits.finished refl) refl small fits.told fits.overlong_bytes fits.overlong_line fits.ended

-- kept lines begin a paragraph
kept_begin : (text : List ℕ) (cursor : CursorState) (left : Option (List ℕ)) (end kept : ℕ) → KeepsLines end kept cursor → (a : At text [] cursor left) → left_begin (cursor.lines + 1) (file_limit - cursor.bytes) (cursor.unread ++ a.rest) ≡ Ok (Some (cursor.lines + 1))
kept_begin text cursor left end kept k a =
    let front = take kept cursor.unread in
    let more = drop kept cursor.unread ++ a.rest in
    let some = pieces_of-some (take end cursor.unread) in
    let lines : lines_of front ≡ some.0 ∷ some.1 = sym k.pieces ∙ some.2 in
    let ends : (ends_line front ≡ true) ⊎ (more ≡ []) = elim k.closed [ inl e ↦ inl e | inr all ↦ inr (ap (λ zs. drop kept cursor.unread ++ zs) (a.ended all.0) ∙ append-nil (drop kept cursor.unread) ∙ ap (λ n. drop n cursor.unread) all.1 ∙ drop-length cursor.unread) ] in
    let seen = visible_lines (file_limit - cursor.bytes) front more ends (omega (arith, length-take-le kept cursor.unread k.within, k.room)) in
    let is : cursor.unread ++ a.rest ≡ front ++ more = ap (λ zs. zs ++ a.rest) (sym (take-append-drop kept cursor.unread)) ∙ append_assoc front (drop kept cursor.unread) a.rest in
    left-begins (cursor.lines + 1) (file_limit - cursor.bytes) (cursor.unread ++ a.rest) some.0 (some.1 ++ seen.0) (ap (λ t. lines_of (part_within (file_limit - cursor.bytes) t)) is ∙ seen.1 ∙ ap (λ ls. ls ++ seen.0) lines) (subst AreNotBlank lines k.not_blank).0

pub begins_kept : (text passed : List ℕ) (before cursor : CursorState) (left : Option (List ℕ)) (end kept overlong_len : ℕ) (finished : Bool) (current : Option Seen) (fault : Option Fault) → passed_of text before ≡ passed → Skips text before [] cursor left → KeepsLine end kept cursor → overlong_len ≡ 0 → finished ≡ false → cursor.bytes ≤ file_limit → BeginsHere text passed (state_from cursor overlong_len finished current fault) left
begins_kept text passed before cursor left end kept overlong_len finished current fault passed_is (a, same) k none unfinished small =
    let passes : paragraphs_of (passed_of text cursor) ≡ paragraphs_of passed = same ∙ ap paragraphs_of passed_is in
    let cut = at_cut text [] cursor left a in
    record {
      passed_now = passed_of text cursor;
      again = cut_fits text (passed_of text cursor) cursor overlong_len finished current fault left [] a.rest cut a.told a.ended (sym none) tt (λ f. absurd (false≢true (sym unfinished ∙ f)));
      passes = passes;
      begin = sym (same_count text passed (passed_of text cursor) passes).1 ∙ begin_ahead text (passed_of text cursor) _ cursor.bytes cursor.lines cut small ∙ kept_begin text cursor left end kept k.lines a;
    }

-- a discarded line
module _ (text passed : List ℕ) (cursor : CursorState) (overlong_len : ℕ) (finished : Bool) (current : Option Seen) (fault : Option Fault) (left : Option (List ℕ)) (fits : Fits text passed (state_from cursor overlong_len finished current fault) left) (some : 0 < overlong_len) (test : HidesLong overlong_len cursor) (small : cursor.bytes ≤ file_limit) where
  abbrev room : ℕ
  room = file_limit - cursor.bytes

  abbrev line : List ℕ
  line = fits.overlong

  line_long : paragraph_limit ≤ length line
  line_long = omega (arith, (test some).0, fits.overlong_bytes)

  not_blank : is_blank line ≡ false
  not_blank = long_not_blank line line_long

  seen_first : (others : List Line) × (lines_of (part_within room (line ++ (cursor.unread ++ fits.rest))) ≡ line ∷ others)
  seen_first = go cursor.unread refl (test some).1
    where
      go : (unread : List ℕ) → cursor.unread ≡ unread → EndsOverlong overlong_len cursor → (others : List Line) × (lines_of (part_within room (line ++ (cursor.unread ++ fits.rest))) ≡ line ∷ others)
      go [] is (within, ended, next) =
          let none : cursor.unread ++ fits.rest ≡ [] = ap (λ zs. zs ++ fits.rest) is ∙ fits.ended (ended (ap length is)) in
          let seen = visible_lines room line (cursor.unread ++ fits.rest) (inr none) (omega (arith, within, fits.overlong_bytes)) in
          (seen.0, seen.1 ∙ ap (λ ls. ls ++ seen.0) (ap lines_of (sym (append-nil line)) ∙ ended_lines line [] [] true fits.overlong_line (inr (refl, refl, refl, not_empty line not_blank))))
      go (b ∷ more) is (within, ended, next) =
          let n = next (omega (arith, ap length is)) in
          let first : b ≡ newline = ap (λ zs. get_or zs 0 newline) (sym is) ∙ n.0 in
          let whole : line ++ (cursor.unread ++ fits.rest) ≡ (line ++ newline ∷ []) ++ (more ++ fits.rest) = ap (λ zs. line ++ (zs ++ fits.rest)) (is ∙ ap (λ c. c ∷ more) first) ∙ sym (append_assoc line (newline ∷ []) (more ++ fits.rest)) in
          let seen = visible_lines room (line ++ newline ∷ []) (more ++ fits.rest) (inl (ends_line-append [] line)) (omega (arith, n.1, fits.overlong_bytes, length-append line (newline ∷ []))) in
          (seen.0, ap (λ t. lines_of (part_within room t)) whole ∙ seen.1 ∙ ap (λ ls. ls ++ seen.0) (ended_lines line (newline ∷ []) [] true fits.overlong_line (inl refl)))

  cut : IsCut text passed (line ++ (cursor.unread ++ fits.rest)) cursor.bytes cursor.lines
  cut = fits_cut text passed cursor overlong_len finished current fault left fits

  -- it begins a paragraph
  pub overlong_begins : (current_after : Option Seen) (fault_after : Option Fault) → BeginsHere text passed (state_from cursor overlong_len finished current_after fault_after) left
  overlong_begins current_after fault_after = record {
    passed_now = passed;
    again = cut_fits text passed cursor overlong_len finished current_after fault_after left line fits.rest cut fits.told fits.ended fits.overlong_bytes fits.overlong_line fits.finished;
    passes = refl;
    begin = begin_ahead text passed _ cursor.bytes cursor.lines cut small ∙ left-begins (cursor.lines + 1) room _ line seen_first.0 seen_first.1 not_blank;
  }

  -- and is refused
  pub overlong_answer : next_answer text (passed_count passed) ≡ Err (record { code = ParagraphTooLong; line = cursor.lines + 1 })
  overlong_answer =
      let one : cursor.lines + 1 + length {A = Line} [] ≡ cursor.lines + 1 = omega arith in
      answer_ahead text passed _ cursor.bytes cursor.lines cut small ∙ left-long (cursor.lines + 1) room _ [] line seen_first.0 seen_first.1 tt not_blank (omega arith) (omega (arith, line_long)) ∙ ap (λ n. Err (record { code = ParagraphTooLong; line = n })) one

-- a line that was found too long just now
pub begins_overlong : (text passed dropped : List ℕ) (before cursor : CursorState) (left : Option (List ℕ)) (overlong_len : ℕ) (finished : Bool) (current : Option Seen) (fault : Option Fault) → passed_of text before ≡ passed → Skips text before dropped cursor left → length dropped ≡ overlong_len → HasNoNewline dropped → finished ≡ false → 0 < overlong_len → HidesLong overlong_len cursor → cursor.bytes ≤ file_limit → BeginsHere text passed (state_from cursor overlong_len finished current fault) left
begins_overlong text passed dropped before cursor left overlong_len finished current fault passed_is (a, same) len no_newline unfinished some test small =
    let passes : paragraphs_of (passed_of text cursor) ≡ paragraphs_of passed = same ∙ ap paragraphs_of passed_is in
    let fits = cut_fits text (passed_of text cursor) cursor overlong_len finished current fault left dropped a.rest (at_cut text dropped cursor left a) a.told a.ended len no_newline (λ f. absurd (false≢true (sym unfinished ∙ f))) in
    let b = overlong_begins text (passed_of text cursor) cursor overlong_len finished current fault left fits some test small current fault in
    record { passed_now = b.passed_now; again = b.again; passes = b.passes ∙ passes; begin = sym (same_count text passed (passed_of text cursor) passes).1 ∙ b.begin }

-- a line that is discarded is refused, said of what had passed before
pub dropped_answer : (text passed : List ℕ) (cursor : CursorState) (overlong_len : ℕ) (finished : Bool) (current : Option Seen) (fault : Option Fault) (left : Option (List ℕ)) (n : ℕ) → BeginsHere text passed (state_from cursor overlong_len finished current fault) left → 0 < overlong_len → HidesLong overlong_len cursor → cursor.bytes ≤ file_limit → n ≡ cursor.lines + 1 → next_answer text (passed_count passed) ≡ Err (record { code = ParagraphTooLong; line = n })
dropped_answer text passed cursor overlong_len finished current fault left n b some test small is =
    sym (same_count text passed b.passed_now b.passes).0 ∙ overlong_answer text b.passed_now cursor overlong_len finished current fault left b.again some test small ∙ ap (λ m. Err (record { code = ParagraphTooLong; line = m })) (sym is)
