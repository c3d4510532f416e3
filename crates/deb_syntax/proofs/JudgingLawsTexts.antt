-- The parts of a field's first line and of its body.
use Rattle.deb_syntax.proofs.Common.{◌≡◌, ℕ, ◌+◌, ◌<◌, suc, true, false, not, ◌&&◌, ◌||◌, cond, eqb, leb, List, [], ◌∷◌, ◌++◌, length, take, drop, refl, sym, ap, ◌∙◌, subst, arith, or_right, and_right, and_parts, and_from, not-true, not_from_false, true≢false, nat_tests, take_at, drop_at, drop-drop, split_at_first, passes_at_first, AllByRecursion, list_all, before_first, after_first, position_or_len, Line, is_blank_byte, is_all_blank, is_blank, line_length, paragraph_limit, pieces_of, HasNoNewline, begins_with_blank, is_continuation, is_body_shape, colon, is_name_byte, may_begin_name, is_name, each_from_list_all, each_name_byte, later_pieces-append, IsTrimmed, Field, begins_armour, begins_comment, has_colon, begun}
use Rattle.std.proofs.Common.{eqb-true, append-nil}
use Rattle.deb_syntax.proofs.LinesLaws.{with_end, pieces_of-end}

-- a blank byte ends no line
blank_byte-no_newline : (b : ℕ) → is_blank_byte b ≡ true → eqb b 10 ≡ false
blank_byte-no_newline b h = grind (arith, nat_tests)

-- a byte of a name is neither blank nor the end of a line nor a colon
name_byte-not_blank : (b : ℕ) → is_name_byte b ≡ true → is_blank_byte b ≡ false
name_byte-not_blank b h = grind (arith, nat_tests)

name_byte-no_newline : (b : ℕ) → is_name_byte b ≡ true → eqb b 10 ≡ false
name_byte-no_newline b h = grind (arith, nat_tests)

name_byte-no_colon : (b : ℕ) → is_name_byte b ≡ true → eqb b 58 ≡ false
name_byte-no_colon b h = grind (arith, nat_tests)

all_blank-no_newline : (text : List ℕ) → is_all_blank text ≡ true → HasNoNewline text
all_blank-no_newline = each_from_list_all is_blank_byte (λ b. eqb b 10 ≡ false) blank_byte-no_newline

pub name-no_newline : (name : List ℕ) → is_name name ≡ true → HasNoNewline name
name-no_newline name h = each_from_list_all is_name_byte (λ b. eqb b 10 ≡ false) name_byte-no_newline name (each_name_byte name h)

-- the colon after a name is the first one
first_colon : (name more : List ℕ) → list_all is_name_byte name ≡ true → position_or_len (λ b. eqb b 58) (name ++ 58 ∷ more) ≡ length name
first_colon [] more h = refl
first_colon (b ∷ name) more h = let p = and_parts (is_name_byte b) (list_all is_name_byte name) h in rw (name_byte-no_colon b p.0, first_colon name more p.1) (omega arith)

pub begun-field : (n : ℕ) (name more : List ℕ) → is_name name ≡ true → begun n (name ++ colon ∷ more) ≡ record { name = name; line = n; body = more }
begun-field n name more h =
    let line : Line = name ++ colon ∷ more in
    let field : ℕ → Field = λ k. record { name = take k line; line = n; body = drop (k + 1) line } in
    let body : drop (length name + 1) line ≡ more = sym (drop-drop 1 (length name) line) ∙ ap (drop 1) (drop_at name (colon ∷ more) (length name) refl) in
    ap field (first_colon name more (each_name_byte name h)) ∙ (λ i. record { name = take_at name (colon ∷ more) (length name) refl i; line = n; body = body i })

-- where a colon is, the first one ends what is before it
some_colon : (line : Line) → has_colon line ≡ true → position_or_len (λ b. eqb b 58) line < length line
some_colon [] h = absurd (true≢false (sym h))
some_colon (b ∷ line) h =
    let rest = some_colon line in
    (elim (eqb b 58) as (λ t. (t || has_colon line) ≡ true → cond (not t) (1 + position_or_len (λ c. eqb c 58) line) 0 < suc (length line)) [
      | true ↦ λ _. omega arith
      | false ↦ λ k. let r = rest k in omega (arith, r)
    ]) h

pub split_at_colon : (line : Line) → has_colon line ≡ true → line ≡ before_first (λ b. eqb b 58) line ++ colon ∷ after_first (λ b. eqb b 58) line
split_at_colon line h =
    split_at_first (λ b. eqb b 58) line 0 (some_colon line h)
    ∙ ap (λ c. before_first (λ b. eqb b 58) line ++ c ∷ after_first (λ b. eqb b 58) line) (eqb-true _ _ (passes_at_first (λ b. eqb b 58) line 0 (some_colon line h)))

-- a line of a name and a colon begins a field
name_begins : (b : ℕ) (name : List ℕ) → is_name (b ∷ name) ≡ true → (is_name_byte b ≡ true) × (eqb b 35 ≡ false) × (eqb 45 b ≡ false)
name_begins b name h =
    let p = and_parts (may_begin_name b) (list_all is_name_byte (b ∷ name)) h in
    let q = and_parts (not (eqb b 35)) (not (eqb b 45)) p.0 in
    ((and_parts (is_name_byte b) (list_all is_name_byte name) p.1).0, not-true (eqb b 35) q.0, no_hyphen b (not-true (eqb b 45) q.1))
  where
    no_hyphen : (c : ℕ) → eqb c 45 ≡ false → eqb 45 c ≡ false
    no_hyphen c e = grind (arith, nat_tests)

pub begins_with_blank-field : (name more : List ℕ) → is_name name ≡ true → begins_with_blank (name ++ colon ∷ more) ≡ false
begins_with_blank-field [] more h = absurd (true≢false (sym h))
begins_with_blank-field (b ∷ name) more h = name_byte-not_blank b (name_begins b name h).0

pub begins_armour-field : (name more : List ℕ) → is_name name ≡ true → begins_armour (name ++ colon ∷ more) ≡ false
begins_armour-field [] more h = absurd (true≢false (sym h))
begins_armour-field (b ∷ name) more h = rw (name_begins b name h).2

pub begins_comment-field : (name more : List ℕ) → is_name name ≡ true → begins_comment (name ++ colon ∷ more) ≡ false
begins_comment-field [] more h = absurd (true≢false (sym h))
begins_comment-field (b ∷ name) more h = (name_begins b name h).1

pub has_colon-field : (name more : List ℕ) → has_colon (name ++ colon ∷ more) ≡ true
has_colon-field [] more = refl
has_colon-field (b ∷ name) more = or_right (eqb b 58) (has_colon (name ++ colon ∷ more)) (has_colon-field name more)

-- A line after a field's first, whose blanks aren't all of it.
abbrev pub IsMore : Line → Type 0
IsMore line = (begins_with_blank line ≡ true) × (is_all_blank line ≡ false)

all_blank-append : (a b : List ℕ) → is_all_blank b ≡ true → is_all_blank (a ++ b) ≡ is_all_blank a
all_blank-append [] b h = h
all_blank-append (c ∷ a) b h = ap (λ t. is_blank_byte c && t) (all_blank-append a b h)

-- cut at the end, a line that goes on with a field still does
more-cut : (line after : List ℕ) → is_all_blank after ≡ true → IsMore (line ++ after) → is_continuation line ≡ true
more-cut [] after h m = absurd (true≢false (sym h ∙ m.1))
more-cut (b ∷ line) after h m =
    let e : is_all_blank (b ∷ line) ≡ false = sym (all_blank-append (b ∷ line) after h) ∙ m.1 in
    and_from (is_blank_byte b) (not (is_blank (b ∷ line))) m.0 (not_from_false (is_blank (b ∷ line)) (and_right (leb (line_length (b ∷ line)) paragraph_limit) (is_all_blank (b ∷ line)) e))

all_more-cut : (lines : List Line) (after : List ℕ) → is_all_blank after ≡ true → AllByRecursion IsMore (with_end lines after) → list_all is_continuation lines ≡ true
all_more-cut [] after h m = refl
all_more-cut (line ∷ []) after h m = rw (more-cut line after h m.0)
all_more-cut (line ∷ next ∷ lines) after h m = rw (more-cut line [] refl (subst IsMore (sym (append-nil line)) m.0)) (all_more-cut (next ∷ lines) after h m.1)

-- the later pieces of a body among blanks
drop-with_end : (lines : List Line) (text : List ℕ) → drop 1 (with_end lines text) ≡ with_end (drop 1 lines) text
drop-with_end [] text = refl
drop-with_end (line ∷ []) text = refl
drop-with_end (line ∷ next ∷ lines) text = refl

later_pieces-between : (before body after : List ℕ) → is_all_blank before ≡ true → is_all_blank after ≡ true → drop 1 (pieces_of (before ++ (body ++ after))) ≡ with_end (drop 1 (pieces_of body)) after
later_pieces-between before body after hb ha =
    later_pieces-append before (body ++ after) (all_blank-no_newline before hb)
    ∙ ap (drop 1) (pieces_of-end body after (all_blank-no_newline after ha))
    ∙ drop-with_end (pieces_of body) after

-- what is cut from a field's text has the shape of a body
pub body_shape-cut : (text body : List ℕ) → IsTrimmed text body → AllByRecursion IsMore (drop 1 (pieces_of text)) → is_body_shape body ≡ true
body_shape-cut text body c all =
    let later : drop 1 (pieces_of text) ≡ with_end (drop 1 (pieces_of body)) c.after = ap (λ t. drop 1 (pieces_of t)) c.is ∙ later_pieces-between c.before body c.after c.before_blank c.after_blank in
    rw (c.begins, c.ends, all_more-cut (drop 1 (pieces_of body)) c.after c.after_blank (subst (AllByRecursion IsMore) later all)) refl

-- the lines after the first of a field begin with a blank
abbrev pub BeginsWithBlank : Line → Type 0
BeginsWithBlank line = begins_with_blank line ≡ true

begins_with_blank-append : (line after : List ℕ) → begins_with_blank line ≡ true → begins_with_blank (line ++ after) ≡ true
begins_with_blank-append [] after h = absurd (true≢false (sym h))
begins_with_blank-append (b ∷ line) after h = h

continuations-end : (lines : List Line) (after : List ℕ) → list_all is_continuation lines ≡ true → AllByRecursion BeginsWithBlank (with_end lines after)
continuations-end [] after h = tt
continuations-end (line ∷ []) after h = (begins_with_blank-append line after (and_parts (begins_with_blank line) (not (is_blank line)) (and_parts (is_continuation line) true h).0).0, tt)
continuations-end (line ∷ next ∷ lines) after h =
    let p = and_parts (is_continuation line) (list_all is_continuation (next ∷ lines)) h in
    ((and_parts (begins_with_blank line) (not (is_blank line)) p.0).0, continuations-end (next ∷ lines) after p.1)

pub later_pieces-body : (before body after : List ℕ) → is_all_blank before ≡ true → is_all_blank after ≡ true → is_body_shape body ≡ true → AllByRecursion BeginsWithBlank (drop 1 (pieces_of (before ++ (body ++ after))))
later_pieces-body before body after hb ha shape =
    subst (AllByRecursion BeginsWithBlank) (sym (later_pieces-between before body after hb ha))
    (continuations-end (drop 1 (pieces_of body)) after (and_parts _ (list_all is_continuation (drop 1 (pieces_of body))) shape).1)
