-- What a line that begins a field makes of the fields before it, from what a search for its colon says.
use Rattle.deb_syntax.proofs.Common.{false_from_ne_true, ◌≡◌, ℕ, zero, suc, ◌==◌, ◌+◌, ◌-◌, ◌<◌, ◌≤◌, Bool, true, false, not, cond, ◌&&◌, List, [], ◌∷◌, ◌++◌, length, map, take, drop, nat_lt, slice_index, slice_range, Some, None, Ok, Err, refl, sym, ap, ◌∙◌, arith, length-take, length-take-le, length-drop, take_rest, list_all, position_or_len, prefix_len, and_parts, and_from, eq-eqb, eqb-true, ltb-true, lt-ltb, true≢false, cond-true, cond-false, map_push, take-append-drop, drop_more, All-from_get_or, list_any_at, list_any_none, position_or_len_is, IsFirstByte, is_byte, BadFieldName, NoColon, DuplicateField, Line, Field, has_name, colon, is_name, is_name_byte, each_name_byte, begins_armour, begins_comment, has_colon, begun, is_named, field_line, begun_at, begun_fields, name_at, has_stood, known_row, row_of, FieldId, IsAtFront, NameAtFront, FieldSpan}
use Rattle.std.proofs.lemmas.List.{get_or-take, take-take}
use Rattle.deb_syntax.proofs.JudgingLaws.{field_line-name}
use Rattle.deb_syntax.proofs.FieldSpanLemmas.{LiesWithin, has_name-begun}
use Rattle.deb_syntax.proofs.Slices.{take-slice_range, drop-slice_range}

-- the bytes of a name end at the first that is none
prefix_len-at : (p : ℕ → Bool) (line : Line) (k : ℕ) → k < length line → list_all p (take k line) ≡ true → p (slice_index line k) ≡ false → prefix_len p line ≡ k
prefix_len-at p [] k h all other = absurd (omega arith)
prefix_len-at p (b ∷ bs) zero h all other = rw other refl
prefix_len-at p (b ∷ bs) (suc k) h all other =
    let parts = and_parts (p b) (list_all p (take k bs)) all in
    rw (parts.0, prefix_len-at p bs k (omega arith) parts.1 other) (omega arith)

-- where the line begins with no name and colon, what precedes the first colon is no name
pub not_named : (line : Line) (n k : ℕ) → n ≡ prefix_len is_name_byte line → is_named line n ≡ false → IsFirstByte (is_byte colon) line (Some k) → is_name (take k line) ≡ false
not_named line n k most not found =
    false_from_ne_true _ (λ name.
    let byte : slice_index line k ≡ colon = eqb-true _ _ found.1 in
    let same : prefix_len is_name_byte line ≡ k = prefix_len-at is_name_byte line k found.0.high (each_name_byte (take k line) name) (ap is_name_byte byte) in
    let named : is_named line k ≡ true = and_from _ _ (and_from _ _ (lt-ltb k (length line) found.0.high) found.1) name in
    true≢false (sym named ∙ ap (is_named line) (sym (most ∙ same)) ∙ not))

-- the search found no colon
has_colon-none : (line : Line) → IsFirstByte (is_byte colon) line None → has_colon line ≡ false
has_colon-none line h = list_any_none (is_byte colon) line (All-from_get_or (λ b. is_byte colon b ≡ false) line 0 (λ k lt. false_from_ne_true _ (h k (omega arith) lt)))

module _ (n : ℕ) (fields : List Field) (line : Line) where
  module _ (armour : begins_armour line ≡ false) where
    module _ (comment : begins_comment line ≡ false) where
      pub field_line-no_colon : IsFirstByte (is_byte colon) line None → field_line n fields line ≡ Err (record { code = NoColon; line = n })
      field_line-no_colon none =
          cond-false (begins_armour line) _ _ armour ∙ cond-false (begins_comment line) _ _ comment ∙ cond-true (not (has_colon line)) _ _ (ap not (has_colon-none line none))

      pub field_line-bad_name : (at : ℕ) → IsFirstByte (is_byte colon) line (Some at) → is_name (take at line) ≡ false → field_line n fields line ≡ Err (record { code = BadFieldName; line = n })
      field_line-bad_name at found bad =
          let here : position_or_len (is_byte colon) line ≡ at = position_or_len_is (is_byte colon) line at 0 (omega (arith, found.0.high)) (λ k lt. false_from_ne_true _ (found.0.before k (omega arith) lt)) (λ lt. found.1) in
          let has : has_colon line ≡ true = list_any_at (is_byte colon) line at 0 found.0.high found.1 in
          cond-false (begins_armour line) _ _ armour ∙ cond-false (begins_comment line) _ _ comment ∙ cond-false (not (has_colon line)) _ _ (ap not has)
          ∙ cond-true (not (is_name (begun n line).name)) _ _ (ap (λ i. not (is_name (take i line))) here ∙ ap not bad)

  pub field_line-found : (at : ℕ) → is_named line at ≡ true → field_line n fields line ≡ cond (has_name (take at line) fields) (Err (record { code = DuplicateField; line = n })) (Ok (fields ++ record { name = take at line; line = n; body = drop (at + 1) line } ∷ []))
  field_line-found at named =
      let parts = and_parts (nat_lt at (length line) && (slice_index line at == colon)) (is_name (take at line)) named in
      let front = and_parts (nat_lt at (length line)) (slice_index line at == colon) parts.0 in
      let split : line ≡ take at line ++ colon ∷ drop (at + 1) line = sym (take-append-drop at line) ∙ ap (λ zs. take at line ++ zs) (drop_more line at 0 (ltb-true _ _ front.0) ∙ ap (λ b. b ∷ drop (at + 1) line) (eqb-true _ _ front.1)) in
      ap (field_line n fields) split ∙ field_line-name n fields (take at line) (drop (at + 1) line) parts.1

-- a name at the start of a line
pub is_named-at_front : (line : Line) (front : NameAtFront) → IsAtFront line front → is_named line front.len ≡ true
is_named-at_front line front is = and_from _ _ (and_from _ _ (lt-ltb front.len (length line) is.within) (eq-eqb _ _ is.colon)) is.name

pub at_front-is_named : (line : Line) (len : ℕ) (id : FieldId) → is_named line len ≡ true → row_of id ≡ known_row (take len line) → IsAtFront line (record { id = id; len = len })
at_front-is_named line len id named is =
    let parts = and_parts (nat_lt len (length line) && (slice_index line len == colon)) (is_name (take len line)) named in
    let front = and_parts (nat_lt len (length line)) (slice_index line len == colon) parts.0 in
    record { within = ltb-true _ _ front.0; colon = eqb-true _ _ front.1; name = parts.1; id = is }

-- a name at the start of what begins with a line, if its colon is in the line
pub at_front-take : (line rest : Line) (front : NameAtFront) → line ≡ take (length line) rest → front.len < length line → IsAtFront rest front → IsAtFront line front
at_front-take line rest front begins within is =
    let name : take front.len line ≡ take front.len rest = ap (take front.len) begins ∙ take-take front.len (length line) rest (omega (arith, within)) in
    record {
      within = within;
      colon = ap (λ xs. slice_index xs front.len) begins ∙ get_or-take (length line) rest front.len 0 within ∙ is.colon;
      name = ap is_name name ∙ is.name;
      id = is.id ∙ ap known_row (sym name);
    }

-- the line from `start` to `end` begins what goes on from `start`
pub line_begins_rest : (text : List ℕ) (start end : ℕ) → start ≤ end → end ≤ length text → slice_range text start end ≡ take (length (slice_range text start end)) (slice_range text start (length text))
line_begins_rest text start end ordered within =
    let size : length (slice_range text start end) ≡ end - start = length-take-le (end - start) (drop start text) (omega (arith, within, length-drop start text)) in
    ap (take (end - start)) (sym (take_rest text start)) ∙ ap (λ n. take n (slice_range text start (length text))) (sym size)

-- the span of a field that the line from `start` to `end` begins, with its colon at `at`
module _ (text : List ℕ) (start end at : ℕ) (ordered : start ≤ end) (within : end ≤ length text) (inside : at < length (slice_range text start end)) where
  fits : start + at < end
  fits = omega (arith, inside, length-take (end - start) (drop start text), length-drop start text)

  pub name_at-begun : take at (slice_range text start end) ≡ slice_range text start (start + at)
  name_at-begun = take-slice_range text start end at (omega (arith, fits))

  pub LiesWithin-begun : (n : ℕ) (id : FieldId) → row_of id ≡ known_row (take at (slice_range text start end)) → LiesWithin text (record { line = n; start = start; colon = start + at; end = end; id = id })
  LiesWithin-begun n id is = record { named = omega arith; more = fits; inside = within; id = is ∙ ap known_row name_at-begun }

  begun_at-begun : (n : ℕ) (id : FieldId) → record { name = take at (slice_range text start end); line = n; body = drop (at + 1) (slice_range text start end) } ≡ begun_at text (record { line = n; start = start; colon = start + at; end = end; id = id })
  begun_at-begun n id =
      let e : start + (at + 1) ≡ start + at + 1 = omega arith in
      let body : drop (at + 1) (slice_range text start end) ≡ slice_range text (start + at + 1) end = drop-slice_range text start end (at + 1) ∙ ap (λ i. slice_range text i end) e in
      let field : List ℕ → List ℕ → Field = λ name rest. record { name = name; line = n; body = rest } in
      ap (λ name. field name (drop (at + 1) (slice_range text start end))) name_at-begun ∙ ap (field (slice_range text start (start + at))) body

  module _ (n : ℕ) (spans : List FieldSpan)
      (judges : field_line n (begun_fields text spans) (slice_range text start end) ≡ cond (has_name (take at (slice_range text start end)) (begun_fields text spans)) (Err (record { code = DuplicateField; line = n })) (Ok (begun_fields text spans ++ record { name = take at (slice_range text start end); line = n; body = drop (at + 1) (slice_range text start end) } ∷ []))) where
    pub field_line-stood : has_stood (take at (slice_range text start end)) (map (name_at text) spans) ≡ true → field_line n (begun_fields text spans) (slice_range text start end) ≡ Err (record { code = DuplicateField; line = n })
    field_line-stood stood = judges ∙ cond-true (has_name (take at (slice_range text start end)) (begun_fields text spans)) _ _ (has_name-begun text _ spans ∙ stood)

    pub field_line-new : (id : FieldId) → has_stood (take at (slice_range text start end)) (map (name_at text) spans) ≡ false → field_line n (begun_fields text spans) (slice_range text start end) ≡ Ok (begun_fields text (spans ++ record { line = n; start = start; colon = start + at; end = end; id = id } ∷ []))
    field_line-new id new =
        judges
        ∙ cond-false (has_name (take at (slice_range text start end)) (begun_fields text spans)) _ _ (has_name-begun text _ spans ∙ new)
        ∙ ap (λ f. Ok (begun_fields text spans ++ f ∷ [])) (begun_at-begun n id)
        ∙ ap Ok (sym (map_push (begun_at text) spans (record { line = n; start = start; colon = start + at; end = end; id = id })))

pub ruleset naming = (field_line-found, is_named-at_front, at_front-is_named, at_front-take, line_begins_rest, not_named, field_line-no_colon, field_line-bad_name)

pub ruleset beginning = (field_line-stood, field_line-new)
