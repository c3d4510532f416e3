-- Places of fields: the last one goes on to a line's end, or a further one begins at a line.
use Rattle.deb_syntax.proofs.Common.{◌≡◌, ℕ, ◌+◌, ◌-◌, ◌<◌, ◌≤◌, ◌==◌, Bool, true, ◌&&◌, List, [], ◌∷◌, ◌++◌, length, map, set, take, nat_le, nat_lt, slice_index, slice_index_or, slice_range, refl, sym, ap, subst, ◌∙◌, arith, Ok, list_all, bytes_eq, eq-eqb, known_row, row_of, eqb-true, and_parts, and_from, leb-true, ltb-true, le-leb, lt-ltb, map_push, take_all, take_more, take_more_set, length-set, list_all-append, folded, newline, has_name, continuation_line, with_text, name_at, begun_at, begun_fields, lies_within, LastGoesOn, ends_before, has_stood, Keeps, StandsAt, FieldSpan, Names}
use Rattle.deb_syntax.proofs.JudgingLaws.{continuation_line-push}
use Rattle.deb_syntax.proofs.NameIds.{Keeps-longer}
use Rattle.deb_syntax.proofs.Slices.{slice_range-join, list_any-map}

-- the parts of `lies_within`
pub record LiesWithin (text : List ℕ) (span : FieldSpan) : Type 0 where
  pub named : span.start ≤ span.colon
  pub more : span.colon < span.end
  pub inside : span.end ≤ length text
  pub id : row_of span.id ≡ known_row (name_at text span)

pub LiesWithin-from_test : (text : List ℕ) (span : FieldSpan) → lies_within text span ≡ true → LiesWithin text span
LiesWithin-from_test text span h =
    let whole = and_parts (nat_le span.start span.colon && nat_lt span.colon span.end && nat_le span.end (length text)) (row_of span.id == known_row (name_at text span)) h in
    let outer = and_parts (nat_le span.start span.colon && nat_lt span.colon span.end) (nat_le span.end (length text)) whole.0 in
    let inner = and_parts (nat_le span.start span.colon) (nat_lt span.colon span.end) outer.0 in
    record {
      named = leb-true span.start span.colon inner.0;
      more = ltb-true span.colon span.end inner.1;
      inside = leb-true span.end (length text) outer.1;
      id = eqb-true _ _ whole.1;
    }

pub lies_within-from : (text : List ℕ) (span : FieldSpan) → LiesWithin text span → lies_within text span ≡ true
lies_within-from text span h =
    and_from _ _ (and_from _ _ (and_from _ _ (le-leb span.start span.colon h.named) (lt-ltb span.colon span.end h.more)) (le-leb span.end (length text) h.inside)) (eq-eqb _ _ h.id)

ends_before-push : (spans : List FieldSpan) (p : FieldSpan) (start : ℕ) → ends_before start (spans ++ p ∷ []) ≡ (p.end + 1 == start)
ends_before-push [] p start = refl
ends_before-push (q ∷ []) p start = refl
ends_before-push (q ∷ r ∷ rs) p start = ends_before-push (r ∷ rs) p start

-- a further field
pub StandsAt-push : (text : List ℕ) (spans : List FieldSpan) (names : Names) (p : FieldSpan) → list_all (lies_within text) spans ≡ true → LiesWithin text p → Keeps text (spans ++ p ∷ []) names → StandsAt text (p.end + 1) (spans ++ p ∷ []) names
StandsAt-push text spans names p within lies keeps = record {
  within = list_all-append (lies_within text) spans (p ∷ []) ∙ and_from _ _ within (and_from _ _ (lies_within-from text p lies) refl);
  reached = ends_before-push spans p (p.end + 1) ∙ eq-eqb _ _ refl;
  kept = keeps;
}

-- a write of the last span's end
pub last_goes_on : (end : ℕ) (spans : List FieldSpan) (n : ℕ) (p : FieldSpan) → length spans ≡ n + 1 → p ≡ slice_index_or spans n p → LastGoesOn end spans (set spans n (record p { end = end }))
last_goes_on end spans n p count is =
    let longer : FieldSpan = record p { end = end } in
    record {
      front = take n spans;
      last = p;
      is = sym (take_all (n + 1) spans (omega arith)) ∙ take_more spans n p (omega arith) ∙ ap (λ q. take n spans ++ q ∷ []) (sym is);
      becomes = sym (take_all (n + 1) (set spans n longer) (omega (arith, length-set spans n longer))) ∙ take_more_set spans n longer (omega arith);
    }

-- the last field goes on to the end of a further line
module _ (text : List ℕ) (start end : ℕ) (ordered : start ≤ end) (within : end ≤ length text) (spans longer : List FieldSpan) (names : Names)
    (h : LastGoesOn end spans longer) (stands : StandsAt text start spans names) where
  parts : (list_all (lies_within text) h.front ≡ true) × (list_all (lies_within text) (h.last ∷ []) ≡ true)
  parts = and_parts _ _ (sym (list_all-append (lies_within text) h.front (h.last ∷ [])) ∙ subst (λ l. list_all (lies_within text) l ≡ true) h.is stands.within)

  lies : LiesWithin text h.last
  lies = LiesWithin-from_test text h.last (and_parts _ true parts.1).0

  reached : h.last.end + 1 ≡ start
  reached = eqb-true _ _ (sym (ends_before-push h.front h.last start) ∙ subst (λ l. ends_before start l ≡ true) h.is stands.reached)

  pub StandsAt-longer : StandsAt text (end + 1) longer names
  StandsAt-longer =
      let kept = Keeps-longer text h.front h.last end names (subst (λ l. Keeps text l names) h.is stands.kept) in
      rw h.becomes (StandsAt-push text h.front names (record h.last { end = end }) parts.0 (record { named = lies.named; more = omega (arith, lies.more, reached); inside = within; id = lies.id }) kept)

  pub continuation_line-begun : (n : ℕ) → (0 < start → slice_index text (start - 1) ≡ newline) → continuation_line n (begun_fields text spans) (slice_range text start end) ≡ Ok (begun_fields text longer)
  continuation_line-begun n break =
      let line : List ℕ = slice_range text start end in
      let last : FieldSpan = record h.last { end = end } in
      let behind : start - 1 ≡ h.last.end = omega (arith, reached) in
      let byte : slice_index text h.last.end ≡ newline = ap (slice_index text) (sym behind) ∙ break (omega (arith, reached)) in
      let joined = slice_range-join text (h.last.colon + 1) h.last.end end (omega (arith, lies.more)) (omega (arith, reached)) within in
      let whole : slice_range text (h.last.colon + 1) h.last.end ++ newline ∷ line ≡ slice_range text (h.last.colon + 1) end = rw (byte, reached) at joined in
      ap (λ l. continuation_line n (begun_fields text l) line) h.is
      ∙ ap (λ l. continuation_line n l line) (map_push (begun_at text) h.front h.last)
      ∙ continuation_line-push n (begun_fields text h.front) (begun_at text h.last) line
      ∙ ap (λ t. Ok (begun_fields text h.front ++ with_text (begun_at text h.last) t ∷ [])) whole
      ∙ ap Ok (sym (ap (begun_fields text) h.becomes ∙ map_push (begun_at text) h.front last))

-- the names in the spans are those of the fields
pub has_name-begun : (text name : List ℕ) (spans : List FieldSpan) → has_name name (begun_fields text spans) ≡ has_stood name (map (name_at text) spans)
has_name-begun text name spans =
    let test : List ℕ → Bool = λ s. bytes_eq (folded s) (folded name) in
    list_any-map (λ field. test field.name) (begun_at text) spans ∙ sym (list_any-map test (name_at text) spans)

pub ruleset going_on = (last_goes_on, StandsAt-longer, continuation_line-begun)
