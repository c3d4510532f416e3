-- Where the fields of a paragraph are in its bytes, and what is there. Debian Policy 5.1;
-- deb822(5), "Syntax".
use Rattle.std.specs.Prelude.{◌≡◌, ◌⊎◌, ℕ, ◌+◌, ◌<◌, ◌≤◌, ◌==◌, ◌&&◌, Bool, true, false, List, [], ◌∷◌, ◌++◌, length, map, nat_le, nat_lt, get_or, slice_range, IsTrue, Result, Err, codes, refl}
use Rattle.std.specs.List.{list_all, list_any}
use Rattle.std.specs.Str.{bytes_eq}
use Rattle.deb_base.specs.Kinds.{known_row, row_count}
use Rattle.deb_base.specs.KnownFields.{row_of}
use Rattle.deb_base.specs.Names.{folded}
use Rattle.deb_base.specs.declared.fault.Fault.{Fault}
use Rattle.deb_base.specs.declared.known_fields.FieldId.{FieldId}
use Rattle.deb_base.specs.declared.fault.Fault.TheVariants.{Refused, Memory, Read, Write}
use Rattle.deb_base.specs.declared.refusal.Refusal.{Refusal}
use Rattle.deb_syntax.specs.Fields.{Field}
use Rattle.deb_base.specs.Trimming.{trimmed}
use Rattle.deb_syntax.specs.declared.folded_name.FoldedName.{FoldedName}
use Rattle.deb_syntax.specs.declared.seen_names.Names.{Names}
use Rattle.deb_syntax.specs.declared.field_span.FieldSpan.{FieldSpan}

-- the name of the field in a span of a paragraph's bytes
abbrev pub name_at : List ℕ → FieldSpan → List ℕ
name_at text span = slice_range text span.start span.colon

-- the field in a span: its name, its line, and what follows its colon, trimmed
abbrev pub field_at : List ℕ → FieldSpan → Field
field_at text span =
    record {
      name = name_at text span;
      line = span.line;
      body = trimmed (slice_range text (span.colon + 1) span.end);
    }

abbrev pub fields_at : List ℕ → List FieldSpan → List Field
fields_at text spans = map (field_at text) spans

-- whether a span lies within a text, its colon before its end, and its id is that of its name
abbrev pub lies_within : List ℕ → FieldSpan → Bool
lies_within text span =
    nat_le span.start span.colon && nat_lt span.colon span.end
    && nat_le span.end (length text) && (row_of span.id == known_row (name_at text span))

-- a field that may have more lines: instead of its body, all that is after its colon so
-- far
abbrev pub begun_at : List ℕ → FieldSpan → Field
begun_at text span =
    record {
      name = name_at text span;
      line = span.line;
      body = slice_range text (span.colon + 1) span.end;
    }

abbrev pub begun_fields : List ℕ → List FieldSpan → List Field
begun_fields text spans = map (begun_at text) spans

-- The last of the spans goes on to `end`.
pub record LastGoesOn (end : ℕ) (spans longer : List FieldSpan) : Type 0 where
  pub front : List FieldSpan
  pub last : FieldSpan
  pub is : spans ≡ front ++ last ∷ []
  pub becomes : longer ≡ front ++ record last { end = end } ∷ []

-- whether the last of the spans ends one byte before a line's begin
abbrev pub ends_before : ℕ → List FieldSpan → Bool
ends_before start [] = true
ends_before start (span ∷ []) = span.end + 1 == start
ends_before start (span ∷ next ∷ spans) = ends_before start (next ∷ spans)

-- whether a name is one of those that stood before, without ASCII case
abbrev pub has_stood : List ℕ → List (List ℕ) → Bool
has_stood name stood = list_any (λ other. bytes_eq (folded other) (folded name)) stood

-- whether it is one of those in a set
abbrev pub is_kept : List ℕ → List FoldedName → Bool
is_kept name names = list_any (λ other. bytes_eq (folded name) (folded other.0.now)) names

-- whether a field of the table is in one of the spans
abbrev pub has_row : ℕ → List FieldSpan → Bool
has_row row spans = list_any (λ span. row_of span.id == row) spans

-- What is kept of the names in the spans: which of the table stood, and of the others all in a
-- set, or none.
pub record Keeps (text : List ℕ) (spans : List FieldSpan) (names : Names) : Type 0 where
  pub known : (row : ℕ) → row < row_count → get_or names.known row false ≡ has_row row spans
  pub others : (names.all.keys ≡ [])
      ⊎ ((name : List ℕ) → row_count ≤ known_row name
      → is_kept name names.all.keys ≡ has_stood name (map (name_at text) spans))

-- The name that comes next is kept, wherever its field ends.
abbrev pub KeepsNext : List ℕ → List FieldSpan → List ℕ → Names → Type 0
KeepsNext text spans name names =
    (span : FieldSpan) → name_at text span ≡ name → row_of span.id ≡ known_row name
    → Keeps text (spans ++ span ∷ []) names

-- What is kept of the lines before the one that begins at `start`: the spans lie within the text,
-- the last of them ends at that line, and their names are kept.
pub record StandsAt (text : List ℕ) (start : ℕ) (spans : List FieldSpan)
    (names : Names) : Type 0 where
  pub within : IsTrue (list_all (lies_within text) spans)
  pub reached : IsTrue (ends_before start spans)
  pub kept : Keeps text spans names

-- the fault is the refusal that is judged, or out of memory
abbrev pub IsFaultOf : Result (List Field) Refusal → Fault → Type 0
IsFaultOf judgement (Refused refusal) = judgement ≡ Err refusal
IsFaultOf judgement Memory = Unit {0}
IsFaultOf judgement Read = ⊥
IsFaultOf judgement Write = ⊥

-- for the worked cases: the id of a name that isn't in the table, and a span of such a name
abbrev other : FieldId
other = record { 0 = row_count }

abbrev place_from : (line start colon end : ℕ) → FieldSpan
place_from line start colon end = record {
  line = line;
  start = start;
  colon = colon;
  end = end;
  id = other;
}

-- a span of `Tag` and of three bytes after the colon, with the id of a row
abbrev tag_in : ℕ → FieldSpan
tag_in row = record (place_from 1 0 3 6) { id = record { 0 = row } }

-- the second line belongs to the field of the first
two_spans : fields_at (codes "A: 1 \n 2\nB:")
    (place_from 1 0 1 8 ∷ place_from 3 9 10 11 ∷ [])
    ≡ record { name = codes "A"; line = 1; body = codes "1 \n 2" }
    ∷ record { name = codes "B"; line = 3; body = [] } ∷ []
two_spans = refl

places_within : list_all (lies_within (codes "A: 1 \n 2\nB:"))
    (place_from 1 0 1 8 ∷ place_from 3 9 10 11 ∷ []) ≡ true
unfolding known_row
places_within = refl

place_beyond : lies_within (codes "A: 1 \n 2\nB") (place_from 3 9 10 11) ≡ false
unfolding known_row
place_beyond = refl

-- without case, with the id of another row, and with none of the table
other_ids : (lies_within (codes "Tag: 1") (tag_in (known_row (codes "Tag"))) ≡ true)
    × (lies_within (codes "tAG: 1") (tag_in (known_row (codes "Tag"))) ≡ true)
    × (lies_within (codes "Tag: 1") (tag_in (known_row (codes "Task"))) ≡ false)
    × (lies_within (codes "Tag: 1") (tag_in row_count) ≡ false)
unfolding known_row
other_ids = (refl, refl, refl, refl)

-- of spans that end before the line's begin the last goes on to the line's end
last_place_goes_on : LastGoesOn 11 (place_from 1 0 1 4 ∷ place_from 2 5 6 8 ∷ [])
    (place_from 1 0 1 4 ∷ place_from 2 5 6 11 ∷ [])
last_place_goes_on =
    record {
      front = place_from 1 0 1 4 ∷ [];
      last = place_from 2 5 6 8;
      is = refl;
      becomes = refl;
    }

no_place_before : ends_before 0 [] ≡ true
no_place_before = refl

places_before : (ends_before 9 (place_from 1 0 1 8 ∷ []) ≡ true)
    × (ends_before 8 (place_from 1 0 1 8 ∷ []) ≡ false)
places_before = (refl, refl)

-- a colon at the end of a span, or before its begin
place_of_no_field : (lies_within (codes "A: 1 \n 2\nB:") (place_from 1 0 2 2) ≡ false)
    × (lies_within (codes "A: 1 \n 2\nB:") (place_from 1 3 2 4) ≡ false)
unfolding known_row
place_of_no_field = (refl, refl)

-- the body of a field that goes on isn't trimmed
fields_begun : begun_fields (codes "A: 1 \n 2\nB:")
    (place_from 1 0 1 8 ∷ place_from 3 9 10 11 ∷ [])
    ≡ record { name = codes "A"; line = 1; body = codes " 1 \n 2" }
    ∷ record { name = codes "B"; line = 3; body = [] } ∷ []
fields_begun = refl

names_without_case : (has_stood (codes "pACKAGE") (codes "Tag" ∷ codes "Package" ∷ []) ≡ true)
    × (has_stood (codes "Packages") (codes "Tag" ∷ codes "Package" ∷ []) ≡ false)
    × (has_stood (codes "Package") [] ≡ false)
names_without_case = (refl, refl, refl)

kept_names_without_case : (is_kept (codes "pACKAGE")
    (record { 0 = record { ref_ptr = (0, 0); now = codes "Tag" } }
    ∷ record { 0 = record { ref_ptr = (0, 0); now = codes "Package" } } ∷ []) ≡ true)
    × (is_kept (codes "Packages")
    (record { 0 = record { ref_ptr = (0, 0); now = codes "Package" } } ∷ []) ≡ false)
    × (is_kept (codes "Package") [] ≡ false)
kept_names_without_case = (refl, refl, refl)

rows_of_places : (has_row (known_row (codes "Tag")) (tag_in (known_row (codes "Tag")) ∷ []) ≡ true)
    × (has_row (known_row (codes "Task")) (tag_in (known_row (codes "Tag")) ∷ []) ≡ false)
    × (has_row (known_row (codes "Tag")) [] ≡ false)
unfolding known_row
rows_of_places = (refl, refl, refl)
