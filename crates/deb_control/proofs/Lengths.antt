-- The length of a paragraph's canonical text is the sum of those of its fields, whatever their order.
use Rattle.deb_control.proofs.Common.{◌≡◌, ℕ, ◌+◌, cond, Bool, true, false, List, [], ◌∷◌, ◌++◌, length, map, Ordering, Less, Equal, Greater, refl, ap, arith, length-append, or_parts, both_ways, sum_by-cons, bytes_eq-Decides, insert_entry, AllByRecursion, sum_by, match_ordering, bytes_eq, newline, folded, canonical_name, folded-from_canonical_name, Field, has_name, AreDistinct, byte_order, Entries, entries_after, entries_of, behind_colon, field_text, paragraph_text, Visit, canonical_visit, fields_visited, texts_length}
use mir.Val.{bool_byte}
use Rattle.std.proofs.lemmas.List.Folds.{fold-map}
use Rattle.deb_base.proofs.CanonicalNames.{length-capitalised}
use Rattle.deb_control.proofs.Entries.{each_insert}
use Rattle.deb_control.proofs.FieldValues.{same_from_equal}
use Rattle.deb_control.proofs.SortedFields.{entry_of}
use Rattle.deb_control.proofs.Visited.{distinct-visited}

-- nothing is under the name
abbrev Lacks : Entries → List ℕ → Type 0
Lacks entries name = AllByRecursion (λ entry. name ≡ entry.0 → ⊥) entries

length-insert : (name body : List ℕ) (entries : Entries) → Lacks entries name → length (paragraph_text (insert_entry byte_order entries name body)) ≡ length (paragraph_text entries) + length (field_text (name, body))
length-insert name body [] lacks = omega (arith, length-append (field_text (name, body)) [])
length-insert name body (entry ∷ entries) lacks = go (byte_order name entry.0) refl (length-insert name body entries lacks.1)
  where
    go : (o : Ordering) → byte_order name entry.0 ≡ o → length (paragraph_text (insert_entry byte_order entries name body)) ≡ length (paragraph_text entries) + length (field_text (name, body)) → length (paragraph_text (match_ordering o ((name, body) ∷ entry ∷ entries) ((entry.0, body) ∷ entries) (entry ∷ insert_entry byte_order entries name body))) ≡ length (paragraph_text (entry ∷ entries)) + length (field_text (name, body))
    go Less e rest = omega (arith, length-append (field_text (name, body)) (paragraph_text (entry ∷ entries)))
    go Equal e rest = absurd (lacks.0 (same_from_equal name entry.0 e))
    go Greater e rest = omega (arith, rest, length-append (field_text entry) (paragraph_text (insert_entry byte_order entries name body)), length-append (field_text entry) (paragraph_text entries))

-- and under none of the fields' names
abbrev LacksEach : Entries → List Field → Type 0
LacksEach entries fields = AllByRecursion (λ field. Lacks entries (canonical_name field.name)) fields

lacks-nil : (fields : List Field) → LacksEach [] fields
lacks-nil [] = tt
lacks-nil (field ∷ fields) = (tt, lacks-nil fields)

names_apart : (name other : List ℕ) → bytes_eq (folded other) (folded name) ≡ false → canonical_name other ≡ canonical_name name → ⊥
names_apart name other apart same = both_ways (bytes_eq (folded other) (folded name)) apart ((bytes_eq-Decides (folded other) (folded name)).1 (folded-from_canonical_name other name same))

lacks-each : (field : Field) (entries : Entries) (fields : List Field) → has_name field.name fields ≡ false → LacksEach entries fields → LacksEach (insert_entry byte_order entries (canonical_name field.name) field.body) fields
lacks-each field entries [] none lacks = tt
lacks-each field entries (f ∷ fields) none lacks =
    let p = or_parts (bytes_eq (folded f.name) (folded field.name)) (has_name field.name fields) none in
    (each_insert (λ entry. canonical_name f.name ≡ entry.0 → ⊥) (canonical_name field.name) field.body (λ entry apart. apart) entries lacks.0 (names_apart field.name f.name p.0), lacks-each field entries fields p.1 lacks.1)

-- how long a field is with its body as it is
abbrev own_length : Field → ℕ
own_length field = length (field_text (entry_of field))

length-after : (entries : Entries) (fields : List Field) → LacksEach entries fields → AreDistinct fields → length (paragraph_text (entries_after entries fields)) ≡ length (paragraph_text entries) + sum_by own_length fields
length-after entries [] lacks distinct = omega arith
length-after entries (field ∷ fields) lacks distinct =
    let name = canonical_name field.name in
    let more = insert_entry byte_order entries name field.body in
    omega (arith, length-after more fields (lacks-each field entries fields distinct.0 lacks.1) distinct.1, length-insert name field.body entries lacks.0, sum_by-cons own_length field fields)

pub length-visited : (visited : List Visit) → AreDistinct (fields_visited visited) → length (paragraph_text (entries_of (map canonical_visit visited))) ≡ texts_length visited
length-visited visited distinct =
    let each = map canonical_visit visited in
    omega (arith, length-after [] each (lacks-nil each) (distinct-visited canonical_visit (λ visit. refl) visited distinct), fold-map (λ sum field. sum + own_length field) canonical_visit 0 visited)

length-field : (name text : List ℕ) → length (field_text (canonical_name name, text)) ≡ length name + 2 + length (behind_colon text)
length-field name text =
    omega (arith, length-append (canonical_name name) (58 ∷ (behind_colon text ++ newline ∷ [])), length-append (behind_colon text) (newline ∷ []), length-capitalised true name)

length-spaced : (spaced : Bool) (text : List ℕ) → behind_colon text ≡ cond spaced (32 ∷ text) text → length (behind_colon text) ≡ bool_byte spaced + length text
length-spaced true text is = omega (arith, ap length is)
length-spaced false text is = omega (arith, ap length is)

-- the sum of what a text, the space before it, and the rest of its field have
pub length-counted : (spaced : Bool) (name text : List ℕ) (ends n : ℕ) → behind_colon text ≡ cond spaced (32 ∷ text) text → n ≡ length text → ends ≡ length name + 2 + bool_byte spaced → ends + n ≡ length (field_text (canonical_name name, text))
length-counted spaced name text ends n is counted named = omega (arith, counted, named, length-spaced spaced text is, length-field name text)
