-- The lines of a paragraph's canonical text spell fields whose entries are the paragraph's own.
use Rattle.deb_control.proofs.Common.{◌≡◌, ℕ, ◌+◌, false, IsFalse, List, [], ◌∷◌, ◌++◌, length, flat_map, Less, Equal, Greater, refl, sym, ap, ◌∙◌, append_assoc, append-nil, or_from, false_from_ne_true, bytes_eq-Decides, nat_list_cmp_total, tied_itself, AllByRecursion, IsUtf8, insert_entry, folded, canonical_name, All-append, canonical_name-from_folded, Line, is_blank, lines_of, Field, has_name, AreDistinct, SpellsFields, byte_order, Entries, entries_after, entries_of, IsNonempty, HoldNoBlank, field_text, paragraph_text}
use Rattle.std.proofs.Common.{bytes_eq}
use Rattle.deb_control.proofs.Entries.{IsEntry, IsAscending, greater_from_less}
use Rattle.deb_control.proofs.EntryLines.{entry_lines, lines_of-field_text, IsNonempty-entry_lines, SpellsField-entry_lines, IsUtf8-entry_lines, HoldNoBlank-entry_lines}

abbrev pub paragraph_lines : Entries → List Line
paragraph_lines entries = flat_map entry_lines entries

-- the lines of a text that begins with a paragraph's
pub lines_of-paragraph_text : (entries : Entries) (rest : List ℕ) → lines_of (paragraph_text entries ++ rest) ≡ paragraph_lines entries ++ lines_of rest
lines_of-paragraph_text [] rest = refl
lines_of-paragraph_text (entry ∷ entries) rest =
    ap lines_of (append_assoc (field_text entry) (paragraph_text entries) rest)
    ∙ lines_of-field_text entry (paragraph_text entries ++ rest)
    ∙ ap (λ lines. entry_lines entry ++ lines) (lines_of-paragraph_text entries rest)
    ∙ sym (append_assoc (entry_lines entry) (paragraph_lines entries) (lines_of rest))

-- what holds of the lines of each entry holds of the paragraph's
each_line : (P : Line → Type 0) → ((entry : List ℕ × List ℕ) → IsEntry entry → AllByRecursion P (entry_lines entry)) → (entries : Entries) → AllByRecursion IsEntry entries → AllByRecursion P (paragraph_lines entries)
each_line P of_entry [] each = tt
each_line P of_entry (entry ∷ entries) each = All-append P (entry_lines entry) (paragraph_lines entries) (of_entry entry each.0) (each_line P of_entry entries each.1)

pub IsUtf8-paragraph_lines : (entries : Entries) → AllByRecursion IsEntry entries → AllByRecursion IsUtf8 (paragraph_lines entries)
IsUtf8-paragraph_lines entries each = each_line IsUtf8 IsUtf8-entry_lines entries each

pub HoldNoBlank-paragraph_lines : (entries : Entries) → AllByRecursion IsEntry entries → HoldNoBlank (paragraph_lines entries)
HoldNoBlank-paragraph_lines entries each = each_line (λ line. is_blank line ≡ false) HoldNoBlank-entry_lines entries each

IsNonempty-append : (lines others : List Line) → IsNonempty lines → IsNonempty (lines ++ others)
IsNonempty-append [] others h = absurd h
IsNonempty-append (line ∷ lines) others h = tt

pub IsNonempty-paragraph_lines : (entries : Entries) → IsNonempty entries → IsNonempty (paragraph_lines entries)
IsNonempty-paragraph_lines [] h = absurd h
IsNonempty-paragraph_lines (entry ∷ entries) h = IsNonempty-append (entry_lines entry) (paragraph_lines entries) (IsNonempty-entry_lines entry)

-- the fields of entries, whose first line has number n
abbrev pub fields_from : ℕ → Entries → List Field
fields_from n [] = []
fields_from n (entry ∷ entries) = record { name = entry.0; line = n; body = entry.1 } ∷ fields_from (n + length (entry_lines entry)) entries

pub SpellsFields-paragraph_lines : (n : ℕ) (entries : Entries) → AllByRecursion IsEntry entries → SpellsFields n (paragraph_lines entries) (fields_from n entries)
SpellsFields-paragraph_lines n [] each = refl
SpellsFields-paragraph_lines n (entry ∷ entries) each = (
  entry_lines entry,
  paragraph_lines entries,
  refl,
  refl,
  SpellsField-entry_lines n entry each.0,
  SpellsFields-paragraph_lines (n + length (entry_lines entry)) entries each.1,
)

-- canonical names in order are different names
apart : (name other : List ℕ) → canonical_name name ≡ name → canonical_name other ≡ other → byte_order name other ≡ Less → bytes_eq (folded other) (folded name) ≡ false
apart name other c d less =
    false_from_ne_true (bytes_eq (folded other) (folded name)) (λ same.
    let names : canonical_name other ≡ canonical_name name = canonical_name-from_folded other name ((bytes_eq-Decides (folded other) (folded name)).0 same) in
    let one : other ≡ name = sym d ∙ names ∙ c in
    let tied = tied_itself nat_list_cmp_total name in
    let both : Less ≡ Equal = sym less ∙ ap (byte_order name) one ∙ tied in
    cc both)

has_name-fields_from : (name : List ℕ) (n : ℕ) (entries : Entries) → canonical_name name ≡ name → AllByRecursion IsEntry entries → AllByRecursion (λ other. byte_order name other.0 ≡ Less) entries → IsFalse (has_name name (fields_from n entries))
has_name-fields_from name n [] c each less = refl
has_name-fields_from name n (entry ∷ entries) c each less =
    or_from (bytes_eq (folded entry.0) (folded name)) (has_name name (fields_from (n + length (entry_lines entry)) entries))
    (apart name entry.0 c each.0.canonical less.0) (has_name-fields_from name (n + length (entry_lines entry)) entries c each.1 less.1)

pub AreDistinct-fields_from : (n : ℕ) (entries : Entries) → AllByRecursion IsEntry entries → IsAscending entries → AreDistinct (fields_from n entries)
AreDistinct-fields_from n [] each ascending = tt
AreDistinct-fields_from n (entry ∷ entries) each ascending = (
  has_name-fields_from entry.0 (n + length (entry_lines entry)) entries each.0.canonical each.1 ascending.0,
  AreDistinct-fields_from (n + length (entry_lines entry)) entries each.1 ascending.1,
)

-- an entry whose name is above all others comes last
pub insert_last : (before : Entries) (name body : List ℕ) → AllByRecursion (λ other. byte_order name other.0 ≡ Greater) before → insert_entry byte_order before name body ≡ before ++ (name, body) ∷ []
insert_last [] name body h = refl
insert_last (other ∷ before) name body h = rw h.0 (ap (λ entries. other ∷ entries) (insert_last before name body h.1))

-- the entries come above all before them
abbrev pub AllAbove : Entries → Entries → Type 0
AllAbove before entries = AllByRecursion (λ entry. AllByRecursion (λ other. byte_order entry.0 other.0 ≡ Greater) before) entries

pub AllAbove-push : (before : Entries) (entry : List ℕ × List ℕ) (entries : Entries) → AllAbove before entries → AllByRecursion (λ other. byte_order entry.0 other.0 ≡ Less) entries → AllAbove (before ++ entry ∷ []) entries
AllAbove-push before entry [] above less = tt
AllAbove-push before entry (next ∷ entries) above less =
    (above_push before next.0 above.0 (greater_from_less entry.0 next.0 less.0), AllAbove-push before entry entries above.1 less.1)
  where
    above_push : (others : Entries) (name : List ℕ) → AllByRecursion (λ other. byte_order name other.0 ≡ Greater) others → byte_order name entry.0 ≡ Greater → AllByRecursion (λ other. byte_order name other.0 ≡ Greater) (others ++ entry ∷ [])
    above_push [] name h greater = (greater, tt)
    above_push (other ∷ others) name h greater = (h.0, above_push others name h.1 greater)

entries_after-fields_from : (before : Entries) (n : ℕ) (entries : Entries) → AllByRecursion IsEntry entries → IsAscending entries → AllAbove before entries → entries_after before (fields_from n entries) ≡ before ++ entries
entries_after-fields_from before n [] each ascending above = sym (append-nil before)
entries_after-fields_from before n (entry ∷ entries) each ascending above =
    ap (λ acc. entries_after acc (fields_from (n + length (entry_lines entry)) entries)) (ap (λ name. insert_entry byte_order before name entry.1) each.0.canonical ∙ insert_last before entry.0 entry.1 above.0)
    ∙ entries_after-fields_from (before ++ entry ∷ []) (n + length (entry_lines entry)) entries each.1 ascending.1 (AllAbove-push before entry entries above.1 ascending.0)
    ∙ append_assoc before (entry ∷ []) entries

pub AllAbove-nil : (entries : Entries) → AllAbove [] entries
AllAbove-nil [] = tt
AllAbove-nil (entry ∷ entries) = (tt, AllAbove-nil entries)

-- the fields give the entries back
pub entries_of-fields_from : (n : ℕ) (entries : Entries) → AllByRecursion IsEntry entries → IsAscending entries → entries_of (fields_from n entries) ≡ entries
entries_of-fields_from n entries each ascending = entries_after-fields_from [] n entries each ascending (AllAbove-nil entries)
