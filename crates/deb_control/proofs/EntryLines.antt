-- The lines of an entry's canonical text spell a field of its name and body.
use Rattle.deb_control.proofs.Common.{◌≡◌, ℕ, ◌==◌, Bool, true, false, IsTrue, List, [], ◌∷◌, ◌++◌, drop, refl, sym, ap, ◌∙◌, subst, append_assoc, append-nil, arith, and_parts, cond_both, nat_tests, AllByRecursion, list_all, IsUtf8, Line, newline, pieces_of, is_blank_byte, is_all_blank, lines_of, colon, is_name_byte, is_name, SpellsField, IsUtf8-with_ascii, IsUtf8-lines, joined-pieces_of, IsNonempty, IsNonempty-pieces_of, lines_of-pieces, each_from_list_all, each_name_byte, name_is_ascii, blanks_are_ascii, IsUtf8-with_all_ascii, HoldNoBlank, HoldNoBlank-pieces_of, HoldNoBlank-body, later_pieces-cons, later_pieces-append, behind_colon, field_text}
use Rattle.deb_control.proofs.Entries.{IsEntry}

-- an entry's canonical text without its last newline
abbrev pub entry_text : List ℕ × List ℕ → List ℕ
entry_text entry = entry.0 ++ colon ∷ behind_colon entry.1

abbrev pub entry_lines : List ℕ × List ℕ → List Line
entry_lines entry = pieces_of (entry_text entry)

-- what is between the colon and the body: one space or nothing
record HasFront (body : List ℕ) : Type 0 where
  front : List ℕ
  blank : IsTrue (is_all_blank front)
  whole : behind_colon body ≡ front ++ body

HasFront-cond : (b : ℕ) (bs : List ℕ) (c : Bool) → c ≡ (b == newline) → HasFront (b ∷ bs)
HasFront-cond b bs true e = record { front = []; blank = refl; whole = rw (← e) refl }
HasFront-cond b bs false e = record { front = 32 ∷ []; blank = refl; whole = rw (← e) refl }

HasFront-value : (body : List ℕ) → HasFront body
HasFront-value [] = record { front = []; blank = refl; whole = refl }
HasFront-value (b ∷ bs) = HasFront-cond b bs (b == newline) refl

-- the lines of a text that begins with an entry's
pub lines_of-field_text : (entry : List ℕ × List ℕ) (rest : List ℕ) → lines_of (field_text entry ++ rest) ≡ entry_lines entry ++ lines_of rest
lines_of-field_text entry rest =
    let regrouped : field_text entry ++ rest ≡ entry_text entry ++ newline ∷ rest = simp append_assoc in
    ap lines_of regrouped ∙ lines_of-pieces (entry_text entry) rest

pub IsNonempty-entry_lines : (entry : List ℕ × List ℕ) → IsNonempty (entry_lines entry)
IsNonempty-entry_lines entry = IsNonempty-pieces_of (entry_text entry)

pub SpellsField-entry_lines : (n : ℕ) (entry : List ℕ × List ℕ) → IsEntry entry → SpellsField (entry_lines entry) (record { name = entry.0; line = n; body = entry.1 })
SpellsField-entry_lines n entry is =
    let value = HasFront-value entry.1 in
    record {
      before = value.front;
      after = [];
      spelt = joined-pieces_of (entry_text entry) ∙ ap (λ v. entry.0 ++ colon ∷ v) (value.whole ∙ ap (λ v. value.front ++ v) (sym (append-nil entry.1)));
      before_blank = value.blank;
      after_blank = refl;
      name = is.name;
      body = is.shape;
    }

IsUtf8-entry_text : (entry : List ℕ × List ℕ) → IsEntry entry → IsUtf8 (entry_text entry)
IsUtf8-entry_text entry is =
    let value = HasFront-value entry.1 in
    let value_utf8 : IsUtf8 (behind_colon entry.1) = subst IsUtf8 (sym value.whole) (IsUtf8-with_all_ascii value.front entry.1 (blanks_are_ascii value.front value.blank) is.text) in
    IsUtf8-with_all_ascii entry.0 (colon ∷ behind_colon entry.1) (name_is_ascii entry.0 is.name) (IsUtf8-with_ascii colon (behind_colon entry.1) (omega arith) value_utf8)

pub IsUtf8-entry_lines : (entry : List ℕ × List ℕ) → IsEntry entry → AllByRecursion IsUtf8 (entry_lines entry)
IsUtf8-entry_lines entry is = IsUtf8-lines (entry_lines entry) (subst IsUtf8 (sym (joined-pieces_of (entry_text entry))) (IsUtf8-entry_text entry is))

name_byte_not_newline : (b : ℕ) → is_name_byte b ≡ true → (b == newline) ≡ false
name_byte_not_newline b h = grind (arith, nat_tests)

name_byte_not_blank : (b : ℕ) → is_name_byte b ≡ true → is_blank_byte b ≡ false
name_byte_not_blank b h = grind (arith, nat_tests)

value_first : (body : List ℕ) → drop 1 (pieces_of (behind_colon body)) ≡ drop 1 (pieces_of body)
value_first [] = refl
value_first (b ∷ bs) =
    cond_both (b == newline) (b ∷ bs) (32 ∷ b ∷ bs) (λ v. drop 1 (pieces_of v) ≡ drop 1 (pieces_of (b ∷ bs)))
    (λ e. refl) (λ e. later_pieces-cons 32 (b ∷ bs) refl)

HoldNoBlank-name : (name text : List ℕ) → IsTrue (is_name name) → HoldNoBlank (drop 1 (pieces_of text)) → HoldNoBlank (pieces_of (name ++ colon ∷ text))
HoldNoBlank-name [] text h k = absurd (cc)
HoldNoBlank-name (b ∷ bs) text h k =
    let bytes = each_name_byte (b ∷ bs) h in
    let first = and_parts (is_name_byte b) (list_all is_name_byte bs) bytes in
    HoldNoBlank-pieces_of b (bs ++ colon ∷ text) (name_byte_not_blank b first.0) (name_byte_not_newline b first.0)
    (subst HoldNoBlank (sym (later_pieces-append bs (colon ∷ text) (each_from_list_all is_name_byte (λ c. (c == newline) ≡ false) name_byte_not_newline bs first.1) ∙ later_pieces-cons colon text refl)) k)

pub HoldNoBlank-entry_lines : (entry : List ℕ × List ℕ) → IsEntry entry → HoldNoBlank (entry_lines entry)
HoldNoBlank-entry_lines entry is = HoldNoBlank-name entry.0 (behind_colon entry.1) is.name (subst HoldNoBlank (sym (value_first entry.1)) (HoldNoBlank-body entry.1 is.shape))
