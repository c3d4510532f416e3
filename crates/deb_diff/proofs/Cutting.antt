-- Where the fields of a canonical text end, and what a map of them has.
use Rattle.std.proofs.Common.{◌≡◌, ℕ, ◌+◌, ◌==◌, ◌&&◌, Bool, true, false, not, cond, IsTrue, List, [], ◌∷◌, ◌++◌, length, map, drop, take, Bor, Some, None, refl, sym, ap, ◌∙◌, arith}
use Rattle.std.proofs.lemmas.Bool.{and_parts, false≢true}
use Rattle.std.proofs.lemmas.Bool.Decides.{nat_tests}
use Rattle.std.proofs.lemmas.List.{append_assoc, length-append}
use Rattle.std.specs.List.{AllByRecursion, list_all, prefix_len}
use Rattle.std.specs.BTreeMap.{insert_entry, is_at}
use Rattle.std.specs.FinMap.{find}
use Rattle.std.specs.Map.{lookup}
use Rattle.std.specs.Option.{option_map}
use Rattle.std.specs.Ordering.{is_eq, match_ordering}
use Rattle.std.specs.declared.cmp.Ordering.{Ordering}
use Rattle.std.specs.declared.cmp.Ordering.TheVariants.{Less, Equal, Greater}
use Rattle.deb_base.specs.Bodies.{Line, begins_with_blank, ends_with_blank, is_blank, is_blank_byte, is_continuation, newline, pieces_of, with_byte}
use Rattle.deb_base.specs.FieldNames.{colon, is_name, is_name_byte}
use Rattle.deb_base.proofs.FieldBytes.{each_from_list_all, each_name_byte}
use Rattle.deb_syntax.specs.Meaning.{Entries, byte_order}
use Rattle.deb_control.specs.Canonical.{behind_colon, field_text, paragraph_text}
use Rattle.deb_diff.specs.Cuts.{IsCut, IsFirst, field_len, rest_of, texts_in}
use Rattle.deb_diff.specs.declared.cut.First.{First}
use Rattle.deb_diff.specs.Fields.{fields_of_both}

-- a space or a tab comes after each newline
abbrev pub AreFolded : List ℕ → Type 0
AreFolded [] = Unit {0}
AreFolded (b ∷ bs) = ((b == newline) ≡ true → begins_with_blank bs ≡ true) × AreFolded bs

folded-plain : (xs ys : List ℕ) → AllByRecursion (λ b. (b == newline) ≡ false) xs → AreFolded ys → AreFolded (xs ++ ys)
folded-plain [] ys h f = f
folded-plain (x ∷ xs) ys h f = ((λ e. absurd (false≢true (sym h.0 ∙ e))), folded-plain xs ys h.1 f)

begins_more : (bs more : List ℕ) → begins_with_blank bs ≡ true → begins_with_blank (bs ++ more) ≡ true
begins_more [] more e = absurd (false≢true e)
begins_more (b ∷ bs) more e = e

-- so the first newline that ends a field is the one after them
len_folded : (xs rest : List ℕ) → AreFolded xs → begins_with_blank rest ≡ false → field_len (xs ++ newline ∷ rest) ≡ length xs + 1
len_folded [] rest f e = rw e refl
len_folded (b ∷ bs) rest f e = go (b == newline) refl (len_folded bs rest f.1 e)
  where
    go : (c : Bool) → (b == newline) ≡ c → field_len (bs ++ newline ∷ rest) ≡ length bs + 1 → cond (c && not (begins_with_blank (bs ++ newline ∷ rest))) 1 (1 + field_len (bs ++ newline ∷ rest)) ≡ length (b ∷ bs) + 1
    go true is h = rw (begins_more bs (newline ∷ rest) (f.0 is)) (ap (λ n. 1 + n) h ∙ omega arith)
    go false is h = ap (λ n. 1 + n) h ∙ omega arith

first_of_lines : (c : ℕ) (lines : List Line) → list_all is_continuation (with_byte c lines) ≡ true → is_blank_byte c ≡ true
first_of_lines c [] all = (and_parts (is_blank_byte c) (not (is_blank (c ∷ []))) (and_parts (is_continuation (c ∷ [])) (list_all is_continuation []) all).0).0
first_of_lines c (line ∷ lines) all = (and_parts (is_blank_byte c) (not (is_blank (c ∷ line))) (and_parts (is_continuation (c ∷ line)) (list_all is_continuation lines) all).0).0

first_blank : (bs : List ℕ) → list_all is_continuation (pieces_of bs) ≡ true → begins_with_blank bs ≡ true
first_blank [] all = absurd (false≢true all)
first_blank (c ∷ cs) all = go (c == newline) all
  where
    go : (e : Bool) → list_all is_continuation (cond e ([] ∷ pieces_of cs) (with_byte c (pieces_of cs))) ≡ true → is_blank_byte c ≡ true
    go true all = absurd (false≢true all)
    go false all = first_of_lines c (pieces_of cs) all

rest_all : (lines : List Line) → list_all is_continuation lines ≡ true → list_all is_continuation (drop 1 lines) ≡ true
rest_all [] all = all
rest_all (line ∷ lines) all = (and_parts (is_continuation line) (list_all is_continuation lines) all).1

drop_with : (b : ℕ) (lines : List Line) → drop 1 (with_byte b lines) ≡ drop 1 lines
drop_with b [] = refl
drop_with b (line ∷ lines) = refl

body_folded : (body : List ℕ) → list_all is_continuation (drop 1 (pieces_of body)) ≡ true → AreFolded body
body_folded [] all = tt
body_folded (b ∷ bs) all = go (b == newline) refl all (body_folded bs)
  where
    go : (c : Bool) → (b == newline) ≡ c → list_all is_continuation (drop 1 (cond c ([] ∷ pieces_of bs) (with_byte b (pieces_of bs)))) ≡ true → (list_all is_continuation (drop 1 (pieces_of bs)) ≡ true → AreFolded bs) → ((b == newline) ≡ true → begins_with_blank bs ≡ true) × AreFolded bs
    go true is all h = ((λ _. first_blank bs all), h (rest_all (pieces_of bs) all))
    go false is all h = ((λ e. absurd (false≢true (sym is ∙ e))), h (ap (list_all is_continuation) (sym (drop_with b (pieces_of bs))) ∙ all))

folded_behind : (body : List ℕ) → AreFolded body → AreFolded (behind_colon body)
folded_behind [] f = tt
folded_behind (b ∷ bs) f = go (b == newline)
  where
    go : (c : Bool) → AreFolded (cond c (b ∷ bs) (32 ∷ b ∷ bs))
    go true = f
    go false = ((λ e. absurd (false≢true e)), f)

name_byte_not_newline : (b : ℕ) → is_name_byte b ≡ true → (b == newline) ≡ false
name_byte_not_newline b h = grind (arith, nat_tests)

name_byte_not_blank : (b : ℕ) → is_name_byte b ≡ true → is_blank_byte b ≡ false
name_byte_not_blank b h = grind (arith, nat_tests)

name_byte_not_colon : (b : ℕ) → is_name_byte b ≡ true → not (b == 58) ≡ true
name_byte_not_colon b h = grind (arith, nat_tests)

-- a field's text without its last newline
abbrev entry_text : List ℕ × List ℕ → List ℕ
entry_text entry = entry.0 ++ colon ∷ behind_colon entry.1

entry_folded : (entry : List ℕ × List ℕ) → IsCut entry → AreFolded (entry_text entry)
entry_folded entry is =
    let parts = and_parts (not (begins_with_blank entry.1) && not (ends_with_blank entry.1)) (list_all is_continuation (drop 1 (pieces_of entry.1))) is.shape in
    folded-plain entry.0 (colon ∷ behind_colon entry.1) (each_from_list_all is_name_byte (λ b. (b == newline) ≡ false) name_byte_not_newline entry.0 (each_name_byte entry.0 is.name))
    ((λ e. absurd (false≢true e)), folded_behind entry.1 (body_folded entry.1 parts.1))

name_first : (name text more : List ℕ) → IsTrue (is_name name) → begins_with_blank ((name ++ text) ++ more) ≡ false
name_first [] text more h = absurd (false≢true h)
name_first (b ∷ bs) text more h = name_byte_not_blank b (and_parts (is_name_byte b) (list_all is_name_byte bs) (each_name_byte (b ∷ bs) h)).0

text_begins : (entries : Entries) → AllByRecursion IsCut entries → begins_with_blank (paragraph_text entries) ≡ false
text_begins [] each = refl
text_begins (entry ∷ entries) each = name_first entry.0 (colon ∷ (behind_colon entry.1 ++ newline ∷ [])) (paragraph_text entries) each.0.name

-- the first field ends where its text does
pub len_first : (entry : List ℕ × List ℕ) (entries : Entries) → AllByRecursion IsCut (entry ∷ entries) → field_len (field_text entry ++ paragraph_text entries) ≡ length (field_text entry)
len_first entry entries each =
    let text = entry_text entry in
    let own : field_text entry ≡ text ++ newline ∷ [] = sym (append_assoc entry.0 (colon ∷ behind_colon entry.1) (newline ∷ [])) in
    let whole : field_text entry ++ paragraph_text entries ≡ text ++ newline ∷ paragraph_text entries = ap (λ l. l ++ paragraph_text entries) own ∙ append_assoc text (newline ∷ []) (paragraph_text entries) in
    ap field_len whole ∙ len_folded text (paragraph_text entries) (entry_folded entry each.0) (text_begins entries each.1) ∙ sym (ap length own ∙ length-append text (newline ∷ []))

name_ends : (name text : List ℕ) → AllByRecursion (λ b. not (b == 58) ≡ true) name → prefix_len (λ b. not (b == 58)) (name ++ colon ∷ text) ≡ length name
name_ends [] text each = refl
name_ends (b ∷ bs) text each = rw each.0 (ap (λ n. 1 + n) (name_ends bs text each.1) ∙ omega arith)

-- and its name before the first colon
pub name_len_first : (entry : List ℕ × List ℕ) → IsCut entry → prefix_len (λ b. not (b == 58)) (field_text entry) ≡ length entry.0
name_len_first entry is = name_ends entry.0 (behind_colon entry.1 ++ newline ∷ []) (each_from_list_all is_name_byte (λ b. not (b == 58) ≡ true) name_byte_not_colon entry.0 (each_name_byte entry.0 is.name))

-- entries of a map of borrowed texts
abbrev pub Lents : Type 0
Lents = List (Bor (List ℕ) × Bor (List ℕ))

pub insert_now : (cmp : Bor (List ℕ) → Bor (List ℕ) → Ordering) → ((a b : Bor (List ℕ)) → cmp a b ≡ byte_order a.now b.now) → (entries : Lents) (k v : Bor (List ℕ)) → texts_in (insert_entry cmp entries k v) ≡ insert_entry byte_order (texts_in entries) k.now v.now
insert_now cmp same [] k v = refl
insert_now cmp same (e ∷ entries) k v = rw (same k e.0) (go (byte_order k.now e.0.now) (insert_now cmp same entries k v))
  where
    go : (o : Ordering) → texts_in (insert_entry cmp entries k v) ≡ insert_entry byte_order (texts_in entries) k.now v.now → texts_in (match_ordering o ((k, v) ∷ e ∷ entries) ((e.0, v) ∷ entries) (e ∷ insert_entry cmp entries k v)) ≡ match_ordering o ((k.now, v.now) ∷ (e.0.now, e.1.now) ∷ texts_in entries) ((e.0.now, v.now) ∷ texts_in entries) ((e.0.now, e.1.now) ∷ insert_entry byte_order (texts_in entries) k.now v.now)
    go Less h = refl
    go Equal h = refl
    go Greater h = ap (λ l. (e.0.now, e.1.now) ∷ l) h

-- a look-up by bytes among borrowed keys
pub found_now : (compare : Bor (List ℕ) → Ordering) (name : List ℕ) → ((q : Bor (List ℕ)) → compare q ≡ byte_order name q.now) → (entries : Lents) → option_map (λ t. t.now) (lookup (is_at compare) entries) ≡ find byte_order name (texts_in entries)
found_now compare name same [] = refl
found_now compare name same (e ∷ entries) = rw (same e.0) (go (is_eq (byte_order name e.0.now)) (found_now compare name same entries))
  where
    go : (b : Bool) → option_map (λ t. t.now) (lookup (is_at compare) entries) ≡ find byte_order name (texts_in entries) → option_map (λ t. t.now) (cond b (Some e.1) (lookup (is_at compare) entries)) ≡ cond b (Some e.1.now) (find byte_order name (texts_in entries))
    go true h = refl
    go false h = h

take_front : (xs ys : List ℕ) → take (length xs) (xs ++ ys) ≡ xs
take_front [] ys = refl
take_front (x ∷ xs) ys = ap (λ l. x ∷ l) (take_front xs ys)

drop_front : (xs ys : List ℕ) → drop (length xs) (xs ++ ys) ≡ ys
drop_front [] ys = refl
drop_front (x ∷ xs) ys = drop_front xs ys

-- the first field of a text that is cut where its length and that of its name say
pub first_cut : (text field : List ℕ) (n m : ℕ) (entries : Entries) (first : First) → AllByRecursion IsCut entries → text ≡ paragraph_text entries → (length text == 0) ≡ false → n ≡ field_len text → field ≡ take n text → first.rest.now ≡ drop n text
    → m ≡ prefix_len (λ b. not (b == 58)) field → first.name.now ≡ take m field → first.body.now ≡ drop m field → IsFirst entries (Some first)
first_cut text field n m [] first each is some len front back name_is key value = absurd (false≢true (sym some ∙ ap (λ l. length l == 0) is))
first_cut text field n m (entry ∷ entries) first each is some len front back name_is key value =
    let own = field_text entry in
    let tail = colon ∷ (behind_colon entry.1 ++ newline ∷ []) in
    let n_is : n ≡ length own = len ∙ ap field_len is ∙ len_first entry entries each in
    let field_is : field ≡ own = front ∙ ap (λ i. take i text) n_is ∙ ap (take (length own)) is ∙ take_front own (paragraph_text entries) in
    let m_is : m ≡ length entry.0 = name_is ∙ ap (prefix_len (λ b. not (b == 58))) field_is ∙ name_len_first entry each.0 in
    record {
      name = key ∙ ap (λ i. take i field) m_is ∙ ap (take (length entry.0)) field_is ∙ take_front entry.0 tail;
      body = value ∙ ap (λ i. drop i field) m_is ∙ ap (drop (length entry.0)) field_is ∙ drop_front entry.0 tail;
      rest = back ∙ ap (λ i. drop i text) n_is ∙ ap (drop (length own)) is ∙ drop_front own (paragraph_text entries);
    }

-- The fields so far were added, and these are to come.
pub record Adds (initial : Lents) (entries : Entries) (text : List ℕ) (now : Lents) : Type 0 where
  pub rest : Entries
  pub each : AllByRecursion IsCut rest
  pub text_is : text ≡ paragraph_text rest
  pub fields : fields_of_both (texts_in now) (map rest_of rest) ≡ fields_of_both (texts_in initial) (map rest_of entries)

-- at the end none is to come
pub adds_all : (initial : Lents) (entries : Entries) (text : List ℕ) (now : Lents) (adds : Adds initial entries text now) → IsFirst adds.rest None → texts_in now ≡ fields_of_both (texts_in initial) (map rest_of entries)
adds_all initial entries text now adds none = go adds.rest none adds.fields
  where
    go : (rest : Entries) → IsFirst rest None → fields_of_both (texts_in now) (map rest_of rest) ≡ fields_of_both (texts_in initial) (map rest_of entries) → texts_in now ≡ fields_of_both (texts_in initial) (map rest_of entries)
    go [] is fields = fields
    go (entry ∷ rest) is fields = absurd is

-- one field more
pub adds_more : (initial : Lents) (entries : Entries) (text : List ℕ) (now new : Lents) (first : First) (adds : Adds initial entries text now) → IsFirst adds.rest (Some first)
    → texts_in new ≡ insert_entry byte_order (texts_in now) first.name.now first.body.now → Adds initial entries first.rest.now new
adds_more initial entries text now new first adds is inserted = go adds.rest adds.each is adds.fields
  where
    go : (rest : Entries) → AllByRecursion IsCut rest → IsFirst rest (Some first) → fields_of_both (texts_in now) (map rest_of rest) ≡ fields_of_both (texts_in initial) (map rest_of entries) → Adds initial entries first.rest.now new
    go [] each is fields = absurd is
    go (entry ∷ rest) each is fields = record {
      rest = rest;
      each = each.1;
      text_is = is.rest;
      fields = ap (λ l. fields_of_both l (map rest_of rest)) (inserted ∙ ap (λ a. insert_entry byte_order (texts_in now) a first.body.now) is.name ∙ ap (insert_entry byte_order (texts_in now) entry.0) is.body) ∙ fields;
    }
