-- The judging of a paragraph's lines is the grammar of fields: what the lines spell is what is judged.
use Rattle.deb_syntax.proofs.Common.{◌≡◌, ◌≢◌, ℕ, ◌+◌, suc, true, false, not, ◌&&◌, cond, List, [], ◌∷◌, ◌++◌, length, map, drop, refl, sym, ap, ◌∙◌, subst, arith, append_assoc, length-append, Result, Ok, Err, IsUtf8, and_parts, not-true, cond-false, length_push, map_push, nat_list_eq_equiv, AllByRecursion, bytes_eq, BadFieldName, DuplicateField, Refusal, Line, newline, with_byte, pieces_of, joined, HasNoNewline, begins_with_blank, ends_with_blank, Field, SpellsField, SpellsFields, has_name, AreDistinct, SpellsParagraph, colon, is_name, with_text, ended, continued, begins_armour, begins_comment, has_colon, field_line, continuation_line, line_judged, lines_judged, judged, trimmed, trimmed-between}
use Rattle.std.proofs.Common.{append-nil}
use Rattle.deb_syntax.proofs.DistinctNames.{has_name-distinct, has_name-ended}
use Rattle.deb_syntax.proofs.Judgements.{line_judged-continuation, line_judged-field}
use Rattle.deb_syntax.proofs.LinesLaws.{with_front, pieces_of-some, pieces_of-front, pieces_of-joined, joined-pieces_of}
use Rattle.deb_syntax.proofs.JudgingLawsTexts.{BeginsWithBlank, later_pieces-body, begun-field, begins_with_blank-field, begins_armour-field, begins_comment-field, has_colon-field, name-no_newline}

pub all_left : {X : Type 0} (P : X → Type 0) (xs ys : List X) → AllByRecursion P (xs ++ ys) → AllByRecursion P xs
all_left P [] ys h = tt
all_left P (x ∷ xs) ys h = (h.0, all_left P xs ys h.1)

pub all_right : {X : Type 0} (P : X → Type 0) (xs ys : List X) → AllByRecursion P (xs ++ ys) → AllByRecursion P ys
all_right P [] ys h = h
all_right P (x ∷ xs) ys h = all_right P xs ys h.1

pub push-append : {X : Type 0} (xs : List X) (x : X) (ys : List X) → (xs ++ x ∷ []) ++ ys ≡ xs ++ x ∷ ys
push-append xs x ys = append_assoc xs (x ∷ []) ys

pub bytes_eq-swap : (a b : List ℕ) → bytes_eq a b ≡ false → bytes_eq b a ≡ false
bytes_eq-swap a b h = nat_list_eq_equiv.symm b a ∙ h

-- The lines of a field: its name and a colon with more after it, and lines that begin with a blank.
record IsFieldLines (own : List Line) (name text : List ℕ) : Type 0 where
  pub more : List ℕ
  pub rest : List Line
  pub is : own ≡ (name ++ colon ∷ more) ∷ rest
  pub joins : text ≡ joined (more ∷ rest)
  pub begin : AllByRecursion BeginsWithBlank rest

-- the lines of a field that is spelled
field_lines : (own : List Line) (field : Field) → AllByRecursion HasNoNewline own → (s : SpellsField own field) → IsFieldLines own field.name (s.before ++ (field.body ++ s.after))
field_lines [] field none s = absurd (omega (arith, ap length s.spelt, length-append field.name (colon ∷ (s.before ++ (field.body ++ s.after)))))
field_lines (line ∷ lines) field none s =
    let text : List ℕ = s.before ++ (field.body ++ s.after) in
    let some = pieces_of-some text in
    record {
      more = some.0;
      rest = some.1;
      is = sym (pieces_of-joined line lines none) ∙ ap pieces_of s.spelt ∙ pieces_of-front field.name (colon ∷ text) (name-no_newline field.name s.name) ∙ ap (λ ls. with_front field.name (with_byte colon ls)) some.2;
      joins = sym (joined-pieces_of text) ∙ ap joined some.2;
      begin = subst (λ ls. AllByRecursion BeginsWithBlank (drop 1 ls)) some.2 (later_pieces-body s.before field.body s.after s.before_blank s.after_blank s.body);
    }

-- continuation lines, one after another
abbrev pub extended : List Field → List Line → List Field
extended fields [] = fields
extended fields (line ∷ lines) = extended (continued fields line) lines

continued-push : (fields : List Field) (field : Field) (line : Line) → continued (fields ++ field ∷ []) line ≡ fields ++ with_text field (field.body ++ newline ∷ line) ∷ []
continued-push [] field line = refl
continued-push (f ∷ []) field line = refl
continued-push (f ∷ g ∷ fields) field line = ap (λ fs. f ∷ fs) (continued-push (g ∷ fields) field line)

pub continuation_line-push : (n : ℕ) (fields : List Field) (field : Field) (line : Line) → continuation_line n (fields ++ field ∷ []) line ≡ Ok (fields ++ with_text field (field.body ++ newline ∷ line) ∷ [])
continuation_line-push n [] field line = refl
continuation_line-push n (f ∷ fields) field line = ap Ok (continued-push (f ∷ fields) field line)

joined-grow : (text line : List ℕ) (lines : List Line) → joined ((text ++ newline ∷ line) ∷ lines) ≡ joined (text ∷ line ∷ lines)
joined-grow text line [] = refl
joined-grow text line (next ∷ lines) = append_assoc text (newline ∷ line) (newline ∷ joined (next ∷ lines))

-- they go to the last field
pub extended-push : (lines : List Line) (fields : List Field) (field : Field) → extended (fields ++ field ∷ []) lines ≡ fields ++ with_text field (joined (field.body ∷ lines)) ∷ []
extended-push [] fields field = refl
extended-push (line ∷ lines) fields field =
    ap (λ fs. extended fs lines) (continued-push fields field line)
    ∙ extended-push lines fields (with_text field (field.body ++ newline ∷ line))
    ∙ ap (λ t. fields ++ with_text field t ∷ []) (joined-grow field.body line lines)

continued-some : (fields : List Field) (line : Line) → fields ≢ [] → continued fields line ≢ []
continued-some [] line some = some
continued-some (f ∷ []) line some = λ e. cc
continued-some (f ∷ g ∷ fields) line some = λ e. cc

line_judged-goes_on : (n : ℕ) (fields : List Field) (line : Line) → fields ≢ [] → begins_with_blank line ≡ true → IsUtf8 line → line_judged n fields line ≡ Ok (continued fields line)
line_judged-goes_on n [] line some blank text = absurd (some refl)
line_judged-goes_on n (f ∷ fields) line some blank text = line_judged-continuation n (f ∷ fields) line text blank

lines_judged-goes_on : (rest more : List Line) (n : ℕ) (fields : List Field) → fields ≢ [] → AllByRecursion BeginsWithBlank rest → AllByRecursion IsUtf8 rest → lines_judged n (Ok fields) (rest ++ more) ≡ lines_judged (n + length rest) (Ok (extended fields rest)) more
lines_judged-goes_on [] more n fields some blank text = ap (λ k. lines_judged k (Ok fields) more) (let e : n ≡ n + 0 = omega arith in e)
lines_judged-goes_on (line ∷ rest) more n fields some blank text =
    ap (λ r. lines_judged (n + 1) r (rest ++ more)) (line_judged-goes_on n fields line some blank.0 text.0)
    ∙ lines_judged-goes_on rest more (n + 1) (continued fields line) (continued-some fields line some) blank.1 text.1
    ∙ ap (λ k. lines_judged k (Ok (extended fields (line ∷ rest))) more) (let e : n + 1 + length rest ≡ n + suc (length rest) = omega arith in e)

-- a line that begins with a name and a colon
pub field_line-name : (n : ℕ) (fields : List Field) (name more : List ℕ) → is_name name ≡ true → field_line n fields (name ++ colon ∷ more) ≡ cond (has_name name fields) (Err (record { code = DuplicateField; line = n })) (Ok (fields ++ record { name = name; line = n; body = more } ∷ []))
field_line-name n fields name more good =
    let line : Line = name ++ colon ∷ more in
    let judges : Field → Result (List Field) Refusal = λ f. cond (not (is_name f.name)) (Err (record { code = BadFieldName; line = n })) (cond (has_name f.name fields) (Err (record { code = DuplicateField; line = n })) (Ok (fields ++ f ∷ []))) in
    cond-false (begins_armour line) _ _ (begins_armour-field name more good)
    ∙ cond-false (begins_comment line) _ _ (begins_comment-field name more good)
    ∙ cond-false (not (has_colon line)) _ _ (ap not (has_colon-field name more))
    ∙ ap judges (begun-field n name more good)
    ∙ cond-false (not (is_name name)) _ _ (ap not good)

-- the lines of a field give the field
lines_judged-own : (own more : List Line) (n : ℕ) (done : List Field) (field : Field) → AllByRecursion HasNoNewline own → AllByRecursion IsUtf8 own → field.line ≡ n → has_name field.name done ≡ false → SpellsField own field → (raw : Field) × (ended raw ≡ field) × (lines_judged n (Ok done) (own ++ more) ≡ lines_judged (n + length own) (Ok (done ++ raw ∷ [])) more)
lines_judged-own own more n done field none text first new s =
    let l = field_lines own field none s in
    let begins : Field = record { name = field.name; line = n; body = l.more } in
    let raw : Field = with_text begins (joined (l.more ∷ l.rest)) in
    let utf8 : AllByRecursion IsUtf8 ((field.name ++ colon ∷ l.more) ∷ l.rest) = subst (AllByRecursion IsUtf8) l.is text in
    let shape = and_parts (not (begins_with_blank field.body) && not (ends_with_blank field.body)) _ s.body in
    let ends = and_parts (not (begins_with_blank field.body)) (not (ends_with_blank field.body)) shape.0 in
    let body : trimmed (joined (l.more ∷ l.rest)) ≡ field.body = ap trimmed (sym l.joins) ∙ trimmed-between s.before field.body s.after s.before_blank s.after_blank (not-true (begins_with_blank field.body) ends.0) (not-true (ends_with_blank field.body) ends.1) in
    let same : ended raw ≡ field = λ i. record { name = field.name; line = sym first i; body = body i } in
    let count : n + 1 + length l.rest ≡ n + length own = (let e : n + 1 + length l.rest ≡ n + suc (length l.rest) = omega arith in e) ∙ ap (λ ls. n + length ls) (sym l.is) in (
      raw,
      same,
      ap (λ ls. lines_judged n (Ok done) (ls ++ more)) l.is
          ∙ ap (λ r. lines_judged (n + 1) r (l.rest ++ more)) (line_judged-field n done _ utf8.0 (begins_with_blank-field field.name l.more s.name) ∙ field_line-name n done field.name l.more s.name ∙ cond-false (has_name field.name done) _ _ new)
          ∙ lines_judged-goes_on l.rest more (n + 1) (done ++ begins ∷ []) (λ e. absurd (omega (arith, ap length e, length_push done begins))) l.begin utf8.1
          ∙ ap (λ fs. lines_judged (n + 1 + length l.rest) (Ok fs) more) (extended-push l.rest done begins)
          ∙ ap (λ k. lines_judged k (Ok (done ++ raw ∷ [])) more) count,
    )

-- what the lines spell is judged
complete_from : (fields : List Field) (lines : List Line) (n : ℕ) (done : List Field) → AllByRecursion HasNoNewline lines → AllByRecursion IsUtf8 lines → SpellsFields n lines fields → AreDistinct (map ended done ++ fields) → lines_judged n (Ok done) lines ≡ Ok (map ended done ++ fields)
complete_from [] lines n done none text s d = ap (lines_judged n (Ok done)) s ∙ ap Ok (sym (append-nil (map ended done)))
complete_from (field ∷ fields) lines n done none text s d =
    let none' : AllByRecursion HasNoNewline (s.0 ++ s.1) = subst (AllByRecursion HasNoNewline) s.2 none in
    let text' : AllByRecursion IsUtf8 (s.0 ++ s.1) = subst (AllByRecursion IsUtf8) s.2 text in
    let new : has_name field.name done ≡ false = sym (has_name-ended field.name done) ∙ has_name-distinct (map ended done) field fields d in
    let step = lines_judged-own s.0 s.1 n done field (all_left HasNoNewline s.0 s.1 none') (all_left IsUtf8 s.0 s.1 text') s.3 new s.4 in
    let same : map ended (done ++ step.0 ∷ []) ++ fields ≡ map ended done ++ field ∷ fields = ap (λ fs. fs ++ fields) (map_push ended done step.0) ∙ push-append (map ended done) (ended step.0) fields ∙ ap (λ f. map ended done ++ f ∷ fields) step.1 in
    ap (lines_judged n (Ok done)) s.2
    ∙ step.2
    ∙ complete_from fields s.1 (n + length s.0) (done ++ step.0 ∷ []) (all_right HasNoNewline s.0 s.1 none') (all_right IsUtf8 s.0 s.1 text') s.5 (subst AreDistinct (sym same) d)
    ∙ ap Ok same

-- the fields that the lines of a paragraph spell are those that are judged
pub judged-complete : (n : ℕ) (lines : List Line) (fields : List Field) → AllByRecursion HasNoNewline lines → SpellsParagraph (record { first = n; lines = lines }) fields → judged n lines ≡ Ok fields
judged-complete n lines fields none s = complete_from fields lines n [] none s.text s.spelt s.distinct
