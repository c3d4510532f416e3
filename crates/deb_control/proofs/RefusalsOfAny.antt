-- The refusal of control data whose values aren't judged: its code is one of a text.
use Rattle.deb_control.proofs.Common.{◌≡◌, ℕ, ◌≤◌, not, nat_le, Bool, true, false, cond, List, [], ◌∷◌, ◌++◌, length, drop, Option, None, Some, Result, Ok, Err, refl, sym, ap, subst, ◌∙◌, arith, paragraph_limit, number_of, canonical_name, FileTooLong, ParagraphTooLong, Refusal, Seen, line_beyond, answer_of_first, paragraphs_within, Field, Paragraph, file_limit, Entries, next_answer-refusal, fields_of_any_are_texts, kind_refusal, value_refusal, Any, paragraph_text, file_text, rules_of, RefusalsOfAnyAreOfText, refusal_or, value_refusal_of, canonical_entries, refused_or_built, built, within_file, answer_of_seen, answer_behind, line_behind}
use Rattle.deb_control.proofs.RefusalLines.{same_refusal, refused_behind}

abbrev IsOfText : Refusal → Type 0
IsOfText refusal = number_of refusal.code ≤ 9

unjudged : (name body : List ℕ) → value_refusal Any name body ≡ None
unjudged name body = ap (λ kind. kind_refusal kind body) (fields_of_any_are_texts name)

all_unjudged : (fields : List Field) → value_refusal_of (rules_of Any) fields ≡ None
all_unjudged [] = refl
all_unjudged (field ∷ fields) =
    ap (λ o. refusal_or o field.line (value_refusal_of (rules_of Any) fields)) (unjudged (canonical_name field.name) field.body)
    ∙ all_unjudged fields

-- of a paragraph by itself only the length of its canonical text is left
built-of_text : (seen : Seen) (refusal : Refusal) → built (rules_of Any) seen ≡ Err refusal → IsOfText refusal
built-of_text seen refusal h =
    short (nat_le (length (paragraph_text (canonical_entries (rules_of Any) seen.fields))) paragraph_limit)
    (sym (ap (refused_or_built (rules_of Any) seen) (all_unjudged seen.fields)) ∙ h)
  where
    short : (t : Bool) → cond {A = Result Entries Refusal} (not t) (Err (record { code = ParagraphTooLong; line = seen.first })) (Ok (canonical_entries (rules_of Any) seen.fields)) ≡ Err refusal → IsOfText refusal
    short false e = subst IsOfText (same_refusal _ _ _ refl e) (omega arith)
    short true e = absurd (cc)

-- and after other paragraphs that of the file's
within-of_text : (front : List Entries) (seen : Seen) (refusal : Refusal) → within_file front seen.first (built (rules_of Any) seen) ≡ Err refusal → IsOfText refusal
within-of_text front seen refusal h = go (built (rules_of Any) seen) refl h
  where
    long : (t : Bool) (entries : Entries) → cond {A = Result (Option Entries) Refusal} (not t) (Err (record { code = FileTooLong; line = seen.first })) (Ok (Some entries)) ≡ Err refusal → IsOfText refusal
    long false entries e = subst IsOfText (same_refusal _ _ _ refl e) (omega arith)
    long true entries e = absurd (cc)

    go : (b : Result Entries Refusal) → built (rules_of Any) seen ≡ b → within_file front seen.first b ≡ Err refusal → IsOfText refusal
    go (Err other) is e = subst IsOfText (same_refusal (Err other) other refusal refl e) (built-of_text seen other is)
    go (Ok entries) is e = long (nat_le (length (file_text (front ++ entries ∷ []))) file_limit) entries e

seen-of_text : (n : ℕ) (front : List Entries) (s : Result (Option Seen) Refusal) (refusal : Refusal) → ((other : Refusal) → s ≡ Err other → IsOfText other) → answer_of_seen (rules_of Any) n front s ≡ Err refusal → IsOfText refusal
seen-of_text n front (Err other) refusal of e = subst IsOfText (same_refusal (Err other) other refusal refl e) (of other refl)
seen-of_text n front (Ok None) refusal of e = absurd (cc)
seen-of_text n front (Ok (Some seen)) refusal of e = within-of_text front seen refusal e

behind-of_text : (beyond : Option ℕ) (n : ℕ) (front : List Entries) (left : List Paragraph) (refusal : Refusal) → ((other : Refusal) → answer_of_first beyond left ≡ Err other → IsOfText other) → answer_behind (rules_of Any) beyond n front left ≡ Err refusal → IsOfText refusal
behind-of_text beyond n front [] refusal of e = seen-of_text n front (answer_of_first beyond []) refusal of e
behind-of_text beyond n front (p ∷ left) refusal of e = seen-of_text n front (answer_of_first beyond (p ∷ left)) refusal of e

pub refusal_of_any : RefusalsOfAnyAreOfText
refusal_of_any text refusal h =
    let found = refused_behind (rules_of Any) text [] (paragraphs_within text) refusal refl h in
    behind-of_text (line_beyond 1 file_limit text) (line_behind text) found.0 (drop (length found.0) (paragraphs_within text)) refusal
    (λ other e. (next_answer-refusal text (length found.0) other e).most) found.1
