-- Fields that pass the test of a paragraph's fields: those that lines spell.
use Rattle.deb_syntax.proofs.Common.{◌≡◌, ℕ, zero, suc, ◌+◌, ◌<◌, ◌≤◌, true, not, List, [], ◌∷◌, ◌++◌, length, leb, get_or, subst, refl, ap, arith, Ok, IsUtf8, AllByRecursion, list_all, and_parts, and_from, le-leb, Line, IsBody, is_body, paragraph_limit, pieces_of, is_name, IsBody-from_test, is_body-from_IsBody, Paragraph, total_length, Field, SpellsField, SpellsFields, SpellsParagraph, AreDistinct, is_field, are_fields, are_numbered, judged, AreNotBlank, field_at, fields_at, FieldSpan}
use Rattle.deb_syntax.proofs.FieldBytes.{IsUtf8-body}
use Rattle.deb_syntax.proofs.JudgingLaws.{all_left, all_right}
use Rattle.deb_syntax.proofs.JudgingLawsRefusals.{not_blank-solid}
use Rattle.deb_syntax.proofs.JudgingLawsRefusals.{judged-sound_from}
use Rattle.deb_syntax.proofs.LinesLawsTexts.{pieces_of-no_newline}

is_field-from_spells : (own : List Line) (field : Field) → AllByRecursion IsUtf8 own → SpellsField own field → is_field field ≡ true
is_field-from_spells own field text spells =
    and_from _ _ spells.name (is_body-from_IsBody field.body (record { shape = spells.body; text = IsUtf8-body own field text spells }))

are_fields-from : (fields : List Field) (n : ℕ) (lines : List Line) → AllByRecursion IsUtf8 lines → SpellsFields n lines fields → AreDistinct fields → are_fields fields ≡ true
are_fields-from [] n lines text spelt distinct = refl
are_fields-from (field ∷ fields) n lines text spelt distinct =
    let text' : AllByRecursion IsUtf8 (spelt.0 ++ spelt.1) = subst (AllByRecursion IsUtf8) spelt.2 text in
    let rest = are_fields-from fields (n + length spelt.0) spelt.1 (all_right IsUtf8 spelt.0 spelt.1 text') spelt.5 distinct.1 in
    and_from _ _ (and_from _ _ (is_field-from_spells spelt.0 field (all_left IsUtf8 spelt.0 spelt.1 text') spelt.4) (ap not distinct.0)) rest

-- the fields that a paragraph's lines spell
pub are_fields-from_spells : (paragraph : Paragraph) (fields : List Field) → SpellsParagraph paragraph fields → are_fields fields ≡ true
are_fields-from_spells paragraph fields s = are_fields-from fields paragraph.first paragraph.lines s.text s.spelt s.distinct

-- what is judged of the pieces of a text, none blank and within the limit
pub are_fields-judged : (n : ℕ) (text : List ℕ) (fields : List Field) → AreNotBlank (pieces_of text) → total_length (pieces_of text) ≤ paragraph_limit → judged n (pieces_of text) ≡ Ok fields → are_fields fields ≡ true
are_fields-judged n text fields not_blank short is =
    are_fields-from_spells _ fields (judged-sound_from n (pieces_of text) fields (pieces_of-no_newline text) (not_blank-solid (pieces_of text) not_blank short) is)

numbered-from : (fields : List Field) (n : ℕ) (lines : List Line) → 1 ≤ n → SpellsFields n lines fields → list_all (λ field. leb 1 field.line) fields ≡ true
numbered-from [] n lines some spelt = refl
numbered-from (field ∷ fields) n lines some spelt =
    and_from _ _ (le-leb 1 field.line (omega (arith, spelt.3, some))) (numbered-from fields (n + length spelt.0) spelt.1 (omega (arith, some)) spelt.5)

-- and their lines are counted from 1 where the first is
pub are_numbered-judged : (n : ℕ) (text : List ℕ) (fields : List Field) → 1 ≤ n → AreNotBlank (pieces_of text) → total_length (pieces_of text) ≤ paragraph_limit → judged n (pieces_of text) ≡ Ok fields → are_numbered n fields ≡ true
are_numbered-judged n text fields some not_blank short is =
    let spells = judged-sound_from n (pieces_of text) fields (pieces_of-no_newline text) (not_blank-solid (pieces_of text) not_blank short) is in
    and_from _ _ (le-leb 1 n some) (numbered-from fields n (pieces_of text) some spells.spelt)

-- the field in one of the spans
pub is_field-at : (text : List ℕ) (spans : List FieldSpan) (i : ℕ) (d : FieldSpan) → i < length spans → are_fields (fields_at text spans) ≡ true → is_field (field_at text (get_or spans i d)) ≡ true
is_field-at text [] i d h are = absurd (omega arith)
is_field-at text (p ∷ ps) zero d h are =
    (and_parts (is_field (field_at text p)) _ (and_parts _ (are_fields (fields_at text ps)) are).0).0
is_field-at text (p ∷ ps) (suc i) d h are = is_field-at text ps i d (omega arith) (and_parts _ (are_fields (fields_at text ps)) are).1

-- the parts of the test of one field
pub is_field-body : (field : Field) → is_field field ≡ true → IsBody field.body
is_field-body field h = IsBody-from_test field.body (and_parts (is_name field.name) (is_body field.body) h).1

pub ruleset testing = (is_field-at, is_field-body)
