-- What is written of one more paragraph.
use Rattle.std.proofs.Common.{◌≡◌, ℕ, ◌&&◌, Bool, true, false, cond, List, [], ◌∷◌, ◌++◌, length, Some, slice_get, refl, sym, ap, ◌∙◌, append_assoc, append-nil, arith}
use Rattle.deb_syntax.specs.Lines.{Paragraph}
use Rattle.deb_field.specs.Values.{ValueMeaning}
use Rattle.deb_control.specs.Documents.{Meaning}
use Rattle.deb_control.specs.ValueFiles.{ValueEntries}
use Rattle.std.specs.List.{list_all}
use Rattle.deb_select.specs.Conditions.{SelectionMeaning, selected, selects}
use Rattle.deb_select.specs.Forms.{FormMeaning, JsonLines, NoOutput, TableOf, TheseFields, WholeParagraphs, begins_if, begun_after, fills_if, full_in, output, piece_if}
use Rattle.deb_select.specs.Tables.{has_fields, is_full}

pub output-push : (form : FormMeaning) (begun : Bool) (asked : SelectionMeaning) (meaning : Meaning) (values : ValueEntries ValueMeaning) (ps : List Paragraph) (p : Paragraph) → slice_get ps (length meaning) ≡ Some p
    → output form begun asked (meaning ++ values ∷ []) ps ≡ output form begun asked meaning ps ++ piece_if form (begun_after form begun asked meaning ps) asked values p
output-push form begun asked [] values [] p at = absurd (cc)
output-push form begun asked [] values (q ∷ ps) p at =
    let same : q ≡ p = cc in
    append-nil (piece_if form begun asked values q) ∙ ap (piece_if form begun asked values) same
output-push form begun asked (first ∷ meaning) values [] p at = absurd (cc)
output-push form begun asked (first ∷ meaning) values (q ∷ ps) p at =
    let later = begins_if form begun asked first q in
    ap (λ l. piece_if form begun asked first q ++ l) (output-push form later asked meaning values ps p at)
    ∙ sym (append_assoc (piece_if form begun asked first q) (output form later asked meaning ps) (piece_if form (begun_after form later asked meaning ps) asked values p))

pub begun-push : (form : FormMeaning) (begun : Bool) (asked : SelectionMeaning) (meaning : Meaning) (values : ValueEntries ValueMeaning) (ps : List Paragraph) (p : Paragraph) → slice_get ps (length meaning) ≡ Some p
    → begun_after form begun asked (meaning ++ values ∷ []) ps ≡ begins_if form (begun_after form begun asked meaning ps) asked values p
begun-push form begun asked [] values [] p at = absurd (cc)
begun-push form begun asked [] values (q ∷ ps) p at =
    let same : q ≡ p = cc in
    ap (begins_if form begun asked values) same
begun-push form begun asked (first ∷ meaning) values [] p at = absurd (cc)
begun-push form begun asked (first ∷ meaning) values (q ∷ ps) p at = begun-push form (begins_if form begun asked first q) asked meaning values ps p at

-- whether all have the fields of the table

always : (t : Bool) → true ≡ cond t true true
always true = refl
always false = refl

pub and-true : (b : Bool) → (b && true) ≡ b
and-true true = refl
and-true false = refl

pub and-assoc : (a b c : Bool) → (a && (b && c)) ≡ ((a && b) && c)
and-assoc true b c = refl
and-assoc false b c = refl

table-push : (names : List (List ℕ)) (asked : SelectionMeaning) (meaning : Meaning) (values : ValueEntries ValueMeaning) → is_full names asked (meaning ++ values ∷ []) ≡ (is_full names asked meaning && cond (selects asked values) (has_fields names values) true)
table-push names asked [] values = go (selects asked values)
  where
    go : (t : Bool) → list_all (has_fields names) (cond t (values ∷ []) []) ≡ cond t (has_fields names values) true
    go true = and-true (has_fields names values)
    go false = refl
table-push names asked (first ∷ meaning) values = go (selects asked first) (table-push names asked meaning values)
  where
    last : Bool
    last = cond (selects asked values) (has_fields names values) true

    go : (t : Bool) → is_full names asked (meaning ++ values ∷ []) ≡ (is_full names asked meaning && last)
        → list_all (has_fields names) (cond t (first ∷ selected asked (meaning ++ values ∷ [])) (selected asked (meaning ++ values ∷ []))) ≡ (list_all (has_fields names) (cond t (first ∷ selected asked meaning) (selected asked meaning)) && last)
    go true is = ap (λ b. has_fields names first && b) is ∙ and-assoc (has_fields names first) (is_full names asked meaning) last
    go false is = is

pub full-push : (form : FormMeaning) (asked : SelectionMeaning) (meaning : Meaning) (values : ValueEntries ValueMeaning) → full_in form asked (meaning ++ values ∷ []) ≡ (full_in form asked meaning && fills_if form asked values)
full-push WholeParagraphs asked meaning values = always (selects asked values)
full-push (TheseFields names) asked meaning values = always (selects asked values)
full-push (TableOf names) asked meaning values = table-push names asked meaning values
full-push JsonLines asked meaning values = always (selects asked values)
full-push NoOutput asked meaning values = always (selects asked values)

pub full-none : (form : FormMeaning) (asked : SelectionMeaning) → true ≡ full_in form asked []
full-none WholeParagraphs asked = refl
full-none (TheseFields names) asked = refl
full-none (TableOf names) asked = refl
full-none JsonLines asked = refl
full-none NoOutput asked = refl

-- what is written of two files
pub outputs_follow : (form : FormMeaning) (begun : Bool) (asked : SelectionMeaning) (first second : Meaning) (ps others : List Paragraph) → length first ≡ length ps
    → output form begun asked (first ++ second) (ps ++ others) ≡ output form begun asked first ps ++ output form (begun_after form begun asked first ps) asked second others
outputs_follow form begun asked [] second [] others same = refl
outputs_follow form begun asked [] second (p ∷ ps) others same = absurd (omega (arith, same))
outputs_follow form begun asked (values ∷ first) second [] others same = absurd (omega (arith, same))
outputs_follow form begun asked (values ∷ first) second (p ∷ ps) others same =
    let later = begins_if form begun asked values p in
    ap (λ l. piece_if form begun asked values p ++ l) (outputs_follow form later asked first second ps others (omega (arith, same)))
    ∙ sym (append_assoc (piece_if form begun asked values p) (output form later asked first ps) (output form (begun_after form later asked first ps) asked second others))
