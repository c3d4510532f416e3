-- The words and relations of fields in spans of a buffer, and that they are those of the paragraph's values.
use Rattle.deb_control.proofs.Common.{◌≡◌, ℕ, ◌<◌, ◌≤◌, ◌==◌, Bool, true, false, List, [], ◌∷◌, ◌++◌, length, map, get_or, Option, None, Some, IfSome, refl, sym, ap, ◌∙◌, subst, arith, append_assoc, length-append, false≢true, find, canonical_name, Seen, byte_order, entries_of, Doc, kind_of_canonical_name, value_law, SpellsKind, SpellsValue, ValueMeaning, value_text, AreValuesOf, ValueEntries, Visit, VisitsValues, drop}
use Rattle.std.proofs.Common.{nat_lt, set}
use Rattle.std.proofs.lemmas.Bool.{eq-eqb, eqb-true, ltb-false, ltb-true}
use Rattle.std.proofs.lemmas.List.{drop_at, get_or-map, get_or-set_other, get_or_past, length-set, take-append-le, take_all}
use Rattle.std.proofs.lemmas.List.Sums.{fold-append}
use Rattle.std.proofs.lemmas.Grind.{get_or-set_at}
use Rattle.deb_base.specs.Kinds.{kind_at, kind_in, kind_of, known_fields, known_row, row_count}
use Rattle.deb_base.specs.declared.doc.Doc.TheVariants as docs
use Rattle.deb_base.specs.declared.kind.Kind.{Kind}
use Rattle.deb_base.specs.declared.kind.Kind.TheVariants as kinds
use Rattle.deb_base.proofs.FieldLookups.{same_rows}
use Rattle.deb_relation.specs.Regular.{IsRegularRelation}
use Rattle.deb_relation.specs.Texts.{relation_text}
use Rattle.deb_relation.proofs.Regular.{relation_regular}
use Rattle.deb_control.specs.FieldTexts.{HasTexts, KeepsText, KeepsTexts, part_of, relation_kept, span_at, word_kept}
use Rattle.deb_control.specs.FieldWords.{groups_in, groups_of, value_under, word_in, word_of}
use Rattle.deb_control.specs.ShownValues.{none_shown, shown_of, shown_with}
use Rattle.deb_control.specs.declared.field_texts.FieldTexts.{FieldTexts}
use Rattle.deb_control.specs.declared.field_texts.TextSpan.{TextSpan}
use Rattle.deb_control.proofs.ShownValues.{shown-spelled, shown-value}
use Rattle.deb_control.proofs.ValueBodies.{one_paragraph}

-- a part stays in a longer text
part-more : (bytes more : List ℕ) (from to : ℕ) → to ≤ length bytes → part_of (bytes ++ more) from to ≡ part_of bytes from to
part-more bytes more from to within = ap (drop from) (take-append-le to bytes more within)

-- the last part
part-last : (old bytes : List ℕ) (to : ℕ) → to ≡ length (old ++ bytes) → part_of (old ++ bytes) (length old) to ≡ bytes
part-last old bytes to is = ap (drop (length old)) (take_all to (old ++ bytes) (omega (arith, is))) ∙ drop_at old bytes (length old) refl

abbrev none : TextSpan
none = record { start = 0; word_end = 0; end = 0 }

-- none of them was visited
pub texts-none : (texts : FieldTexts) → texts.spans ≡ map (λ _. none) known_fields → KeepsTexts texts []
texts-none texts spans = record { rows = ap length spans; each = each }
  where
    at : (name : List ℕ) → known_row name < row_count → span_at texts (known_row name) ≡ none
    at name within = ap (λ s. get_or s (known_row name) none) spans ∙ get_or-map (λ _. none) known_fields (known_row name) ([], kinds.Text) none within

    each : (name : List ℕ) → known_row name < row_count → KeepsText texts (known_row name) None
    each name within = record {
      word_within = omega (arith, ap (λ s. s.word_end) (at name within));
      within = omega (arith, ap (λ s. s.end) (at name within));
      word = ap (λ s. part_of texts.buffer.items s.start s.word_end) (at name within);
      relation = ap (λ s. part_of texts.buffer.items s.word_end s.end) (at name within);
    }

-- a value that was visited before stays what it is, in a longer buffer
text-still : (old new : FieldTexts) (row : ℕ) (more : List ℕ) (o : Option ValueMeaning) → new.buffer.items ≡ old.buffer.items ++ more → span_at new row ≡ span_at old row → KeepsText old row o → KeepsText new row o
text-still old new row more o longer same keeps = record {
  word_within = omega (arith, ap (λ s. s.word_end) same, ap length longer, length-append old.buffer.items more, keeps.word_within);
  within = omega (arith, ap (λ s. s.end) same, ap length longer, length-append old.buffer.items more, keeps.within);
  word = rw (same, longer) (part-more old.buffer.items more (span_at old row).start (span_at old row).word_end keeps.word_within) ∙ keeps.word;
  relation = rw (same, longer) (part-more old.buffer.items more (span_at old row).word_end (span_at old row).end keeps.within) ∙ keeps.relation;
}

-- the last one
text-last : (old new : FieldTexts) (row : ℕ) (middle : List ℕ) (span : TextSpan) (value : ValueMeaning) → middle ≡ old.buffer.items ++ word_in value → new.buffer.items ≡ middle ++ relation_text (groups_in value) → span.start ≡ length old.buffer.items → span.word_end ≡ length middle → span.end ≡ length new.buffer.items → span_at new row ≡ span → KeepsText new row (Some value)
text-last old new row middle span value word relation start word_end end is =
    let text = relation_text (groups_in value) in
    record {
      word_within = omega (arith, ap (λ s. s.word_end) is, word_end, ap length relation, length-append middle text);
      within = omega (arith, ap (λ s. s.end) is, end);
      word =
          rw (is, start, relation)
          (part-more middle text (length old.buffer.items) span.word_end (omega (arith, word_end))
          ∙ ap (λ m. part_of m (length old.buffer.items) span.word_end) word
          ∙ part-last old.buffer.items (word_in value) span.word_end (word_end ∙ ap length word));
      relation = rw (is, word_end, relation) (part-last middle text span.end (end ∙ ap length relation));
    }

-- with one more field
pub texts-next : (old new : FieldTexts) (middle : List ℕ) (span : TextSpan) (visited : List Visit) (visit : Visit) → KeepsTexts old visited → middle ≡ old.buffer.items ++ word_in visit.1 → new.buffer.items ≡ middle ++ relation_text (groups_in visit.1) → span.start ≡ length old.buffer.items → span.word_end ≡ length middle → span.end ≡ length new.buffer.items → new.spans ≡ set old.spans (known_row visit.0.name) span → KeepsTexts new (visited ++ visit ∷ [])
texts-next old new middle span visited visit keeps word relation start word_end end spans = record {
  rows = ap length spans ∙ length-set old.spans (known_row visit.0.name) span ∙ keeps.rows;
  each = λ name within.
      subst (KeepsText new (known_row name)) (sym (ap (λ shown. shown name) (fold-append (λ shown v. shown_with v.0.name v.1 shown) none_shown visited (visit ∷ []))))
      (go name within (known_row visit.0.name == known_row name) refl);
}
  where
    go : (name : List ℕ) → known_row name < row_count → (t : Bool) → (known_row visit.0.name == known_row name) ≡ t → KeepsText new (known_row name) (shown_with visit.0.name visit.1 (shown_of visited) name)
    go name within true same =
        rw (same_rows visit.0.name name within ∙ same)
        (text-last old new (known_row name) middle span visit.1 word relation start word_end end
        (ap (λ s. get_or s (known_row name) none) spans ∙ get_or-set_at old.spans (known_row visit.0.name) (known_row name) span none (sym (eqb-true _ _ same)) (omega (arith, keeps.rows, within, eqb-true _ _ same))))
    go name within false other =
        rw (same_rows visit.0.name name within ∙ other)
        (text-still old new (known_row name) (word_in visit.1 ++ relation_text (groups_in visit.1)) (shown_of visited name)
        (relation ∙ ap (λ m. m ++ relation_text (groups_in visit.1)) word ∙ append_assoc old.buffer.items (word_in visit.1) (relation_text (groups_in visit.1)))
        (ap (λ s. get_or s (known_row name) none) spans ∙ get_or-set_other old.spans (known_row visit.0.name) (known_row name) span none (λ e. false≢true (sym other ∙ eq-eqb _ _ (sym e))))
        (keeps.each name within))

-- a value of any kind has regular groups, or none
groups-regular : (kind : Kind) (body : List ℕ) (value : ValueMeaning) → SpellsKind kind body value → IsRegularRelation (groups_in value)
groups-regular (kinds.Relation sort) body value spells = rw spells.1 (relation_regular body spells.0 spells.2.spells)
groups-regular kind body value spells = rw spells.1 (record { groups = tt; ascend = tt })

-- a field that the table doesn't have is text
text-unknown : (doc : Doc) (name : List ℕ) → row_count ≤ known_row name → kind_of doc (canonical_name name) ≡ kinds.Text
unfolding kind_of kind_at
text-unknown doc name past = kind_of_canonical_name doc name ∙ ap (kind_in doc) (get_or_past (map (λ row. row.1) known_fields) (known_row name) kinds.Text past) ∙ text doc
  where
    text : (doc : Doc) → kind_in doc kinds.Text ≡ kinds.Text
    text docs.Any = refl
    text docs.Binary = refl
    text docs.Packages = refl
    text docs.Source = refl
    text docs.Sources = refl
    text docs.Status = refl

no-word : (o : Option ValueMeaning) → IfSome o (λ value. (body : List ℕ) × SpellsKind kinds.Text body value) → (word_of o ≡ []) × (groups_of o ≡ [])
no-word None spelled = (refl, refl)
no-word (Some value) spelled = (ap word_in spelled.1.1, ap groups_in spelled.1.1)

-- what is kept of a paragraph's fields is of its values
module _ (texts : FieldTexts) (doc : Doc) (seen : Seen) (visits : VisitsValues KeepsTexts texts doc seen) (values : ValueEntries ValueMeaning) (are : AreValuesOf doc seen values) where
  module _ (name : List ℕ) where
    is_value : shown_of visits.visited name ≡ value_under name values
    is_value =
        let has = shown-value KeepsTexts texts doc seen visits name in
        has.found ∙ ap (find byte_order (canonical_name name)) (one_paragraph ValueMeaning (SpellsValue doc) value_text (value_law doc) (entries_of seen.fields) has.values values has.are.spelled are.spelled)

    spelled : IfSome (value_under name values) (λ value. (body : List ℕ) × SpellsValue doc (canonical_name name) body value)
    spelled = subst (λ o. IfSome o (λ value. (body : List ℕ) × SpellsValue doc (canonical_name name) body value)) is_value (shown-spelled KeepsTexts texts doc seen visits name)

    none_at : row_count ≤ known_row name → span_at texts (known_row name) ≡ none
    none_at past = get_or_past texts.spans (known_row name) none (omega (arith, past, visits.visits.rows))

    kept : (known : Bool) → nat_lt (known_row name) row_count ≡ known → (word_kept texts name ≡ word_of (value_under name values)) × (relation_kept texts name ≡ relation_text (groups_of (value_under name values)))
    kept true is =
        let keeps = visits.visits.each name (ltb-true (known_row name) row_count is) in
        (keeps.word ∙ ap word_of is_value, keeps.relation ∙ ap (λ o. relation_text (groups_of o)) is_value)
    kept false is =
        let past = ltb-false (known_row name) row_count is in
        let empty = no-word (value_under name values) (subst (λ kind. IfSome (value_under name values) (λ value. (body : List ℕ) × SpellsKind kind body value)) (text-unknown doc name past) spelled) in (
          ap (λ s. part_of texts.buffer.items s.start s.word_end) (none_at past) ∙ sym empty.0,
          ap (λ s. part_of texts.buffer.items s.word_end s.end) (none_at past) ∙ ap relation_text (sym empty.1),
        )

    regular : (o : Option ValueMeaning) → IfSome o (λ value. (body : List ℕ) × SpellsValue doc (canonical_name name) body value) → IsRegularRelation (groups_of o)
    regular None is = record { groups = tt; ascend = tt }
    regular (Some value) is = groups-regular (kind_of doc (canonical_name name)) is.0 value is.1

  pub has-texts : HasTexts texts values
  has-texts = record {
    word = λ name. (kept name (nat_lt (known_row name) row_count) refl).0;
    relation = λ name. (kept name (nat_lt (known_row name) row_count) refl).1;
    regular = λ name. regular name (value_under name values) (spelled name);
  }
