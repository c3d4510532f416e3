-- A paragraph that passes does so from another line on.
use Rattle.std.proofs.Common.{◌≡◌, ◌||◌, ℕ, ◌+◌, ◌-◌, ◌≤◌, List, [], ◌∷◌, length, map, Option, None, Some, is_none, IsFalse, refl, sym, ap, ◌∙◌, subst, arith}
use Rattle.std.specs.BTreeMap.{insert_entry}
use Rattle.std.specs.Str.{bytes_eq}
use Rattle.deb_base.specs.Bodies.{Line, paragraph_limit}
use Rattle.deb_base.specs.Names.{canonical_name, folded}
use Rattle.deb_base.specs.declared.code.Code.{Code}
use Rattle.deb_syntax.specs.Fields.{AreDistinct, Field, SpellsField, SpellsFields, has_name}
use Rattle.deb_syntax.specs.Laws.{IsRun}
use Rattle.deb_syntax.specs.Lines.{Paragraph}
use Rattle.deb_syntax.specs.Meaning.{Entries, byte_order, entries_after}
use Rattle.deb_syntax.proofs.JudgingLaws.{judged-complete}
use Rattle.deb_syntax.proofs.JudgingLawsRefusals.{judged-sound}
use Rattle.deb_control.specs.Canonical.{paragraph_text}
use Rattle.deb_control.specs.Refusals.{canonical_entries, canonical_field, have_names, refusal_or, value_refusal_of}
use Rattle.deb_control.specs.Rules.{Rules}
use Rattle.deb_control.proofs.Limits.{line_too_long-none, total_length-within}
use Rattle.deb_control.proofs.Passing.{Passes}

-- the same fields at other lines
module _ (line : Field → ℕ) where
  abbrev pub placed : Field → Field
  placed field = record { name = field.name; line = line field; body = field.body }

  placed_names : (name : List ℕ) (fields : List Field) → has_name name (map placed fields) ≡ has_name name fields
  placed_names name [] = refl
  placed_names name (field ∷ fields) = ap (λ t. bytes_eq (folded field.name) (folded name) || t) (placed_names name fields)

  placed_distinct : (fields : List Field) → AreDistinct fields → AreDistinct (map placed fields)
  placed_distinct [] h = tt
  placed_distinct (field ∷ fields) h = (subst (λ t. IsFalse t) (sym (placed_names field.name fields)) h.0, placed_distinct fields h.1)

  pub placed_have : (fields : List Field) (names : List (List ℕ)) → have_names (map placed fields) names ≡ have_names fields names
  placed_have fields [] = refl
  placed_have fields (name ∷ names) = rw (placed_names name fields, placed_have fields names) refl

  pub placed_good : (rules : Rules) (fields : List Field) → is_none (value_refusal_of rules (map placed fields)) ≡ is_none (value_refusal_of rules fields)
  placed_good rules [] = refl
  placed_good rules (field ∷ fields) = go (rules.refusal (canonical_name field.name) field.body) (placed_good rules fields)
    where
      go : (o : Option Code) → is_none (value_refusal_of rules (map placed fields)) ≡ is_none (value_refusal_of rules fields) → is_none (refusal_or o (line field) (value_refusal_of rules (map placed fields))) ≡ is_none (refusal_or o field.line (value_refusal_of rules fields))
      go None more = more
      go (Some code) more = refl

  pub placed_entries : (rules : Rules) (entries : Entries) (fields : List Field) → entries_after entries (map (canonical_field rules) (map placed fields)) ≡ entries_after entries (map (canonical_field rules) fields)
  placed_entries rules entries [] = refl
  placed_entries rules entries (field ∷ fields) =
      placed_entries rules (insert_entry byte_order entries (canonical_name field.name) (canonical_field rules field).body) fields

-- a value whose absence is that of none
pub none-by : {A : Type 0} (o other : Option A) → is_none o ≡ is_none other → other ≡ None → o ≡ None
none-by None other e h = refl
none-by (Some a) None e h = absurd (cc)
none-by (Some a) (Some b) e h = absurd (cc)

-- a field of a paragraph at line n, where the paragraph is at line m
abbrev moved_line : ℕ → ℕ → Field → ℕ
moved_line n m field = m + (field.line - n)

moved_spells : (n m a b : ℕ) (lines : List Line) (fields : List Field) → n ≤ a → b ≡ m + (a - n) → SpellsFields a lines fields → SpellsFields b lines (map (placed (moved_line n m)) fields)
moved_spells n m a b lines [] from at h = h
moved_spells n m a b lines (field ∷ fields) from at h =
    let own = h.0 in
    let spells : SpellsField own field = h.4 in (
      own,
      h.1,
      h.2,
      ap (λ line. m + (line - n)) h.3 ∙ sym at,
      record {
        before = spells.before;
        after = spells.after;
        spelt = spells.spelt;
        before_blank = spells.before_blank;
        after_blank = spells.after_blank;
        name = spells.name;
        body = spells.body;
      },
      moved_spells n m (a + length own) (b + length own) h.1 fields (omega (arith, from)) (omega (arith, from, at)) h.5,
    )

pub passes_moved : (rules : Rules) (beyond : Option ℕ) (before : List Entries) (p : Paragraph) (entries : Entries) (m : ℕ) → IsRun p.lines → Passes rules beyond before p entries → Passes rules None before (record { first = m; lines = p.lines }) entries
passes_moved rules beyond before p entries m run passes =
    let short = total_length-within p.lines p.first paragraph_limit passes.short in
    let spells = judged-sound p.first p.lines passes.fields run short passes.seen in
    let line = moved_line p.first m in
    let fields : List Field = map (placed line) passes.fields in
    let same : canonical_entries rules fields ≡ canonical_entries rules passes.fields = placed_entries line rules [] passes.fields in
    record {
      alone = passes.alone;
      short = line_too_long-none p.lines m paragraph_limit short;
      whole = refl;
      fields = fields;
      seen = judged-complete m p.lines fields run.no_newline (record {
        text = spells.text;
        spelt = moved_spells p.first m p.first m p.lines passes.fields (omega arith) (omega arith) spells.spelt;
        distinct = placed_distinct line passes.fields spells.distinct;
      });
      good = none-by _ _ (placed_good line rules passes.fields) passes.good;
      named = placed_have line passes.fields rules.required ∙ passes.named;
      short_text = subst (λ e. length (paragraph_text e) ≤ paragraph_limit) (sym same) passes.short_text;
      short_file = passes.short_file;
      is = passes.is ∙ sym same;
    }
