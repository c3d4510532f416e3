-- A paragraph at another line of a file means the same.
use Rattle.std.proofs.Common.{◌≡◌, ℕ, ◌+◌, ◌||◌, IsFalse, List, [], ◌∷◌, length, refl, sym, ap, ◌∙◌, subst}
use Rattle.std.specs.BTreeMap.{insert_entry}
use Rattle.std.specs.Str.{bytes_eq}
use Rattle.deb_base.specs.Bodies.{Line}
use Rattle.deb_base.specs.Names.{canonical_name, folded}
use Rattle.deb_syntax.specs.Fields.{AreDistinct, Field, SpellsField, SpellsFields, SpellsParagraph, has_name}
use Rattle.deb_syntax.specs.Lines.{Paragraph}
use Rattle.deb_syntax.specs.Meaning.{Entries, byte_order, entries_after, entries_of}

-- the same fields at other lines
abbrev SameFields : List Field → List Field → Type 0
SameFields [] [] = Unit {0}
SameFields [] (g ∷ gs) = ⊥
SameFields (f ∷ fs) [] = ⊥
SameFields (f ∷ fs) (g ∷ gs) = (f.name ≡ g.name) × (f.body ≡ g.body) × SameFields fs gs

same_names : (name : List ℕ) (fs gs : List Field) → SameFields fs gs → has_name name fs ≡ has_name name gs
same_names name [] [] same = refl
same_names name [] (g ∷ gs) same = absurd same
same_names name (f ∷ fs) [] same = absurd same
same_names name (f ∷ fs) (g ∷ gs) same =
    ap (λ n. bytes_eq (folded n) (folded name) || has_name name fs) same.0
    ∙ ap (λ t. bytes_eq (folded g.name) (folded name) || t) (same_names name fs gs same.2)

same_distinct : (fs gs : List Field) → SameFields fs gs → AreDistinct fs → AreDistinct gs
same_distinct [] [] same all = tt
same_distinct [] (g ∷ gs) same all = absurd same
same_distinct (f ∷ fs) [] same all = absurd same
same_distinct (f ∷ fs) (g ∷ gs) same all = (
  subst (λ t. IsFalse t) (ap (λ n. has_name n fs) same.0 ∙ same_names g.name fs gs same.2) all.0,
  same_distinct fs gs same.2 all.1,
)

same_entries : (entries : Entries) (fs gs : List Field) → SameFields fs gs → entries_after entries fs ≡ entries_after entries gs
same_entries entries [] [] same = refl
same_entries entries [] (g ∷ gs) same = absurd same
same_entries entries (f ∷ fs) [] same = absurd same
same_entries entries (f ∷ fs) (g ∷ gs) same =
    same_entries (insert_entry byte_order entries (canonical_name f.name) f.body) fs gs same.2
    ∙ ap (λ e. entries_after e gs) (ap (λ n. insert_entry byte_order entries (canonical_name n) f.body) same.0 ∙ ap (insert_entry byte_order entries (canonical_name g.name)) same.1)

moved : (a b : ℕ) (lines : List Line) (fields : List Field) → SpellsFields a lines fields → (others : List Field) × SpellsFields b lines others × SameFields fields others
moved a b lines [] spells = ([], spells, tt)
moved a b lines (field ∷ fields) spells =
    let own = spells.0 in
    let rest = moved (a + length own) (b + length own) spells.1 fields spells.5 in
    let one : SpellsField own field = spells.4 in (
      record { name = field.name; line = b; body = field.body } ∷ rest.0,
      (
        own,
        spells.1,
        spells.2,
        refl,
        record {
          before = one.before;
          after = one.after;
          spelt = one.spelt;
          before_blank = one.before_blank;
          after_blank = one.after_blank;
          name = one.name;
          body = one.body;
        },
        rest.1,
      ),
      (refl, refl, rest.2),
    )

pub moved_paragraph : (p q : Paragraph) → p.lines ≡ q.lines → (entries : Entries) → (fields : List Field) × SpellsParagraph p fields × (entries ≡ entries_of fields) → (fields : List Field) × SpellsParagraph q fields × (entries ≡ entries_of fields)
moved_paragraph p q same entries has =
    let spells : SpellsParagraph p has.0 = has.1 in
    let other = moved p.first q.first p.lines has.0 spells.spelt in (
      other.0,
      record {
        text = rw (sym same) spells.text;
        spelt = subst (λ lines. SpellsFields q.first lines other.0) same other.1;
        distinct = same_distinct has.0 other.0 other.2 spells.distinct;
      },
      has.2 ∙ same_entries [] has.0 other.0 other.2,
    )
