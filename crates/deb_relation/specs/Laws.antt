-- The laws of relations: what the definitions of `Grammar`, `Faults` and `Texts` amount to. Debian
-- Policy 7.1.
use Rattle.std.specs.Prelude.{◌≡◌, ℕ, ◌+◌, ◌*◌, ◌≤◌, ◌↔◌, List, [], ◌∷◌, length, Some, None, Err, IfSome}
use Rattle.std.specs.List.{AllByRecursion}
use Rattle.std.specs.declared.cmp.Ordering.TheVariants.{Less}
use Rattle.deb_base.specs.Bodies.{IsBody}
use Rattle.deb_relation.specs.declared.fault.Reason.{Reason}
use Rattle.deb_relation.specs.Faults.{first_fault}
use Rattle.deb_relation.specs.Grammar.{SpellsRelation}
use Rattle.deb_relation.specs.Meaning.{Alternative, Relation}
use Rattle.deb_relation.specs.Reading.{read_relation}
use Rattle.deb_relation.specs.Sets.{byte_cmp, itself}
use Rattle.deb_relation.specs.Texts.{group_text, item_text, relation_text, restrictions_text}

-- A text spells at most one relation.
abbrev pub SpellsOneRelation : Type 0
SpellsOneRelation =
    (text : List ℕ) (m n : Relation) → SpellsRelation text m → SpellsRelation text n → m ≡ n

-- A text spells a relation exactly where it has no fault.
abbrev pub SpellsWhereFaultless : Type 0
SpellsWhereFaultless =
    (text : List ℕ) → ((m : Relation) × SpellsRelation text m) ↔ (first_fault text ≡ None)

-- The canonical text of a relation that is spelled spells that relation.
abbrev pub CanonicalTextSpells : Type 0
CanonicalTextSpells =
    (text : List ℕ) (m : Relation) → SpellsRelation text m → SpellsRelation (relation_text m) m

-- Two relations that are spelled have one canonical text exactly if they mean the same.
abbrev pub CanonicalTextDecides : Type 0
CanonicalTextDecides =
    (s t : List ℕ) (m n : Relation) → SpellsRelation s m → SpellsRelation t n
    → (relation_text m ≡ relation_text n) ↔ (m ≡ n)

-- The canonical text of what canonical text spells is that text.
abbrev pub CanonicalTextStays : Type 0
CanonicalTextStays =
    (text : List ℕ) (m n : Relation) → SpellsRelation text m → SpellsRelation (relation_text m) n
    → relation_text n ≡ relation_text m

-- Canonical text is at most twice as long as each text that spells the relation.
abbrev pub CanonicalTextIsShort : Type 0
CanonicalTextIsShort =
    (text : List ℕ) (m : Relation) → SpellsRelation text m
    → length (relation_text m) ≤ 2 * length text

-- The canonical text of a relation that is spelled can be the body of a field.
abbrev pub CanonicalTextIsBody : Type 0
CanonicalTextIsBody =
    (text : List ℕ) (m : Relation) → SpellsRelation text m → IsBody (relation_text m)

-- strictly ascending by their texts, so each once
abbrev pub Ascends : {A : Type 0} → (A → List ℕ) → List A → Type 0
Ascends text [] = Unit {0}
Ascends text (x ∷ []) = Unit {0}
Ascends text (x ∷ y ∷ ys) = (byte_cmp (text x) (text y) ≡ Less) × Ascends text (y ∷ ys)

-- The groups of what a text spells ascend by their texts, each once.
abbrev pub GroupsAscend : Type 0
GroupsAscend = (text : List ℕ) (m : Relation) → SpellsRelation text m → Ascends group_text m

-- The offset of a fault is within the text, or at its end: the reading stops at the step that fails
-- there, and the text is what precedes that offset and what is left from there on.
abbrev pub FaultsStandInTheirText : Type 0
FaultsStandInTheirText =
    (text : List ℕ) (reason : Reason) (at : ℕ) → first_fault text ≡ Some (reason, at)
    → (left : ℕ) × (read_relation text ≡ Err (reason, left)) × (at + left ≡ length text)

-- The sets of an alternative ascend by their texts, each member once: the names of its architecture
-- list, the lists of its formula, and the items of each.
pub record HasAscendingSets (a : Alternative) : Type 0 where
  pub names : IfSome a.architectures (λ list. Ascends itself list.1)
  pub lists : Ascends restrictions_text a.formula
  pub items : AllByRecursion (Ascends item_text) a.formula

-- So do those of each alternative of what a text spells.
abbrev pub SetsAscend : Type 0
SetsAscend =
    (text : List ℕ) (m : Relation) → SpellsRelation text m
    → AllByRecursion (AllByRecursion HasAscendingSets) m
