-- What relations of the code represent, and what is asked of them.
use Rattle.std.proofs.Common.{◌≡◌, ℕ, [], ◌∷◌, map, Option, Some, Result, Ok, Err, codes, refl, None}
use Rattle.deb_relation.specs.declared.fault.Reason.{Reason}
use Rattle.deb_relation.specs.declared.fault.RelationFault.{RelationFault}
use Rattle.deb_relation.specs.declared.fault.RelationFault.TheVariants.{Bad, Memory}
use Rattle.deb_relation.specs.declared.relation.Relation.{Relation as Groups}
use Rattle.deb_relation.specs.Grammar.{SpellsRelation}
use Rattle.deb_relation.specs.Meaning.{Relation}
use Rattle.deb_relation.specs.Groups.{group_of, bb_or_aa}
use Rattle.deb_relation.specs.Texts.{relation_text, group_text}
use Rattle.deb_base.specs.Literals.{vector}
use Rattle.deb_relation.specs.Reading.{alternative_with, relation_in}
use Rattle.deb_relation.specs.Rows.{steps}

-- a relation's meaning: its set of groups
abbrev pub relation_of : Groups → Relation
relation_of relation = map group_of relation.groups.items

-- one of one group
abbrev one_group : Groups
unfolding bb_or_aa steps relation_in group_text
one_group = record {
  groups = vector (bb_or_aa ∷ []) refl;
  text = vector (codes "bb | aa") refl;
  written = refl;
  spelled = refl;
}

worked-relation : relation_of one_group
    ≡ (alternative_with (codes "bb") None None None []
    ∷ alternative_with (codes "aa") None None None [] ∷ []) ∷ []
unfolding one_group bb_or_aa
worked-relation = refl

-- The fault is the first of the text; out of memory says nothing of it.
abbrev pub Tells : Option (Reason × ℕ) → RelationFault → Type 0
Tells fault (Bad reason at) = fault ≡ Some (reason, at)
Tells fault Memory = Unit {0}

-- A relation of this meaning is read, unless memory is wanting.
abbrev pub IsRead : Result Groups RelationFault → Relation → Type 0
IsRead (Ok relation) m = relation_of relation ≡ m
IsRead (Err (Bad reason at)) m = ⊥
IsRead (Err Memory) m = Unit {0}

-- A relation, however it was made, is spelled by its canonical text.
abbrev pub RelationSpells : Groups → Type 0
RelationSpells relation =
    SpellsRelation (relation_text (relation_of relation)) (relation_of relation)

-- a reported fault has the reason and the offset of the first one
told_whole : (fault : Option (Reason × ℕ)) (reason : Reason) (at : ℕ) → Tells fault (Bad reason at)
    → fault ≡ Some (reason, at)
told_whole fault reason at told = told

-- what is read means this, and a text that spells a relation has no fault
read_whole : (relation : Groups) (m : Relation) → IsRead (Ok relation) m → relation_of relation ≡ m
read_whole relation m is = is

read_without_fault : (reason : Reason) (at : ℕ) (m : Relation) → IsRead (Err (Bad reason at)) m → ⊥
read_without_fault reason at m none = none
