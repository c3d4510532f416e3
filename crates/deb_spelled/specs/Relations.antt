-- What `read_alternatives` answers: the alternatives of a text that is a relation (Debian Policy
-- 7.1).
use Rattle.std.specs.Prelude.{◌≡◌, ℕ, List, Option, Some, None, Result, Ok, Err, Vec}
use Rattle.deb_relation.specs.declared.fault.RelationFault.{RelationFault}
use Rattle.deb_relation.specs.declared.fault.RelationFault.TheVariants.{Bad, Memory}
use Rattle.std.specs.declared.alloc.Global.{Global}
use Rattle.deb_relation.specs.Faults.{first_fault}
use Rattle.deb_relation.specs.Grammar.{SpellsRelation}
use Rattle.deb_relation.specs.Meaning.{Relation}
use Rattle.deb_spelled.specs.declared.alternative.AlternativeSpans.{AlternativeSpans}
use Rattle.deb_spelled.specs.Alternatives.{alternatives_in}

-- The text is a relation, and these are its alternatives.
pub record HasAlternatives (text : List ℕ) (alternatives : List AlternativeSpans) : Type 0 where
  pub relation : Relation
  pub spelled : SpellsRelation text relation
  pub are : alternatives ≡ alternatives_in text

-- The text is a relation, or this is its first fault; out of memory says nothing of it.
abbrev pub HasFault : List ℕ → Option RelationFault → Type 0
HasFault text None = (m : Relation) × SpellsRelation text m
HasFault text (Some (Bad reason at)) =
    (first_fault text ≡ Some (reason, at)) × ((m : Relation) → SpellsRelation text m → ⊥)
HasFault text (Some Memory) = Unit {0}

-- A text that is a relation is read, unless memory is wanting.
abbrev pub IsCut : Result (Vec AlternativeSpans Global) RelationFault → Type 0
IsCut (Ok alternatives) = Unit {0}
IsCut (Err (Bad reason at)) = ⊥
IsCut (Err Memory) = Unit {0}
