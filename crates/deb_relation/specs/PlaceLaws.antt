-- What the offset of a fault is: what comes before it can be continued to a relation. Debian Policy
-- 7.1.
use Rattle.std.specs.Prelude.{◌≡◌, ℕ, List, ◌++◌, length, Some}
use Rattle.deb_relation.specs.declared.fault.Reason.{Reason}
use Rattle.deb_relation.specs.Faults.{first_fault}
use Rattle.deb_relation.specs.Grammar.{SpellsRelation}
use Rattle.deb_relation.specs.Meaning.{Relation}

-- some relation begins with the text
abbrev pub BeginsRelation : List ℕ → Type 0
BeginsRelation text = (more : List ℕ) × (m : Relation) × SpellsRelation (text ++ more) m

-- An offset of a text: what comes before it begins a relation.
pub record IsReached (text : List ℕ) (at : ℕ) : Type 0 where
  pub before : List ℕ
  pub after : List ℕ
  pub whole : text ≡ before ++ after
  pub place : length before ≡ at
  pub begins : BeginsRelation before

-- The offset of each fault is one, whatever its reason.
abbrev pub PlacesAreReached : Type 0
PlacesAreReached =
    (text : List ℕ) (reason : Reason) (at : ℕ) → first_fault text ≡ Some (reason, at)
    → IsReached text at
