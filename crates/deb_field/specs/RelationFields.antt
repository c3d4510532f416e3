-- Relationship fields: which relations their bodies spell, and why a body is refused. Debian Policy
-- 7.1 (alternatives, operators in Provides); the order of the refusals is this project's own.
use Rattle.std.specs.Prelude.{ℕ, ◌||◌, not, Bool, cond, List, Option, Some, Result, Ok, Err, IsTrue}
use Rattle.deb_base.specs.declared.code.Code.{Code}
use Rattle.deb_base.specs.declared.code.Code.TheVariants.{BadRelation, AlternativesNotAllowed, ProvidesBound}
use Rattle.deb_relation.specs.declared.fault.Reason.{Reason}
use Rattle.deb_relation.specs.Grammar.{SpellsRelation}
use Rattle.deb_relation.specs.Meaning.{Relation}
use Rattle.deb_relation.specs.Reading.{relation_in}
use Rattle.deb_relation.specs.Tests.{has_alternatives, only_equals}
use Rattle.deb_base.specs.Kinds.{takes_alternatives, takes_all_operators}
use Rattle.deb_field.specs.OneLine.{refusal_unless}
use Rattle.deb_base.specs.declared.kind.Relationship.{Relationship}

-- alternatives are only where they are taken
abbrev pub passes_alternatives : Relationship → Relation → Bool
passes_alternatives sort m = takes_alternatives sort || not (has_alternatives m)

-- and so do operators other than `=`
abbrev pub passes_operators : Relationship → Relation → Bool
passes_operators sort m = takes_all_operators sort || only_equals m

-- The body spells the relation, in a field of this sort.
pub record SpellsRelationship (sort : Relationship) (body : List ℕ) (m : Relation) : Type 0 where
  pub spells : SpellsRelation body m
  pub alternatives : IsTrue (passes_alternatives sort m)
  pub operators : IsTrue (passes_operators sort m)

-- of a relation in a field of this sort: alternatives are reported before operators
abbrev pub relation_refusal : Relationship → Relation → Option Code
relation_refusal sort m =
    cond (passes_alternatives sort m) (refusal_unless (passes_operators sort m) ProvidesBound)
    (Some AlternativesNotAllowed)

-- of what is read of a body: what is no relation is reported before both
abbrev pub reading_refusal : Relationship → Result Relation (Reason × ℕ) → Option Code
reading_refusal sort (Ok m) = relation_refusal sort m
reading_refusal sort (Err fault) = Some BadRelation

abbrev pub relationship_refusal : Relationship → List ℕ → Option Code
relationship_refusal sort body = reading_refusal sort (relation_in body)
