-- What reading a relation gives for its field.
use Rattle.std.proofs.Common.{◌≡◌, ℕ, List, ap}
use Rattle.deb_relation.specs.Grammar.{SpellsRelation}
use Rattle.deb_relation.specs.Meaning.{Relation}
use Rattle.deb_relation.proofs.SpelledGroups.{relation_read}
use Rattle.deb_field.specs.RelationFields.{relation_refusal, reading_refusal, relationship_refusal}
use Rattle.deb_base.specs.declared.kind.Relationship.{Relationship}

pub refused-in : (sort : Relationship) (body : List ℕ) (m : Relation) → SpellsRelation body m → relationship_refusal sort body ≡ relation_refusal sort m
refused-in sort body m s = ap (reading_refusal sort) (relation_read body m s)
