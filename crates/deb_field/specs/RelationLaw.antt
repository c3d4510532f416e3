-- Lemmas that the prover checks: nothing in this file needs to be believed.
--
-- The law for relationship fields, and what their refusals do.
use Rattle.std.proofs.Common.{◌≡◌, ℕ, Bool, true, false, cond, List, Some, None, Result, Ok, Err, refl, ap, ◌∙◌}
use Rattle.deb_base.specs.declared.code.Code.TheVariants.{AlternativesNotAllowed, ProvidesBound}
use Rattle.deb_relation.specs.declared.fault.Reason.{Reason}
use Rattle.deb_relation.specs.Meaning.{Relation}
use Rattle.deb_relation.specs.Reading.{relation_in}
use Rattle.deb_relation.specs.Texts.{relation_text}
use Rattle.deb_relation.proofs.CanonicalBody.{canonical_text_is_body}
use Rattle.deb_relation.proofs.CanonicalRelation.{canonical_text_spells}
use Rattle.deb_relation.proofs.CanonicalShort.{canonical_text_is_short}
use Rattle.deb_relation.proofs.ReadRelation.{relation_took}
use Rattle.deb_relation.proofs.SpelledGroups.{relation_read, one_relation}
use Rattle.deb_field.specs.CanonLaw.{CanonLaw, RefusalLaw}
use Rattle.deb_field.specs.OneLine.{refusal_unless}
use Rattle.deb_field.specs.RelationFields.{SpellsRelationship, passes_alternatives, passes_operators, relation_refusal, reading_refusal, relationship_refusal}
use Rattle.deb_base.specs.declared.kind.Relationship.{Relationship}

-- what is asked of alternatives and operators is asked of the meaning, so canonical text has it
pub relation_law : (sort : Relationship)
    → CanonLaw Relation (SpellsRelationship sort) relation_text
relation_law sort = record {
  one_meaning = λ body m n s t. one_relation body m n s.spells t.spells;
  reads_back =
      λ body m s. record {
        spells = canonical_text_spells body m s.spells;
        alternatives = s.alternatives;
        operators = s.operators;
      };
  is_body = λ body m is s. canonical_text_is_body body m s.spells;
  is_short = λ body m s. canonical_text_is_short body m s.spells;
}

-- both tests pass exactly where there is no refusal
both-from_none : (a b : Bool)
    → cond a (refusal_unless b ProvidesBound) (Some AlternativesNotAllowed) ≡ None
    → (a ≡ true) × (b ≡ true)
both-from_none true true none = (refl, refl)
both-from_none true false none = cc
both-from_none false b none = cc

none-from_both : (a b : Bool) → a ≡ true → b ≡ true
    → cond a (refusal_unless b ProvidesBound) (Some AlternativesNotAllowed) ≡ None
none-from_both true true h k = refl
none-from_both true false h k = cc
none-from_both false b h k = cc

-- a relation that is read and not refused is spelled in the field
pub spelled-from_reading : (sort : Relationship) (body : List ℕ) (m : Relation)
    → relation_in body ≡ Ok m → relation_refusal sort m ≡ None → SpellsRelationship sort body m
spelled-from_reading sort body m read none =
    let both = both-from_none (passes_alternatives sort m) (passes_operators sort m) none in
    record {
      spells = relation_took body m read;
      alternatives = both.0;
      operators = both.1;
    }

of_reading : (sort : Relationship) (body : List ℕ) (r : Result Relation (Reason × ℕ))
    → relation_in body ≡ r → reading_refusal sort r ≡ None
    → (m : Relation) × SpellsRelationship sort body m
of_reading sort body (Ok m) read none = (m, spelled-from_reading sort body m read none)
of_reading sort body (Err fault) read none = cc

pub relation_refusals : (sort : Relationship)
    → RefusalLaw Relation (SpellsRelationship sort) (relationship_refusal sort)
relation_refusals sort = record {
  spelled = λ body none. of_reading sort body (relation_in body) refl none;
  unrefused =
      λ body m s. ap (reading_refusal sort) (relation_read body m s.spells)
      ∙ none-from_both (passes_alternatives sort m) (passes_operators sort m) s.alternatives
      s.operators;
}
