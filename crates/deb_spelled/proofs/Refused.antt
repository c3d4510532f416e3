-- What the answer of the parser says of a text.
use Rattle.std.proofs.Common.{ℕ, List, Some, Result, Ok, Err}
use Rattle.std.specs.Result.{IfErr, IfOk, result_err}
use Rattle.deb_relation.specs.Faults.{first_fault}
use Rattle.deb_relation.specs.Grammar.{SpellsRelation}
use Rattle.deb_relation.specs.Meaning.{Relation}
use Rattle.deb_relation.specs.RelationTexts.{IsTextRead, text_meaning}
use Rattle.deb_relation.specs.Relations.{Tells}
use Rattle.deb_relation.specs.declared.fault.RelationFault.{RelationFault}
use Rattle.deb_relation.specs.declared.fault.RelationFault.TheVariants.{Bad, Memory}
use Rattle.deb_relation.specs.declared.relation_text.RelationText.{RelationText}
use Rattle.deb_spelled.specs.Relations.{HasFault, IsCut}

pub fault_found : (text : List ℕ) (answer : Result RelationText RelationFault) → IfOk answer (λ relation. SpellsRelation text (text_meaning relation)) → ((m : Relation) → SpellsRelation text m → IsTextRead answer m) → IfErr answer (Tells (first_fault text)) → HasFault text (result_err answer)
fault_found text (Ok relation) ok accepted refused = (text_meaning relation, ok)
fault_found text (Err (Bad reason at)) ok accepted refused = (refused, accepted)
fault_found text (Err Memory) ok accepted refused = tt

pub no_relation : (text : List ℕ) (fault : RelationFault) → HasFault text (Some fault) → (m : Relation) → SpellsRelation text m → IsCut (Err fault)
no_relation text (Bad reason at) has m spelled = has.1 m spelled
no_relation text Memory has m spelled = tt
