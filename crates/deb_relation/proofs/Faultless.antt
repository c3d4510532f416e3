-- A text spells a relation exactly where no step of its reading fails; and what the reading says of sets and offsets.
use Rattle.std.proofs.Common.{◌≡◌, ◌↔◌, ℕ, List, Some, None, Result, Ok, Err, refl, ap}
use Rattle.std.specs.List.{AllByRecursion}
use Rattle.deb_relation.specs.declared.fault.Reason.{Reason}
use Rattle.deb_relation.specs.Faults.{fault_of, first_fault}
use Rattle.deb_relation.specs.Grammar.{SpellsRelation}
use Rattle.deb_relation.specs.Laws.{Ascends, FaultsStandInTheirText, HasAscendingSets}
use Rattle.deb_relation.specs.Meaning.{Relation}
use Rattle.deb_relation.specs.Reading.{relation_in}
use Rattle.deb_relation.specs.Texts.{group_text}
use Rattle.deb_relation.proofs.Ascending
use Rattle.deb_relation.proofs.AscendingSets
use Rattle.deb_relation.proofs.FaultPlaces
use Rattle.deb_relation.proofs.ReadRelation.{relation_took}
use Rattle.deb_relation.proofs.SpelledGroups.{relation_read}

abbrev Answer : Type 0
Answer = Result Relation (Reason × ℕ)

faultless : (r : Answer) → fault_of r ≡ None → (m : Relation) × (r ≡ Ok m)
faultless (Ok m) e = (m, refl)
faultless (Err fault) e = cc

pub spells_where_faultless : (text : List ℕ) → ((m : Relation) × SpellsRelation text m) ↔ (first_fault text ≡ None)
spells_where_faultless text =
    (λ s. ap fault_of (relation_read text s.0 s.1), λ none. let r = faultless (relation_in text) none in (r.0, relation_took text r.0 r.1))

pub groups_ascend : (text : List ℕ) (m : Relation) → SpellsRelation text m → Ascends group_text m
groups_ascend text m s = Ascending.groups_ascend text m (relation_read text m s)

pub sets_ascend : (text : List ℕ) (m : Relation) → SpellsRelation text m → AllByRecursion (AllByRecursion HasAscendingSets) m
sets_ascend text m s = AscendingSets.sets_ascend text m (relation_read text m s)

failed : (r : Answer) (fault : Reason × ℕ) → fault_of r ≡ Some fault → r ≡ Err fault
failed (Ok m) fault e = cc
failed (Err other) fault e = cc

pub faults_stand : FaultsStandInTheirText
faults_stand text reason at e = FaultPlaces.faults_stand text reason at (failed (relation_in text) (reason, at) e)
