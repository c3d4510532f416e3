-- Worked cases of relationship fields: each refusal alone, two faults in one body, and what every
-- field takes. Debian Policy 7.1 and 7.5.
use Rattle.std.specs.Prelude.{◌≡◌, ℕ, List, [], Option, Some, None, Result, codes, refl}
use Rattle.deb_base.specs.declared.code.Code.{Code}
use Rattle.deb_base.specs.declared.code.Code.TheVariants.{BadRelation, AlternativesNotAllowed, ProvidesBound}
use Rattle.deb_version.specs.Faults.{first_fault as version_fault}
use Rattle.deb_relation.specs.declared.fault.Reason.{Reason}
use Rattle.deb_relation.specs.Meaning.{Relation}
use Rattle.deb_relation.specs.Reading.{gather, read_name, read_qualifier, read_operator}
use Rattle.deb_relation.specs.Reading.{read_version, read_bound_behind, read_bound, next_architecture}
use Rattle.deb_relation.specs.Reading.{next_restriction, read_list_end, read_names}
use Rattle.deb_relation.specs.Reading.{read_architectures, read_restrictions, next_restrictions}
use Rattle.deb_relation.specs.Reading.{read_formula, read_alternative, next_alternative, read_group}
use Rattle.deb_relation.specs.Reading.{next_piece, read_relation, relation_in}
use Rattle.deb_relation.specs.Texts.{group_text}
use Rattle.deb_field.specs.RelationFields.{relationship_refusal}
use Rattle.deb_base.specs.declared.kind.Relationship.{Relationship}
use Rattle.deb_base.specs.declared.kind.Relationship.TheVariants.{Depends, Conflicts, Provides}

-- the reading with its steps laid open, so that the cases compute
bounds : List ℕ → Result Relation (Reason × ℕ)
unfolding gather read_name read_qualifier read_operator read_version version_fault read_bound_behind
bounds text = relation_in text

lists : List ℕ → Result Relation (Reason × ℕ)
unfolding bounds read_bound next_architecture next_restriction read_list_end read_names
lists text = relation_in text

formulas : List ℕ → Result Relation (Reason × ℕ)
unfolding lists read_architectures read_restrictions next_restrictions read_formula
formulas text = relation_in text

steps : List ℕ → Result Relation (Reason × ℕ)
unfolding formulas read_alternative next_alternative read_group next_piece read_relation
steps text = relation_in text

-- the code of a body alone; whoever unfolds it has the steps of the reading laid open
unfoldable pub told : Relationship → List ℕ → Option Code
unfolding steps relation_in group_text
told sort body = relationship_refusal sort body

no_relation : (told Depends (codes "${misc:Depends}") ≡ Some BadRelation)
    × (told Conflicts (codes "aa (= 1") ≡ Some BadRelation)
    × (told Provides (codes "a") ≡ Some BadRelation)
unfolding told
no_relation = (refl, refl, refl)

alternatives : (told Depends (codes "bb | cc") ≡ None)
    × (told Conflicts (codes "bb | cc") ≡ Some AlternativesNotAllowed)
    × (told Provides (codes "bb|cc") ≡ Some AlternativesNotAllowed)
    × (told Conflicts (codes "aa, bb | bb") ≡ Some AlternativesNotAllowed)
unfolding told
alternatives = (refl, refl, refl, refl)

operators : (told Depends (codes "vv (>= 1)") ≡ None)
    × (told Conflicts (codes "vv (<< 1)") ≡ None)
    × (told Provides (codes "vv (>= 1)") ≡ Some ProvidesBound)
    × (told Provides (codes "vv (= 1), ww (<= 1)") ≡ Some ProvidesBound)
    × (told Provides (codes "vv (= 1), ww") ≡ None)
unfolding told
operators = (refl, refl, refl, refl, refl)

-- the former operators are others than `=`
former_operators : (told Conflicts (codes "vv (< 1)") ≡ None)
    × (told Provides (codes "vv (< 1)") ≡ Some ProvidesBound)
    × (told Provides (codes "vv (= 1), ww (> 1)") ≡ Some ProvidesBound)
unfolding told
former_operators = (refl, refl, refl)

-- of two faults in one body the first code is reported, wherever they are
two_faults : (told Conflicts (codes "bb | cc, a") ≡ Some BadRelation)
    × (told Provides (codes "vv (>= 1), a") ≡ Some BadRelation)
    × (told Provides (codes "vv (>= 1) | ww") ≡ Some AlternativesNotAllowed)
    × (told Provides (codes "vv (>= 1), ww | xx") ≡ Some AlternativesNotAllowed)
unfolding told
two_faults = (refl, refl, refl, refl)

-- no group at all is a relation of each sort
no_groups : (told Depends [] ≡ None) × (told Conflicts (codes ",") ≡ None)
    × (told Provides (codes " , ,") ≡ None)
unfolding told
no_groups = (refl, refl, refl)

-- a body of several lines
lines : told Depends (codes "aa,\n  bb (>=1)") ≡ None
unfolding told
lines = refl
