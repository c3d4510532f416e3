-- What holds of the group, or of the relation, that has a canonical text.
use Rattle.std.specs.Prelude.{◌≡◌, ℕ, List}
use Rattle.deb_relation.specs.Meaning.{Group, Relation}
use Rattle.deb_relation.specs.Regular.{IsRegularGroup, IsRegularRelation}
use Rattle.deb_relation.specs.Texts.{group_text, relation_text}

abbrev pub OfGroup : List ℕ → (Group → Type 0) → Type 0
OfGroup text Holds = (group : Group) → IsRegularGroup group → text ≡ group_text group → Holds group

abbrev pub OfRelation : List ℕ → (Relation → Type 0) → Type 0
OfRelation text Holds = (m : Relation) → IsRegularRelation m → text ≡ relation_text m → Holds m

-- A text is the canonical text of a relation.
pub record IsCanonical (text : List ℕ) : Type 0 where
  pub relation : Relation
  pub regular : IsRegularRelation relation
  pub is : text ≡ relation_text relation
