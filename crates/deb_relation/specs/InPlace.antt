-- What is canonical where it is spelled: the text itself is the canonical text of a bound, of
-- an alternative, of a group or of a relation, or begins with it. Debian Policy 7.1.
use Rattle.std.specs.Prelude.{◌≡◌, ℕ, Bool, List, ◌++◌, Option, IfSome}
use Rattle.std.specs.List.{list_all}
use Rattle.deb_version.specs.Canonical.{version_text}
use Rattle.deb_version.specs.Grammar.{SpellsVersion}
use Rattle.deb_version.specs.Parts.{Meaning as Version}
use Rattle.deb_relation.specs.declared.operator.Op.{Op}
use Rattle.deb_relation.specs.Meaning.{Alternative, Group, Relation}
use Rattle.deb_relation.specs.Reading.{append}
use Rattle.deb_relation.specs.Regular.{IsRegular, IsRegularGroup, IsRegularRelation}
use Rattle.deb_relation.specs.Tests.{bound_is_equal, has_alternatives, has_equal_bound, has_two}
use Rattle.deb_relation.specs.Tests.{only_equals}
use Rattle.deb_relation.specs.Texts.{alternative_text, bound_text, group_text, relation_text}

-- a bound or none, whether it has no operator other than `=`, and the text after it
pub record BeginsBound (text : List ℕ) (is_equal : Bool) (rest : List ℕ) : Type 0 where
  pub bound : Option (Op × Version)
  pub regular : IfSome bound (λ b. SpellsVersion (version_text b.1) b.1)
  pub spelt : text ≡ bound_text bound ++ rest
  pub equal_is : bound_is_equal bound ≡ is_equal

-- an alternative, and the same of it
pub record BeginsAlternative (text : List ℕ) (is_equal : Bool) (rest : List ℕ) : Type 0 where
  pub alternative : Alternative
  pub regular : IsRegular alternative
  pub spelt : text ≡ alternative_text alternative ++ rest
  pub equal_is : has_equal_bound alternative ≡ is_equal

-- a group, whether it has two alternatives, whether no bound of it has an operator other than `=`,
-- and the text after it
pub record BeginsGroup (text : List ℕ) (two equals : Bool) (rest : List ℕ) : Type 0 where
  pub group : Group
  pub regular : IsRegularGroup group
  pub spelt : text ≡ group_text group ++ rest
  pub two_is : has_two group ≡ two
  pub equals_is : list_all has_equal_bound group ≡ equals

-- the same, with the text of the group
abbrev pub CutsGroup : List ℕ → List ℕ → Bool → Bool → List ℕ → Type 0
CutsGroup text front two equals rest =
    (begins : BeginsGroup text two equals rest) × (group_text begins.group ≡ front)

-- groups that ascend, the text of the last of them, the two tests of all, and the text after them
pub record BeginsRelation (text last : List ℕ) (two equals : Bool) (rest : List ℕ) : Type 0 where
  pub before : Relation
  pub group : Group
  pub regular : IsRegularRelation (append group before)
  pub last_is : group_text group ≡ last
  pub spelt : text ≡ relation_text (append group before) ++ rest
  pub two_is : has_alternatives (append group before) ≡ two
  pub equals_is : only_equals (append group before) ≡ equals

-- a whole relation, and the two tests
pub record IsInPlace (text : List ℕ) (two equals : Bool) : Type 0 where
  pub relation : Relation
  pub regular : IsRegularRelation relation
  pub spelt : text ≡ relation_text relation
  pub two_is : has_alternatives relation ≡ two
  pub equals_is : only_equals relation ≡ equals
