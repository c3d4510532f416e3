-- What a relationship field means. Debian Policy 7.1; restriction formulas are this project's own,
-- after dpkg's build profiles.
use Rattle.std.specs.Prelude.{ℕ, Bool, List, Option}
use Rattle.deb_relation.specs.declared.operator.Op.{Op}
use Rattle.deb_version.specs.Parts.{Meaning as Version}

-- an item of a restriction list: whether `!` is before it, and the profile
abbrev pub Item : Type 0
Item = Bool × List ℕ

-- the items of a restriction list, a set
abbrev pub Restrictions : Type 0
Restrictions = List Item

-- a name and what is asked of a package of that name: a qualifier; an operator and a version; an
-- architecture list, with `!` or without, a set of names; and a formula, a set of restriction
-- lists. Each set is the ascending list of its members' texts, each once.
pub record Alternative : Type 0 where
  pub name : List ℕ
  pub qualifier : Option (List ℕ)
  pub bound : Option (Op × Version)
  pub architectures : Option (Bool × List (List ℕ))
  pub formula : List Restrictions

-- alternatives in their order
abbrev pub Group : Type 0
Group = List Alternative

-- a set of groups, the ascending list by their texts
abbrev pub Relation : Type 0
Relation = List Group
