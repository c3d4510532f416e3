-- What each relation is that a text spells: its groups, lists and restriction lists aren't empty,
-- its names are names, its versions have a text, and its sets ascend. Debian Policy 7.1.
use Rattle.std.specs.Prelude.{◌≢◌, ℕ, List, [], IsTrue, IfSome}
use Rattle.std.specs.List.{AllByRecursion}
use Rattle.deb_base.specs.PackageNames.{is_package_name, is_arch_name, is_profile_name}
use Rattle.deb_version.specs.Canonical.{version_text}
use Rattle.deb_version.specs.Grammar.{SpellsVersion}
use Rattle.deb_relation.specs.Grammar.{SpellsRelation}
use Rattle.deb_relation.specs.Laws.{Ascends}
use Rattle.deb_relation.specs.Meaning.{Restrictions, Alternative, Group, Relation}
use Rattle.deb_relation.specs.Sets.{itself}
use Rattle.deb_relation.specs.Texts.{item_text, restrictions_text, group_text}

-- the names of an architecture list
pub record IsNames (names : List (List ℕ)) : Type 0 where
  pub some : names ≢ []
  pub ascend : Ascends itself names
  pub are_names : AllByRecursion (λ name. IsTrue (is_arch_name name)) names

-- the items of a restriction list
pub record IsItems (items : Restrictions) : Type 0 where
  pub some : items ≢ []
  pub ascend : Ascends item_text items
  pub are_profiles : AllByRecursion (λ item. IsTrue (is_profile_name item.1)) items

pub record IsRegular (a : Alternative) : Type 0 where
  pub name : IsTrue (is_package_name a.name)
  pub qualifier : IfSome a.qualifier (λ q. IsTrue (is_arch_name q))
  pub bound : IfSome a.bound (λ b. SpellsVersion (version_text b.1) b.1)
  pub architectures : IfSome a.architectures (λ list. IsNames list.1)
  pub lists : AllByRecursion IsItems a.formula
  pub ascend : Ascends restrictions_text a.formula

pub record IsRegularGroup (group : Group) : Type 0 where
  pub some : group ≢ []
  pub each : AllByRecursion IsRegular group

pub record IsRegularRelation (m : Relation) : Type 0 where
  pub groups : AllByRecursion IsRegularGroup m
  pub ascend : Ascends group_text m

-- What a text spells is regular.
abbrev pub SpelledIsRegular : Type 0
SpelledIsRegular = (text : List ℕ) (m : Relation) → SpellsRelation text m → IsRegularRelation m
