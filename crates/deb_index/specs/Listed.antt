-- The packages of a list, with the values of each that a query uses. Debian Policy 5.6.1, 5.6.8,
-- 5.6.12 and 7.5; Multi-Arch is that of deb-control(5).
use Rattle.std.specs.Prelude.{◌≡◌, ℕ, ◌==◌, ◌&&◌, Bool, false, cond, length, is_none, List, [], ◌∷◌, Option, Some, None, codes, refl}
use Rattle.std.specs.List.{flat_map}
use Rattle.std.specs.Option.{option_map}
use Rattle.deb_version.specs.Parts.{Meaning as Version}
use Rattle.deb_relation.specs.Meaning.{Alternative, Group, Relation}
use Rattle.deb_relation.specs.declared.operator.Op.{Op}
use Rattle.deb_relation.specs.declared.operator.Op.TheVariants.{Equal}
use Rattle.deb_field.specs.declared.flag.MultiArch.{MultiArch}
use Rattle.deb_index.specs.Alternatives.{alone, with_bound, with_qualifier, with_list, with_formula}
use Rattle.deb_version.specs.Places.{version_in}

-- a name that a package provides, with its version if it has one
pub record Provision : Type 0 where
  pub name : List ℕ
  pub version : Option Version

-- a listed package: its name, its version, its architecture, what Multi-Arch says, if it is there,
-- and what it provides
pub record Listed : Type 0 where
  pub name : List ℕ
  pub version : Version
  pub architecture : List ℕ
  pub multi_arch : Option MultiArch
  pub provisions : List Provision

-- an entry of Provides is a name, perhaps with a version: one with a qualifier, an architecture
-- list or a formula provides nothing (this project's own)
abbrev pub is_plain : Alternative → Bool
is_plain a = is_none a.qualifier && is_none a.architectures && (length a.formula == 0)

abbrev pub bound_version : Op × Version → Version
bound_version bound = bound.1

abbrev pub provision_in : Alternative → Provision
provision_in a = record { name = a.name; version = option_map bound_version a.bound }

-- what a group of Provides provides: that of its one alternative
abbrev pub provided_by : Group → List Provision
provided_by [] = []
provided_by (a ∷ []) = cond (is_plain a) (provision_in a ∷ []) []
provided_by (a ∷ b ∷ more) = []

-- what the groups of Provides do, in their order
abbrev pub provisions_of : Relation → List Provision
provisions_of groups = flat_map provided_by groups

-- without the field nothing is provided
abbrev pub provisions_in : Option Relation → List Provision
provisions_in None = []
provisions_in (Some groups) = provisions_of groups

-- vv and ww (= 2.0)
worked-provided : provisions_of
    ((alone (codes "vv") ∷ []) ∷ (with_bound (codes "ww") Equal (codes "2.0") ∷ []) ∷ [])
    ≡ record { name = codes "vv"; version = None }
    ∷ record { name = codes "ww"; version = Some (version_in (codes "2.0")) } ∷ []
worked-provided = refl

-- vv:any, vv [amd64], vv <nocheck>, and two alternatives
worked-nothing : provisions_of
    ((with_qualifier (codes "vv") (codes "any") ∷ [])
    ∷ (with_list (codes "vv") false (codes "amd64") ∷ [])
    ∷ (with_formula (codes "vv") (codes "nocheck") ∷ [])
    ∷ (alone (codes "vv") ∷ alone (codes "ww") ∷ []) ∷ []) ≡ []
worked-nothing = refl

worked-no_field : provisions_in None ≡ []
worked-no_field = refl
