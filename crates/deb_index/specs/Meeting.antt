-- Which listed packages meet an alternative. Debian Policy 7.1 (bounds and qualifiers) and 7.5
-- (provided names); Multi-Arch and its qualifiers are those of deb-control(5).
use Rattle.std.specs.Prelude.{◌≡◌, ℕ, ◌&&◌, ◌||◌, Bool, true, false, cond, List, [], ◌∷◌, map, Option, Some, None, codes, refl}
use Rattle.std.specs.List.{list_any}
use Rattle.std.specs.Str.{bytes_eq}
use Rattle.deb_version.specs.Order.{version_cmp}
use Rattle.deb_version.specs.Parts.{Meaning as Version}
use Rattle.deb_relation.specs.Applying.{Environment, holds}
use Rattle.deb_relation.specs.Environments.{environment_with, with_target}
use Rattle.deb_relation.specs.Meaning.{Alternative}
use Rattle.deb_relation.specs.declared.operator.Op.{Op}
use Rattle.deb_relation.specs.declared.operator.Op.TheVariants.{Earlier, EarlierEqual, Equal, LaterEqual, Later}
use Rattle.deb_field.specs.declared.flag.MultiArch.{MultiArch}
use Rattle.deb_field.specs.declared.flag.MultiArch.TheVariants.{No, Same, Foreign, Allowed}
use Rattle.deb_index.specs.Alternatives.{alone, with_bound, with_qualifier}
use Rattle.deb_index.specs.Listed.{Provision, Listed}
use Rattle.deb_version.specs.Places.{version_in}

-- A version meets a bound if the bound's operator holds of it and the bound's version. Every
-- version meets an absent bound.
abbrev pub meets_bound : Option (Op × Version) → Version → Bool
meets_bound None version = true
meets_bound (Some bound) version = holds bound.0 (version_cmp version bound.1)

-- A provided name with a version meets a bound if that version does; one without a version meets
-- no bound alone (7.5).
abbrev pub provided_meets_bound : Option (Op × Version) → Option Version → Bool
provided_meets_bound None version = true
provided_meets_bound (Some bound) None = false
provided_meets_bound (Some bound) (Some version) = meets_bound (Some bound) version

-- a provided name is that of the alternative, and meets its bound
abbrev pub provision_meets : Alternative → Provision → Bool
provision_meets a p = bytes_eq p.name a.name && provided_meets_bound a.bound p.version

-- By name: the package has the name and its own version meets the bound, or it provides the name
-- and that meets the bound.
abbrev pub meets_by_name : Alternative → Listed → Bool
meets_by_name a p =
    (bytes_eq p.name a.name && meets_bound a.bound p.version)
    || list_any (provision_meets a) p.provisions

-- the architecture that a package counts as: the native one where it is `all`
abbrev pub effective : List ℕ → List ℕ → List ℕ
effective native architecture = cond (bytes_eq architecture (codes "all")) native architecture

-- what Multi-Arch says; where it is absent, `no`
abbrev pub multi_arch_or_no : Option MultiArch → MultiArch
multi_arch_or_no None = No
multi_arch_or_no (Some word) = word

abbrev pub is_foreign : MultiArch → Bool
is_foreign No = false
is_foreign Same = false
is_foreign Foreign = true
is_foreign Allowed = false

abbrev pub is_allowed : MultiArch → Bool
is_allowed No = false
is_allowed Same = false
is_allowed Foreign = false
is_allowed Allowed = true

-- By qualifier: without one the package is of the target or `foreign`; for `any` it is `allowed`;
-- for `native` it is of the target; for any other it is of that architecture.
abbrev pub meets_qualifier : Environment → Option (List ℕ) → Listed → Bool
meets_qualifier environment None p =
    bytes_eq (effective environment.native p.architecture) environment.target
    || is_foreign (multi_arch_or_no p.multi_arch)
meets_qualifier environment (Some qualifier) p =
    cond (bytes_eq qualifier (codes "any")) (is_allowed (multi_arch_or_no p.multi_arch))
    (cond (bytes_eq qualifier (codes "native"))
    (bytes_eq (effective environment.native p.architecture) environment.target)
    (bytes_eq (effective environment.native p.architecture) qualifier))

-- A listed package meets an alternative: by name and by qualifier.
abbrev pub meets : Environment → Alternative → Listed → Bool
meets environment a p =
    meets_by_name a p && meets_qualifier environment a.qualifier p

-- Below, the target is amd64, and hello is version 1.0 for amd64 and provides vv without a version,
-- and ww in version 2.0.
abbrev target : Environment
target = record { target = codes "amd64"; native = codes "amd64"; profiles = [] }

abbrev listed : List ℕ → List ℕ → Option MultiArch → List Provision → Listed
listed name architecture multi_arch provisions =
    record {
      name = name;
      version = version_in (codes "1.0");
      architecture = architecture;
      multi_arch = multi_arch;
      provisions = provisions;
    }

abbrev provision : List ℕ → Option Version → Provision
provision name version = record { name = name; version = version }

abbrev hello : Listed
hello =
    listed (codes "hello") (codes "amd64") None
    (provision (codes "vv") None ∷ provision (codes "ww") (Some (version_in (codes "2.0"))) ∷ [])

-- its own name and what it provides, and no other name
worked-names : map (λ name. meets target (alone name) hello)
    (codes "hello" ∷ codes "vv" ∷ codes "ww" ∷ codes "hell" ∷ codes "helloo" ∷ codes "v" ∷ [])
    ≡ true ∷ true ∷ true ∷ false ∷ false ∷ false ∷ []
worked-names = refl

-- a name with each operator and these versions
abbrev operators : List Op
operators = Earlier ∷ EarlierEqual ∷ Equal ∷ LaterEqual ∷ Later ∷ []

abbrev bounded : Listed → List ℕ → List (List ℕ) → List (List Bool)
bounded p name versions =
    map (λ operator. map (λ version. meets target (with_bound name operator version) p) versions)
    operators

-- its own version, 1.0, against 0, 1.00 and 2
worked-own_version : bounded hello (codes "hello") (codes "0" ∷ codes "1.00" ∷ codes "2" ∷ [])
    ≡ (false ∷ false ∷ true ∷ [])
    ∷ (false ∷ true ∷ true ∷ [])
    ∷ (false ∷ true ∷ false ∷ [])
    ∷ (true ∷ true ∷ false ∷ [])
    ∷ (true ∷ false ∷ false ∷ [])
    ∷ []
worked-own_version = refl

-- the version of the name that it provides, 2.0, against 1.0, 2.00 and 3: its own isn't asked
worked-provided_version : bounded hello (codes "ww") (codes "1.0" ∷ codes "2.00" ∷ codes "3" ∷ [])
    ≡ (false ∷ false ∷ true ∷ [])
    ∷ (false ∷ true ∷ true ∷ [])
    ∷ (false ∷ true ∷ false ∷ [])
    ∷ (true ∷ true ∷ false ∷ [])
    ∷ (true ∷ false ∷ false ∷ [])
    ∷ []
worked-provided_version = refl

-- a provided name without a version meets no bound
worked-no_version : bounded hello (codes "vv") (codes "0" ∷ codes "1.0" ∷ codes "2" ∷ [])
    ≡ map (λ _. false ∷ false ∷ false ∷ []) operators
worked-no_version = refl

-- a package that provides its own name in version 5, and another one without, against 1, 3 and 5
abbrev itself : Listed
itself =
    listed (codes "aa") (codes "amd64") None
    (provision (codes "aa") None ∷ provision (codes "aa") (Some (version_in (codes "5"))) ∷ [])

worked-itself : map
    (λ version. meets target (with_bound (codes "aa") Equal version) itself)
    (codes "1.0" ∷ codes "3" ∷ codes "5" ∷ []) ≡ true ∷ false ∷ true ∷ []
worked-itself = refl

-- Qualifiers of aa: none, `any`, `native`, `amd64`, `i386`, `all` and `linux-any`, where it is of
-- this architecture and has this Multi-Arch.
abbrev qualified : List ℕ → Option MultiArch → List Bool
qualified architecture multi_arch =
    meets target (alone (codes "aa")) (listed (codes "aa") architecture multi_arch [])
    ∷ map
    (λ qualifier. meets target (with_qualifier (codes "aa") qualifier)
    (listed (codes "aa") architecture multi_arch []))
    (codes "any" ∷ codes "native" ∷ codes "amd64" ∷ codes "i386" ∷ codes "all"
    ∷ codes "linux-any" ∷ [])

abbrev words : List (Option MultiArch)
words = None ∷ Some No ∷ Some Same ∷ Some Foreign ∷ Some Allowed ∷ []

worked-target : map (qualified (codes "amd64")) words
    ≡ (true ∷ false ∷ true ∷ true ∷ false ∷ false ∷ false ∷ [])
    ∷ (true ∷ false ∷ true ∷ true ∷ false ∷ false ∷ false ∷ [])
    ∷ (true ∷ false ∷ true ∷ true ∷ false ∷ false ∷ false ∷ [])
    ∷ (true ∷ false ∷ true ∷ true ∷ false ∷ false ∷ false ∷ [])
    ∷ (true ∷ true ∷ true ∷ true ∷ false ∷ false ∷ false ∷ [])
    ∷ []
worked-target = refl

-- `all` is the native architecture, and nothing else
worked-all : map (qualified (codes "all")) words ≡ map (qualified (codes "amd64")) words
worked-all = refl

-- Where amd64 is native and the target is i386: aa for i386, for amd64 and for `all`, without a
-- qualifier, with `native`, `amd64` and `i386`.
abbrev for_i386 : List ℕ → List Bool
for_i386 architecture =
    map (λ qualifier. meets_qualifier (with_target (codes "i386") target) qualifier
    (listed (codes "aa") architecture None []))
    (None ∷ Some (codes "native") ∷ Some (codes "amd64") ∷ Some (codes "i386") ∷ [])

worked-native : map for_i386 (codes "i386" ∷ codes "amd64" ∷ codes "all" ∷ [])
    ≡ (true ∷ true ∷ false ∷ true ∷ [])
    ∷ (false ∷ false ∷ true ∷ false ∷ [])
    ∷ (false ∷ false ∷ true ∷ false ∷ []) ∷ []
worked-native = refl

worked-other : map (qualified (codes "i386")) words
    ≡ (false ∷ false ∷ false ∷ false ∷ true ∷ false ∷ false ∷ [])
    ∷ (false ∷ false ∷ false ∷ false ∷ true ∷ false ∷ false ∷ [])
    ∷ (false ∷ false ∷ false ∷ false ∷ true ∷ false ∷ false ∷ [])
    ∷ (true ∷ false ∷ false ∷ false ∷ true ∷ false ∷ false ∷ [])
    ∷ (false ∷ true ∷ false ∷ false ∷ true ∷ false ∷ false ∷ [])
    ∷ []
worked-other = refl

-- an architecture that is a wildcard is a name like others, and `any` asks Multi-Arch alone
worked-wildcards : (qualified (codes "linux-any") None
    ≡ false ∷ false ∷ false ∷ false ∷ false ∷ false ∷ true ∷ [])
    × (qualified (codes "any") None
    ≡ false ∷ false ∷ false ∷ false ∷ false ∷ false ∷ false ∷ [])
worked-wildcards = (refl, refl)

-- Qualifiers of vv, as above, where aa provides it without a version.
abbrev qualified_name : List ℕ → Option MultiArch → List Bool
qualified_name architecture multi_arch =
    let provider : Listed =
    listed (codes "aa") architecture multi_arch (provision (codes "vv") None ∷ []) in
    meets target (alone (codes "vv")) provider
    ∷ map (λ qualifier. meets target (with_qualifier (codes "vv") qualifier) provider)
    (codes "any" ∷ codes "native" ∷ codes "amd64" ∷ codes "i386" ∷ codes "all"
    ∷ codes "linux-any" ∷ [])

-- The qualifier asks the providing package: a name that is provided is met as its own name is, also
-- that of a `foreign` package of another architecture.
worked-provided_target : map (qualified_name (codes "amd64")) words
    ≡ (true ∷ false ∷ true ∷ true ∷ false ∷ false ∷ false ∷ [])
    ∷ (true ∷ false ∷ true ∷ true ∷ false ∷ false ∷ false ∷ [])
    ∷ (true ∷ false ∷ true ∷ true ∷ false ∷ false ∷ false ∷ [])
    ∷ (true ∷ false ∷ true ∷ true ∷ false ∷ false ∷ false ∷ [])
    ∷ (true ∷ true ∷ true ∷ true ∷ false ∷ false ∷ false ∷ [])
    ∷ []
worked-provided_target = refl

worked-provided_other : map (qualified_name (codes "i386")) words
    ≡ (false ∷ false ∷ false ∷ false ∷ true ∷ false ∷ false ∷ [])
    ∷ (false ∷ false ∷ false ∷ false ∷ true ∷ false ∷ false ∷ [])
    ∷ (false ∷ false ∷ false ∷ false ∷ true ∷ false ∷ false ∷ [])
    ∷ (true ∷ false ∷ false ∷ false ∷ true ∷ false ∷ false ∷ [])
    ∷ (false ∷ true ∷ false ∷ false ∷ true ∷ false ∷ false ∷ [])
    ∷ []
worked-provided_other = refl

-- the architecture that is asked for is the target's, whichever it is
abbrev other_target : List ℕ → Environment
other_target name = environment_with name []

worked-other_targets : map
    (λ name. map (λ architecture. meets (other_target name) (alone (codes "aa"))
    (listed (codes "aa") architecture None []))
    (codes "amd64" ∷ codes "i386" ∷ codes "all" ∷ []))
    (codes "amd64" ∷ codes "i386" ∷ codes "arm64" ∷ [])
    ≡ (true ∷ false ∷ true ∷ []) ∷ (false ∷ true ∷ true ∷ []) ∷ (false ∷ false ∷ true ∷ []) ∷ []
worked-other_targets = refl

worked-native_elsewhere : map
    (λ architecture. meets (other_target (codes "i386"))
    (with_qualifier (codes "aa") (codes "native")) (listed (codes "aa") architecture None []))
    (codes "amd64" ∷ codes "i386" ∷ codes "all" ∷ []) ≡ false ∷ true ∷ true ∷ []
worked-native_elsewhere = refl
