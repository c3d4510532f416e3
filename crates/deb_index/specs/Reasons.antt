-- Why a listed package that has or provides the name of an alternative doesn't meet it: which of
-- the two conditions of meeting fails. Debian Policy 7.1 and 7.5; the reasons are this project's
-- own.
use Rattle.std.specs.Prelude.{◌≡◌, ℕ, ◌&&◌, ◌||◌, Bool, cond, List, [], ◌∷◌, map, Option, Some, None, codes, refl}
use Rattle.std.specs.List.{list_any}
use Rattle.std.specs.Option.{is_some}
use Rattle.std.specs.Str.{bytes_eq}
use Rattle.deb_version.specs.Parts.{Meaning as Version}
use Rattle.deb_version.specs.Places.{version_in}
use Rattle.deb_relation.specs.Applying.{Environment}
use Rattle.deb_relation.specs.Meaning.{Alternative}
use Rattle.deb_relation.specs.declared.operator.Op.{Op}
use Rattle.deb_relation.specs.declared.operator.Op.TheVariants.{Earlier, EarlierEqual, Equal, LaterEqual, Later}
use Rattle.deb_field.specs.declared.flag.MultiArch.{MultiArch}
use Rattle.deb_field.specs.declared.flag.MultiArch.TheVariants.{Foreign, Allowed}
use Rattle.deb_index.specs.Alternatives.{alone, with_bound, with_qualifier}
use Rattle.deb_index.specs.Listed.{Provision, Listed}
use Rattle.deb_index.specs.Meeting.{meets_by_name, meets_qualifier}
use Rattle.deb_index.specs.declared.reason.Reason.{Reason}
use Rattle.deb_index.specs.declared.reason.Reason.TheVariants.{IsEarlier, IsLater, IsAnother, IsNotLater, IsNotEarlier, HasNoVersion, IsOfAnotherArchitecture, IsNotAllowed}

-- what a version is that an operator doesn't accept
abbrev pub reason_of_operator : Op → Reason
reason_of_operator Earlier = IsNotEarlier
reason_of_operator EarlierEqual = IsLater
reason_of_operator Equal = IsAnother
reason_of_operator LaterEqual = IsEarlier
reason_of_operator Later = IsNotLater

-- a provided name is this one, and has a version
abbrev pub provides_version : List ℕ → Provision → Bool
provides_version name p = bytes_eq p.name name && is_some p.version

-- The name has a version in a package: it is the package's own name, or one that it provides in
-- some version.
abbrev pub has_version : List ℕ → Listed → Bool
has_version name p = bytes_eq p.name name || list_any (provides_version name) p.provisions

-- By name: the operator accepts no version that the name has in the package, or the name has none.
-- (A package that has or provides the name of an alternative without a bound meets it by name.)
abbrev pub reason_of_bound : Option (Op × Version) → Bool → Reason
reason_of_bound None versioned = HasNoVersion
reason_of_bound (Some bound) versioned = cond versioned (reason_of_operator bound.0) HasNoVersion

-- By qualifier: `any` asks for Multi-Arch, every other one and none for an architecture.
abbrev pub reason_of_qualifier : Option (List ℕ) → Reason
reason_of_qualifier None = IsOfAnotherArchitecture
reason_of_qualifier (Some qualifier) =
    cond (bytes_eq qualifier (codes "any")) IsNotAllowed IsOfAnotherArchitecture

-- Why a package that has or provides the name of an alternative doesn't meet it: by name, or else
-- by qualifier. There is no reason if it meets it.
abbrev pub reason : Environment → Alternative → Listed → Option Reason
reason environment a p =
    cond (meets_by_name a p)
    (cond (meets_qualifier environment a.qualifier p) None
    (Some (reason_of_qualifier a.qualifier)))
    (Some (reason_of_bound a.bound (has_version a.name p)))

-- Below, the target is amd64; aa is version 2.0 of this architecture and with this Multi-Arch, and
-- provides vv without a version, ww in version 2.0, and xx without one and in version 2.0.
abbrev target : Environment
target = record { target = codes "amd64"; native = codes "amd64"; profiles = [] }

abbrev provision : List ℕ → Option Version → Provision
provision name version = record { name = name; version = version }

abbrev two : Option Version
two = Some (version_in (codes "2.0"))

abbrev providing : List ℕ → Option MultiArch → List Provision → Listed
providing architecture multi_arch provisions =
    record {
      name = codes "aa";
      version = version_in (codes "2.0");
      architecture = architecture;
      multi_arch = multi_arch;
      provisions = provisions;
    }

abbrev listed : List ℕ → Option MultiArch → Listed
listed architecture multi_arch =
    providing architecture multi_arch
    (provision (codes "vv") None ∷ provision (codes "ww") two ∷ provision (codes "xx") None
    ∷ provision (codes "xx") two ∷ [])

-- a name with each operator and the versions 1, 2.00 and 3
abbrev bounded : Listed → List ℕ → List (List (Option Reason))
bounded p name =
    map (λ operator. map (λ version. reason target (with_bound name operator version) p)
    (codes "1" ∷ codes "2.00" ∷ codes "3" ∷ []))
    (Earlier ∷ EarlierEqual ∷ Equal ∷ LaterEqual ∷ Later ∷ [])

abbrev by_operators : List (List (Option Reason))
by_operators =
    (Some IsNotEarlier ∷ Some IsNotEarlier ∷ None ∷ [])
    ∷ (Some IsLater ∷ None ∷ None ∷ [])
    ∷ (Some IsAnother ∷ None ∷ Some IsAnother ∷ [])
    ∷ (None ∷ None ∷ Some IsEarlier ∷ [])
    ∷ (None ∷ Some IsNotLater ∷ Some IsNotLater ∷ [])
    ∷ []

-- its own name, a name that it provides in a version, and one that it also provides without one
worked-versions : map (bounded (listed (codes "amd64") None))
    (codes "aa" ∷ codes "ww" ∷ codes "xx" ∷ []) ≡ by_operators ∷ by_operators ∷ by_operators ∷ []
worked-versions = refl

-- a name that it provides without a version alone
worked-no_version : bounded (listed (codes "amd64") None) (codes "vv")
    ≡ map
    (λ _. Some HasNoVersion ∷ Some HasNoVersion ∷ Some HasNoVersion ∷ [])
    (Earlier ∷ EarlierEqual ∷ Equal ∷ LaterEqual ∷ Later ∷ [])
worked-no_version = refl

-- a package that also provides its own name, without a version and in version 5
abbrev itself : Listed
itself =
    providing (codes "amd64") None
    (provision (codes "aa") None ∷ provision (codes "aa") (Some (version_in (codes "5"))) ∷ [])

worked-itself : map
    (λ version. reason target (with_bound (codes "aa") Equal version) itself)
    (codes "2.0" ∷ codes "3" ∷ codes "5" ∷ []) ≡ None ∷ Some IsAnother ∷ None ∷ []
worked-itself = refl

-- Qualifiers of a name: none, `any`, `native`, `amd64` and `i386`.
abbrev qualified : List ℕ → Listed → List (Option Reason)
qualified name p =
    reason target (alone name) p
    ∷ map (λ qualifier. reason target (with_qualifier name qualifier) p)
    (codes "any" ∷ codes "native" ∷ codes "amd64" ∷ codes "i386" ∷ [])

-- of amd64, of all, and of i386 with Multi-Arch absent, `foreign` and `allowed`
abbrev by_qualifiers : List (List (Option Reason))
by_qualifiers =
    (None ∷ Some IsNotAllowed ∷ None ∷ None ∷ Some IsOfAnotherArchitecture ∷ [])
    ∷ (None ∷ Some IsNotAllowed ∷ None ∷ None ∷ Some IsOfAnotherArchitecture ∷ [])
    ∷ (Some IsOfAnotherArchitecture ∷ Some IsNotAllowed ∷ Some IsOfAnotherArchitecture
    ∷ Some IsOfAnotherArchitecture ∷ None ∷ [])
    ∷ (None ∷ Some IsNotAllowed ∷ Some IsOfAnotherArchitecture ∷ Some IsOfAnotherArchitecture
    ∷ None ∷ [])
    ∷ (Some IsOfAnotherArchitecture ∷ None ∷ Some IsOfAnotherArchitecture
    ∷ Some IsOfAnotherArchitecture ∷ None ∷ [])
    ∷ []

-- its own name, and one that it provides
worked-qualifiers : map
    (λ name. map (qualified name)
    (listed (codes "amd64") None ∷ listed (codes "all") None ∷ listed (codes "i386") None
    ∷ listed (codes "i386") (Some Foreign) ∷ listed (codes "i386") (Some Allowed) ∷ []))
    (codes "aa" ∷ codes "vv" ∷ []) ≡ by_qualifiers ∷ by_qualifiers ∷ []
worked-qualifiers = refl

-- aa:any (>= version)
abbrev any_from : List ℕ → Alternative
any_from version =
    record {
      name = codes "aa";
      qualifier = Some (codes "any");
      bound = Some (LaterEqual, version_in version);
      architectures = None;
      formula = [];
    }

-- where both fail, the reason is by name
worked-both : map (λ version. reason target (any_from version) (listed (codes "amd64") None))
    (codes "3" ∷ codes "2.0" ∷ []) ≡ Some IsEarlier ∷ Some IsNotAllowed ∷ []
worked-both = refl
