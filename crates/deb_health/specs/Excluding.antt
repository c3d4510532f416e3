-- Which listed packages a package excludes. Debian Policy 7.3 (Breaks), 7.4 (Conflicts) and 7.5
-- (provided names); qualifiers and the architectures of packages are those of deb-control(5).
use Rattle.std.specs.Prelude.{◌≡◌, ℕ, ◌&&◌, Bool, true, false, not, cond, List, [], ◌∷◌, map, Option, Some, None, codes, refl}
use Rattle.std.specs.Str.{bytes_eq}
use Rattle.deb_version.specs.Places.{version_in}
use Rattle.deb_relation.specs.Meaning.{Alternative}
use Rattle.deb_relation.specs.declared.operator.Op.TheVariants.{Earlier}
use Rattle.deb_index.specs.Alternatives.{alone, with_bound, with_qualifier}
use Rattle.deb_index.specs.Listed.{Listed}
use Rattle.deb_index.specs.Meeting.{effective, meets_by_name}

-- Conflicts and Breaks speak of packages of every architecture where they have no qualifier or the
-- qualifier `any`; with `native` of those of the target, and with another one of that architecture.
-- A package of the architecture `all` is one of the target.
abbrev pub is_spoken_of : List ℕ → Option (List ℕ) → Listed → Bool
is_spoken_of target None p = true
is_spoken_of target (Some qualifier) p =
    cond (bytes_eq qualifier (codes "any")) true
    (cond (bytes_eq qualifier (codes "native"))
    (bytes_eq (effective target p.architecture) target)
    (bytes_eq (effective target p.architecture) qualifier))

-- A package of this name may speak of another one: of another name, and of such an architecture. No
-- package excludes one of its own name, also not by what that provides.
abbrev pub is_other : List ℕ → List ℕ → Option (List ℕ) → Listed → Bool
is_other target name qualifier p =
    not (bytes_eq p.name name) && is_spoken_of target qualifier p

-- An alternative of a package of this name excludes each such package that has or provides the
-- name of the alternative, in a version that meets its bound.
abbrev pub excludes : List ℕ → List ℕ → Alternative → Listed → Bool
excludes target name a p = meets_by_name a p && is_other target name a.qualifier p

-- cc 1.0, which provides vv
abbrev cc_for : List ℕ → Listed
cc_for architecture = record {
  name = codes "cc";
  version = version_in (codes "1.0");
  architecture = architecture;
  multi_arch = None;
  provisions = record { name = codes "vv"; version = None } ∷ [];
}

-- for the target amd64: without a qualifier, with `any`, `native`, `amd64` and `i386`
abbrev spoken : List ℕ → List Bool
spoken architecture =
    map (λ qualifier. is_spoken_of (codes "amd64") qualifier (cc_for architecture))
    (None ∷ Some (codes "any") ∷ Some (codes "native") ∷ Some (codes "amd64")
    ∷ Some (codes "i386") ∷ [])

worked-architectures : map spoken (codes "amd64" ∷ codes "i386" ∷ codes "all" ∷ [])
    ≡ (true ∷ true ∷ true ∷ true ∷ false ∷ [])
    ∷ (true ∷ true ∷ false ∷ false ∷ true ∷ [])
    ∷ (true ∷ true ∷ true ∷ true ∷ false ∷ []) ∷ []
worked-architectures = refl

-- By its name, by what it provides, by a bound that it meets and one that it doesn't, by a bound
-- on what it provides without a version, by another name, and with a qualifier.
abbrev excluded : List ℕ → List Bool
excluded name =
    map (λ a. excludes (codes "amd64") name a (cc_for (codes "i386")))
    (alone (codes "cc") ∷ alone (codes "vv") ∷ with_bound (codes "cc") Earlier (codes "2")
    ∷ with_bound (codes "cc") Earlier (codes "1.0") ∷ with_bound (codes "vv") Earlier (codes "2")
    ∷ alone (codes "c") ∷ with_qualifier (codes "cc") (codes "amd64") ∷ [])

worked-others : excluded (codes "bb") ≡ true ∷ true ∷ true ∷ false ∷ false ∷ false ∷ false ∷ []
worked-others = refl

-- of its own name: also by what that provides
worked-own : excluded (codes "cc") ≡ false ∷ false ∷ false ∷ false ∷ false ∷ false ∷ false ∷ []
worked-own = refl

worked-other : map (λ name. is_other (codes "amd64") name None (cc_for (codes "i386")))
    (codes "bb" ∷ codes "cc" ∷ []) ≡ true ∷ false ∷ []
worked-other = refl
