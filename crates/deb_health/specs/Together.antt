-- Which packages of one name can be installed together. Debian Policy 5.6.1 and 5.6.8; Multi-Arch
-- is that of deb-control(5).
use Rattle.std.specs.Prelude.{◌≡◌, ℕ, ◌&&◌, Bool, true, false, not, List, [], ◌∷◌, map, Option, Some, None, codes, refl}
use Rattle.std.specs.Str.{bytes_eq}
use Rattle.deb_version.specs.Canonical.{version_text}
use Rattle.deb_version.specs.Places.{version_in}
use Rattle.deb_field.specs.declared.flag.MultiArch.{MultiArch}
use Rattle.deb_field.specs.declared.flag.MultiArch.TheVariants.{No, Same, Foreign, Allowed}
use Rattle.deb_index.specs.Listed.{Listed}
use Rattle.deb_index.specs.Meeting.{effective, multi_arch_or_no}

abbrev pub is_same : MultiArch → Bool
is_same No = false
is_same Same = true
is_same Foreign = false
is_same Allowed = false

-- Two packages of one name can be installed together if both are `Multi-Arch: same`, of different
-- architectures, and of equal versions, which have one canonical text. A package of the
-- architecture `all` is one of the target.
abbrev pub are_together : List ℕ → Listed → Listed → Bool
are_together target p q =
    (is_same (multi_arch_or_no p.multi_arch) && is_same (multi_arch_or_no q.multi_arch))
    && (not (bytes_eq (effective target p.architecture) (effective target q.architecture))
    && bytes_eq (version_text p.version) (version_text q.version))

-- A package rules out another of its name that can't be installed together with it.
abbrev pub rules_out : List ℕ → Listed → Listed → Bool
rules_out target p q = bytes_eq q.name p.name && not (are_together target p q)

-- a package of this name, version, architecture and Multi-Arch
abbrev of : List ℕ → List ℕ → List ℕ → Option MultiArch → Listed
of name version architecture multi_arch = record {
  name = name;
  version = version_in version;
  architecture = architecture;
  multi_arch = multi_arch;
  provisions = [];
}

abbrev aa : Listed
aa = of (codes "aa") (codes "1.0") (codes "amd64") (Some Same)

-- for the target amd64, beside aa 1.0 for amd64, which is `Multi-Arch: same`
abbrev beside : List ℕ → List ℕ → Option MultiArch → Bool
beside version architecture multi_arch =
    are_together (codes "amd64") aa (of (codes "aa") version architecture multi_arch)

-- another architecture and an equal version; another version; the same architecture, also as
-- `all`; and each other Multi-Arch
worked-together : beside (codes "1.00-0") (codes "i386") (Some Same)
    ∷ beside (codes "1.1") (codes "i386") (Some Same)
    ∷ beside (codes "1.0") (codes "amd64") (Some Same)
    ∷ beside (codes "1.0") (codes "all") (Some Same)
    ∷ map (beside (codes "1.0") (codes "i386")) (None ∷ Some No ∷ Some Foreign ∷ Some Allowed ∷ [])
    ≡ true ∷ false ∷ false ∷ false ∷ false ∷ false ∷ false ∷ false ∷ []
worked-together = refl

-- itself, another architecture, another version, and another name
worked-ruled_out : map (rules_out (codes "amd64") aa)
    (aa ∷ of (codes "aa") (codes "1.0") (codes "i386") (Some Same)
    ∷ of (codes "aa") (codes "2") (codes "i386") (Some Same)
    ∷ of (codes "bb") (codes "2") (codes "amd64") None ∷ [])
    ≡ true ∷ false ∷ true ∷ false ∷ []
worked-ruled_out = refl
