-- Which targets and build profiles an environment has. Debian Policy 5.6.8 and 11.1.
use Rattle.std.specs.Prelude.{◌≡◌, ℕ, Bool, true, false, not, ◌&&◌, List, [], ◌∷◌, Vec, refl, codes}
use Rattle.std.specs.List.{list_all}
use Rattle.std.specs.Str.{bytes_eq}
use Rattle.std.specs.declared.alloc.Global.{Global}
use Rattle.deb_base.specs.PackageNames.{is_arch_name, is_profile_name, is_wildcard}

abbrev pub bytes_of : Vec ℕ Global → List ℕ
bytes_of bytes = bytes.items

-- the target is the name of an architecture, and neither a wildcard nor `all`
abbrev pub is_target : List ℕ → Bool
is_target name = is_arch_name name && not (is_wildcard name) && not (bytes_eq name (codes "all"))

-- a target, and names of profiles
abbrev pub is_environment : List ℕ → List (List ℕ) → Bool
is_environment target profiles = is_target target && list_all is_profile_name profiles

worked-environment : is_environment (codes "amd64") [] ≡ true
worked-environment = refl

worked-profiles : is_environment (codes "kfreebsd-i386") (codes "nocheck" ∷ codes "pkg.x+y-z" ∷ [])
    ≡ true
worked-profiles = refl

worked-any : is_environment (codes "any") [] ≡ false
worked-any = refl

worked-wildcard : is_environment (codes "linux-any") [] ≡ false
worked-wildcard = refl

worked-all : is_environment (codes "all") [] ≡ false
worked-all = refl

-- `native` is a qualifier in relations; as a target it is a name of an architecture like others
worked-native : is_environment (codes "native") [] ≡ true
worked-native = refl

worked-no_name : is_environment (codes "AMD64") [] ≡ false
worked-no_name = refl

worked-empty : is_environment [] [] ≡ false
worked-empty = refl

worked-bad_profile : is_environment (codes "amd64") (codes "nocheck" ∷ codes "No" ∷ []) ≡ false
worked-bad_profile = refl
