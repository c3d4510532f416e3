-- What an `Env` represents.
use Rattle.std.proofs.Common.{◌≡◌, ℕ, List, [], ◌∷◌, map, codes, refl}
use Rattle.deb_relation.specs.declared.environment.Env.{Env}
use Rattle.deb_relation.specs.Applying.{Environment}
use Rattle.deb_relation.specs.Targets.{bytes_of}
use Rattle.deb_base.specs.Literals.{vector}

abbrev pub environment_with : List ℕ → List (List ℕ) → Environment
environment_with target profiles =
    record { target = target; native = target; profiles = profiles }

-- another target, and the same native architecture and profiles
abbrev pub with_target : List ℕ → Environment → Environment
with_target target environment =
    record {
      target = target;
      native = environment.native;
      profiles = environment.profiles;
    }

abbrev pub environment_of : Env → Environment
environment_of environment =
    record {
      target = environment.target.items;
      native = environment.native.items;
      profiles = map bytes_of environment.profiles.items;
    }

worked-environment : environment_with (codes "amd64") (codes "nocheck" ∷ [])
    ≡ record { target = codes "amd64"; native = codes "amd64"; profiles = codes "nocheck" ∷ [] }
worked-environment = refl

worked-target : with_target (codes "i386") (environment_with (codes "amd64") (codes "cross" ∷ []))
    ≡ record { target = codes "i386"; native = codes "amd64"; profiles = codes "cross" ∷ [] }
worked-target = refl

-- the profiles in their order
worked-profiles : environment_of (record {
  target = vector (codes "i386") refl;
  native = vector (codes "amd64") refl;
  profiles = vector (vector (codes "nocheck") refl ∷ vector (codes "cross") refl ∷ []) refl;
}) ≡ record {
  target = codes "i386";
  native = codes "amd64";
  profiles = codes "nocheck" ∷ codes "cross" ∷ [];
}
worked-profiles = refl
