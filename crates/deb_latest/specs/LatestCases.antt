-- Worked cases of what the contracts see of the code's values, which are written out here.
use Rattle.std.specs.Prelude.{◌≡◌, ℕ, [], ◌∷◌, map, None, Some, Vec, codes, refl}
use Rattle.std.specs.declared.alloc.Global.{Global}
use Rattle.std.proofs.Common.{ap}
use Rattle.std.proofs.Math.Dec.{lit≤}
use Rattle.indexmap.specs.IndexMap.{IndexMap}
use Rattle.indexmap.specs.Layout.{hash_map}
use Rattle.deb_base.specs.Literals.{lent, vector}
use Rattle.deb_version.specs.Places.{version_in}
use Rattle.deb_version.specs.declared.version.Version.{Version}
use Rattle.deb_latest.specs.Bests.{best_kept, best_under, kept_of}
use Rattle.deb_latest.specs.Reads.{kind_of}
use Rattle.deb_latest.specs.Requests.{asked_of}
use Rattle.deb_latest.specs.declared.bests.Best.{Best}
use Rattle.deb_latest.specs.declared.kind.Kind.TheVariants.{Packages, Sources}
use Rattle.deb_latest.specs.declared.latest.Latest.{Latest}
use Rattle.deb_latest.specs.declared.request.By.TheVariants.{Name, NameAndArchitecture}

-- ---- what is asked for

-- 2:1.0-3
abbrev early : Version
early = record {
  epoch = Some (lent (codes "2"));
  upstream = lent (codes "1.0");
  revision = Some (lent (codes "3"));
  well_formed = refl;
  short = lit≤ tt;
}

worked-asked : (asked_of (record { kind = Packages; by = Name; before = Some early })
    ≡ record { kind = Packages; by = Name; limit = Some (version_in (codes "2:1.0-3")) })
    × (asked_of (record { kind = Sources; by = NameAndArchitecture; before = None })
    ≡ record { kind = Sources; by = NameAndArchitecture; limit = None })
worked-asked = (refl, refl)

worked-kind : (latest : Latest) → latest.kind ≡ Sources
    → map kind_of (latest ∷ []) ≡ Sources ∷ []
worked-kind latest = ap (λ kind. kind ∷ [])

-- ---- what is kept

-- of a paragraph with version 1:1
worked-kept_of :
    kept_of (record { number = 3; key = codes "aa"; version = version_in (codes "1:1") })
    ≡ (1 ∷ 1 ∷ 49 ∷ 2 ∷ 1 ∷ 49 ∷ 2 ∷ 2 ∷ 0 ∷ 2 ∷ [], 3)
worked-kept_of = refl

worked-best_kept : best_kept (record { version = vector (1 ∷ 0 ∷ []) refl; number = 3 })
    ≡ (1 ∷ 0 ∷ [], 3)
worked-best_kept = refl

-- aa and bb: names that are there, a prefix of one, one that begins with one, and another one
abbrev bests : IndexMap (Vec ℕ Global) Best ℕ
bests = hash_map
    ((vector (codes "aa") refl, record { version = vector (1 ∷ 0 ∷ []) refl; number = 3 })
    ∷ (vector (codes "bb") refl, record { version = vector (1 ∷ []) refl; number = 2 }) ∷ [])
    0 0

worked-best_under : map (best_under bests)
    (codes "aa" ∷ codes "bb" ∷ codes "a" ∷ codes "aab" ∷ codes "cc" ∷ [])
    ≡ Some (1 ∷ 0 ∷ [], 3) ∷ Some (1 ∷ [], 2) ∷ None ∷ None ∷ None ∷ []
worked-best_under = refl
