-- The numbers of excluded packages, one after the other.
use Rattle.std.proofs.Common.{◌≡◌, ℕ, List, [], ◌∷◌, refl, ap}
use Rattle.std.specs.List.{flat_map}
use Rattle.deb_relation.specs.Environments.{environment_of}
use Rattle.deb_relation.specs.Meaning.{Alternative, Group}
use Rattle.deb_index.specs.Indexes.{packages_of}
use Rattle.deb_install.specs.Rows.{excluded_by}
use Rattle.deb_install.specs.declared.exclusions.Excluding.{Excluding}

-- those of an alternative, and of a group
abbrev pub alternatives_of : Excluding → Alternative → List ℕ
alternatives_of e = excluded_by e.readings (environment_of e.environment.now) e.target.now e.name.now (packages_of e.index.now)

abbrev pub groups_of : Excluding → Group → List ℕ
groups_of e = flat_map (alternatives_of e)

-- a list of one for each number
abbrev pub alone : ℕ → List ℕ
alone k = k ∷ []

pub each-alone : (ks : List ℕ) → flat_map alone ks ≡ ks
each-alone [] = refl
each-alone (k ∷ ks) = ap (λ l. k ∷ l) (each-alone ks)
