-- A worked case of what is kept of an index whose value is written out here: a package of the first
-- of two files, and two of the second.
use Rattle.std.specs.Prelude.{◌≡◌, ℕ, ◌+◌, List, [], ◌∷◌, None, codes, refl}
use Rattle.std.proofs.Common.{ap}
use Rattle.deb_base.specs.Literals.{vector}
use Rattle.deb_version.specs.Places.{version_in}
use Rattle.deb_index.specs.Listed.{Listed}
use Rattle.deb_index.specs.Stores.{listed_in}
use Rattle.deb_index.specs.declared.index.Index.{Index}
use Rattle.deb_index.specs.declared.store.Record.{Record}
use Rattle.deb_index.specs.declared.store.Store.{Store}
use Rattle.debctl_ffi.specs.Queries.{kept_by}

-- its name has two letters, its version one, and its architecture three
abbrev record_from : ℕ → Record
record_from start =
    record {
      start = start;
      name_end = start + 2;
      version_end = start + 3;
      besides_end = start + 3;
      architecture_end = start + 6;
      first = 0;
      entries_end = 0;
      line = 1;
      multi_arch = None;
    }

abbrev three_packages : Store
three_packages =
    record {
      bytes = vector (codes "aa1allbb2allaa3all") refl;
      entries = vector [] refl;
      records = vector (record_from 0 ∷ record_from 6 ∷ record_from 12 ∷ []) refl;
      files = vector (1 ∷ 2 ∷ []) refl;
    }

abbrev listed : List ℕ → List ℕ → Listed
listed name version =
    record {
      name = name;
      version = version_in version;
      architecture = codes "all";
      multi_arch = None;
      provisions = [];
    }

kept_of_two_files : (index : Index) → index.store ≡ three_packages
    → kept_by index ≡ record {
      packages =
          listed (codes "aa") (codes "1") ∷ listed (codes "bb") (codes "2")
          ∷ listed (codes "aa") (codes "3") ∷ [];
      counts = 1 ∷ 2 ∷ [];
    }
kept_of_two_files index =
    ap (λ store. record { packages = listed_in store; counts = store.files.items })
