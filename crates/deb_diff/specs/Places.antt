-- Ranks of paragraphs that are kept.
use Rattle.std.specs.Prelude.{◌≡◌, ℕ, Bool, true, false, List, [], ◌++◌, map, None, codes, refl, ◌∷◌}
use Rattle.std.specs.Borrow.{Bor}
use Rattle.std.specs.Fmt.{decimal, digits}
use Rattle.std.specs.Option.{option_map}
use Rattle.std.specs.Ordering.{is_lt, ordering_then}
use Rattle.std.specs.declared.cmp.Ordering.{Ordering}
use Rattle.std.specs.declared.cmp.Ordering.TheVariants.{Less, Equal, Greater}
use Rattle.deb_version.specs.Faults.{first_fault}
use Rattle.deb_version.specs.Version.{meaning_of}
use Rattle.deb_diff.specs.Kepts.{architecture_in, name_in, version_in, aa_1, aa_01}
use Rattle.deb_diff.specs.Ranks.{Placing, latest_first, rank, series_cmp, version_of}
use Rattle.deb_diff.specs.declared.kept.Kept.{Kept}
use Rattle.deb_diff.specs.declared.ranks.Ranked.{Ranked}
use Rattle.deb_base.specs.Literals.{vector}

abbrev pub placing_in : Kept → Placing
placing_in kept =
    record {
      name = name_in kept;
      architecture = architecture_in kept;
      version = version_of (version_in kept);
      number = kept.number;
    }

abbrev pub placing_of_ranked : Ranked → Placing
placing_of_ranked entry =
    record {
      name = entry.name.now;
      architecture = entry.architecture.now;
      version = option_map meaning_of entry.version;
      number = entry.number;
    }

-- by name and architecture, then the latest version first
abbrev pub placing_cmp : Placing → Placing → Ordering
placing_cmp a b = ordering_then (series_cmp a b) (latest_first a b)

abbrev pub comes_first : Ranked → Ranked → Bool
comes_first a b = is_lt (placing_cmp (placing_of_ranked a) (placing_of_ranked b))

-- the place of a paragraph among these
abbrev pub place_among : List Placing → Kept → List ℕ
place_among all kept =
    name_in kept ++ codes " " ++ architecture_in kept ++ codes " "
    ++ decimal (rank all (placing_in kept))

abbrev pub place_in : List Kept → Kept → List ℕ
place_in left kept = place_among (map placing_in left) kept

-- Worked cases.

abbrev lent : List ℕ → Bor (List ℕ)
lent text = record { ref_ptr = (0, 0); now = text }

abbrev ranked : List ℕ → List ℕ → ℕ → Ranked
ranked name architecture number =
    record {
      name = lent name;
      architecture = lent architecture;
      version = None;
      number = number;
    }

abbrev placed : List ℕ → List ℕ → Placing
placed name version =
    record {
      name = name;
      architecture = codes "all";
      version = version_of version;
      number = 1;
    }

-- the name first, then the latest version
worked-order : (placing_cmp (placed (codes "x") (codes "1")) (placed (codes "y") (codes "2"))
    ≡ Less)
    × (placing_cmp (placed (codes "x") (codes "1.10")) (placed (codes "x") (codes "1.9")) ≡ Less)
    × (placing_cmp (placed (codes "x") (codes "1")) (placed (codes "x") (codes "2")) ≡ Greater)
    × (placing_cmp (placed (codes "x") (codes "1")) (placed (codes "x") (codes "1-0")) ≡ Equal)
unfolding first_fault
worked-order = (refl, refl, refl, refl)

-- the name, then the architecture, then the number
worked-comes_first :
    (comes_first (ranked (codes "x") (codes "b") 9) (ranked (codes "y") (codes "a") 1) ≡ true)
    × (comes_first (ranked (codes "x") (codes "b") 1) (ranked (codes "x") (codes "a") 2) ≡ false)
    × (comes_first (ranked (codes "x") (codes "a") 1) (ranked (codes "x") (codes "a") 2) ≡ true)
    × (comes_first (ranked (codes "x") (codes "a") 1) (ranked (codes "x") (codes "a") 1) ≡ false)
worked-comes_first = (refl, refl, refl, refl)

-- of a paragraph alone, and after one of a later version
abbrev aa_2 : Kept
aa_2 = record aa_1 { number = 5; words = vector (codes "aa2all") refl }

worked-place : (placing_in aa_01 ≡ record {
  name = codes "aa";
  architecture = codes "all";
  version = version_of (codes "1");
  number = 4;
}) × (place_in [] aa_1 ≡ codes "aa all 0") × (place_in (aa_01 ∷ aa_2 ∷ []) aa_1 ≡ codes "aa all 1")
unfolding digits first_fault
worked-place = (refl, refl, refl)
