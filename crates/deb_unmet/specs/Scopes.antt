-- What groups are asked over: the packages that may meet them, those of an old index, if there is
-- one, and the names of binary packages that are left out. That a group that the old index doesn't
-- meet either has no line, and that names are left out, is this project's own.
use Rattle.std.specs.Prelude.{◌≡◌, ℕ, List, [], ◌∷◌, Option, Some, None, codes, refl}
use Rattle.std.specs.Borrow.{Bor}
use Rattle.std.specs.Option.{option_map}
use Rattle.deb_relation.specs.Views.{names_of}
use Rattle.deb_version.specs.Places.{version_in}
use Rattle.deb_index.specs.Indexes.{packages_of}
use Rattle.deb_index.specs.Listed.{Listed}
use Rattle.deb_index.specs.declared.index.Index.{Index}
use Rattle.deb_unmet.specs.declared.question.Question.{Question}

pub record Scope : Type 0 where
  pub packages : List Listed
  pub unless : Option (List Listed)
  pub without : List (List ℕ)

-- these packages, without an old index, and no name is left out
abbrev pub plain : List Listed → Scope
plain packages = record { packages = packages; unless = None; without = [] }

-- other packages
abbrev pub over_packages : List Listed → Scope → Scope
over_packages packages scope =
    record { packages = packages; unless = scope.unless; without = scope.without }

-- another old index, or none
abbrev pub with_old : Option (List Listed) → Scope → Scope
with_old unless scope =
    record { packages = scope.packages; unless = unless; without = scope.without }

-- as the code holds it
abbrev pub old_packages : Option (Bor Index) → Option (List Listed)
old_packages unless = option_map (λ index. packages_of index.now) unless

abbrev pub scope_of : Question → Scope
scope_of question =
    record {
      packages = packages_of question.index.now;
      unless = old_packages question.unless;
      without = names_of question.without.now;
    }

abbrev listed : List ℕ → List Listed
listed name =
    record {
      name = name;
      version = version_in (codes "1");
      architecture = codes "all";
      multi_arch = None;
      provisions = [];
    } ∷ []

worked-scopes : (with_old (Some [])
    (over_packages (listed (codes "bb")) (plain (listed (codes "aa"))))
    ≡ record { packages = listed (codes "bb"); unless = Some []; without = [] })
    × (over_packages []
    (record { packages = listed (codes "aa"); unless = None; without = codes "aa" ∷ [] })
    ≡ record { packages = []; unless = None; without = codes "aa" ∷ [] })
worked-scopes = (refl, refl)
