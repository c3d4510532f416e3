-- What a program in C asks of the sets of packages that are searched. Debian Policy 3.8 and 7.2;
-- that packages can be left out is this project's own.
use Rattle.std.specs.Prelude.{◌≡◌, ℕ, Bool, true, false, List, [], ◌∷◌, codes, refl}
use Rattle.deb_base.specs.Literals.{lent}
use Rattle.deb_index.specs.declared.members.Members.{Members}
use Rattle.deb_index.specs.declared.members.Members.TheVariants.{Installed}
use Rattle.deb_relation.specs.Views.{names_of}
use Rattle.deb_unmet.specs.declared.asked.Strength.TheVariants.{Depends, Recommends}
use Rattle.deb_install.specs.Installing.{AsksInstallable, asks_installable, terms_by}
use Rattle.deb_install.specs.Terms.{Terms, terms}
use Rattle.deb_install.specs.declared.verdicts.InstallRequest.{InstallRequest}
use Rattle.debctl_ffi.specs.Health.{strength_of}
use Rattle.debctl_ffi.specs.Unmet.{Asker, asker, environment_in, is_set}

-- what is asked of a set, packages of which names have lines (of all, if there is no name), and
-- whether reasons follow the lines
pub record Search : Type 0 where
  pub terms : Terms
  pub names : List (List ℕ)
  pub reasons : Bool

-- by the numbers of C, these names, and those of packages that are left out
abbrev pub search_of : ℕ → ℕ → ℕ → List (List ℕ) → List (List ℕ) → Search
search_of recommends essential reasons names without = record {
  terms = terms (strength_of (is_set recommends)) (is_set essential) without;
  names = names;
  reasons = is_set reasons;
}

-- by the request that the library makes of them
abbrev pub search_by : InstallRequest → Search
search_by request = record {
  terms = terms_by request;
  names = names_of request.names.now;
  reasons = request.reasons;
}

-- the same, asked of a file for an environment
abbrev pub asks_in : Search → Asker → Members → AsksInstallable
asks_in search by members =
    asks_installable members search.terms search.names (environment_in by) search.reasons

-- ---- worked cases

-- what recommended packages need too, with essential packages, without bb, of aa, with reasons
abbrev whole : Search
whole = record {
  terms = terms Recommends true (codes "bb" ∷ []);
  names = codes "aa" ∷ [];
  reasons = true;
}

worked-numbers : (search_of 1 255 2 (codes "aa" ∷ []) (codes "bb" ∷ []) ≡ whole)
    × (search_of 0 0 0 [] []
    ≡ record { terms = terms Depends false []; names = []; reasons = false })
worked-numbers = (refl, refl)

worked-request : search_by (record {
  members = Installed;
  strength = Recommends;
  essential = true;
  without = lent (lent (codes "bb") ∷ []);
  names = lent (lent (codes "aa") ∷ []);
  budget = record { one_search = 1 };
  reasons = true;
}) ≡ whole
worked-request = refl

worked-asks : asks_in whole (asker (codes "amd64") [] []) Installed
    ≡ asks_installable Installed (terms Recommends true (codes "bb" ∷ [])) (codes "aa" ∷ [])
    (environment_in (asker (codes "amd64") [] [])) true
worked-asks = refl
