-- A universe decides which packages are installable.
use Rattle.std.proofs.Common.{◌≡◌, ℕ, ◌+◌, ◌≤◌, Bool, true, length, sym, ap, ◌∙◌}
use Rattle.deb_control.specs.Pairs.{Pairwise}
use Rattle.deb_control.proofs.GivenValues.{pairwise-length}
use Rattle.deb_index.specs.Listing.{Lists}
use Rattle.deb_solve.specs.Health.{IsHealthy, IsInstallable as IsInstallableIn}
use Rattle.deb_solve.specs.declared.universe.Universe.{Universe}
use Rattle.deb_install.specs.Installable.{IsInstallable, is_healthy_by_terms}
use Rattle.deb_install.specs.Laws.{AreDecidedBy}
use Rattle.deb_install.specs.Universes.{IsUniverseOf, Setting}
use Rattle.deb_install.proofs.InstallableRows.{rows_decide}
use Rattle.deb_install.proofs.ListedRows.{excludes_in, fitting-healthy, healthy-fitting, rows_in}
use Rattle.deb_install.proofs.Universes.{are-rows}

module _ (s : Setting) (u : Universe) (is : IsUniverseOf s u) (lists : Pairwise Lists s.values s.packages) where
  decided : AreDecidedBy s.readings s.terms s.environment s.packages s.values (rows_in u.needs u.groups u.excludes) (excludes_in u.needs u.groups u.excludes)
  decided = rows_decide s.readings s.terms s.environment s.packages s.values (rows_in u.needs u.groups u.excludes) (excludes_in u.needs u.groups u.excludes) lists (are-rows s u.needs u.groups u.excludes is)

  long : length u.needs ≡ length s.packages + 1
  long = is.needs_each ∙ ap (λ n. n + 1) (sym (pairwise-length Lists s.values s.packages lists))

  pub installable-in : (number : ℕ) → IsInstallable s.readings s.terms s.environment s.packages s.values number → IsInstallableIn u number
  installable-in number installable =
      let has = decided.installable number installable in
      record {
        set = has.set;
        is_healthy = healthy-fitting u.needs u.groups u.excludes (length s.packages) has.set long has.listed has.healthy;
        contains = has.contains;
      }

  -- a healthy set of the universe is a healthy set of the packages
  pub healthy-in : (set : ℕ → Bool) (number : ℕ) → 1 ≤ number → number ≤ length s.packages → set number ≡ true → IsHealthy u set → is_healthy_by_terms s.readings s.terms s.environment s.packages s.values set ≡ true
  healthy-in set number some most contains healthy = decided.is_healthy set number some most contains (fitting-healthy u.needs u.groups u.excludes (length s.packages) set healthy)

  pub in-installable : (number : ℕ) → 1 ≤ number → number ≤ length s.packages → IsInstallableIn u number → IsInstallable s.readings s.terms s.environment s.packages s.values number
  in-installable number some most has = record {
    set = has.set;
    contains = has.contains;
    listed = (some, most);
    healthy = healthy-in has.set number some most has.contains has.is_healthy;
  }
