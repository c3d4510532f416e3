-- The rows of what a package needs, by what they are read by.
use Rattle.std.proofs.Common.{ℕ, Bool, List}
use Rattle.deb_relation.specs.Environments.{environment_of}
use Rattle.deb_relation.specs.Views.{names_of}
use Rattle.deb_relation.specs.Meaning.{Alternative, Group}
use Rattle.deb_field.specs.Values.{ValueMeaning}
use Rattle.deb_control.specs.ValueFiles.{ValueEntries}
use Rattle.deb_index.specs.Indexes.{packages_of}
use Rattle.deb_unmet.specs.Readings.{applies_by, surely}
use Rattle.deb_install.specs.Candidates.{candidates_if, rows_if_may}
use Rattle.deb_install.specs.Rows.{group_rows}
use Rattle.deb_install.specs.Terms.{rows_if_essential}
use Rattle.deb_install.specs.declared.needs.Needing.{Needing}
use Rattle.deb_install.specs.declared.universe.Listing.{Listing}

abbrev pub rows_of : Needing → Group → List (List ℕ)
rows_of n = group_rows n.readings (environment_of n.environment.now) (packages_of n.index.now)

abbrev pub sure_of : Needing → Alternative → Bool
sure_of n a = surely (applies_by (environment_of n.environment.now) a)

abbrev pub each_of : Needing → Alternative → List (List ℕ)
each_of n = rows_if_may (environment_of n.environment.now) (packages_of n.index.now)

abbrev pub counted_of : Needing → Alternative → List ℕ
counted_of n = candidates_if n.readings (environment_of n.environment.now) (packages_of n.index.now)

abbrev pub essential_of : Listing → ValueEntries ValueMeaning → List (List ℕ)
essential_of listing = rows_if_essential (names_of listing.without.now) (environment_of listing.environment.now).native (packages_of listing.index.now)
