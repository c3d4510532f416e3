-- The names of those so far.
use Rattle.std.proofs.Common.{◌≡◌, codes, map, take}
use Rattle.std.specs.List.{filter}
use Rattle.deb_control.specs.Documents.{Meaning}
use Rattle.deb_control.specs.FieldWords.{word_under}
use Rattle.deb_control.specs.Pairs.{Pairwise}
use Rattle.deb_relation.specs.Environments.{environment_of}
use Rattle.deb_relation.specs.Views.{names_of}
use Rattle.deb_install.specs.Keeping.{HoldsValues}
use Rattle.deb_install.specs.Terms.{is_essential}
use Rattle.deb_install.proofs.essential_names.texts_of_names.Given as goal

abbrev pub invariant-loop-count : goal.invariant-loop-count
invariant-loop-count l =
    (meaning : Meaning) → Pairwise HoldsValues meaning l.kept
    → names_of l.names.items ≡ map (word_under (codes "Package")) (filter (is_essential (names_of l.listing.without.now) (environment_of l.listing.environment.now).native) (take l.count meaning))
