-- Laws of the lines of a set: there is none exactly if the set is healthy and each package is in it
-- or removed, those of a package begin as `unmet` writes them, and canonical text changes none.
-- Debian Policy 5.1 and 7.2 to 7.5; the canonical text is this project's own.
use Rattle.std.specs.Prelude.{◌≡◌, ◌&&◌, ℕ, List, [], ◌++◌}
use Rattle.std.specs.List.{filter}
use Rattle.deb_base.specs.declared.version_text.VersionText.TheVariants.{Canonical}
use Rattle.deb_syntax.specs.Fields.{Field}
use Rattle.deb_relation.specs.Applying.{Environment}
use Rattle.deb_field.specs.Values.{ValueMeaning}
use Rattle.deb_control.specs.Documents.{Meaning, Accepted, canonical_text}
use Rattle.deb_control.specs.Pairs.{Pairwise}
use Rattle.deb_control.specs.ValueFiles.{ValueEntries}
use Rattle.deb_index.specs.Listed.{Listed}
use Rattle.deb_index.specs.Listing.{Lists}
use Rattle.deb_index.specs.Members.{ListsMembers, doc_of, has_values}
use Rattle.deb_index.specs.declared.members.Members.{Members}
use Rattle.deb_unmet.specs.Files.{is_nothing, lines_of}
use Rattle.deb_unmet.specs.Own.{asks_own, asks_over, own_lines}
use Rattle.deb_unmet.specs.Scopes.{plain}
use Rattle.deb_unmet.specs.declared.asked.Strength.{Strength}
use Rattle.deb_health.specs.Health.{asks_healthy, is_healthy}
use Rattle.deb_health.specs.States.{are_settled}

-- No line is written exactly if the set is healthy, and each package of a status file is either in
-- it or removed.
abbrev pub NoLineIfHealthy : Type 0
NoLineIfHealthy =
    (members : Members) (strength : Strength) (environment : Environment) (text : List ℕ)
    (meaning : Meaning) (packages : List Listed)
    → Pairwise Lists (filter (has_values members) meaning) packages
    → is_nothing (own_lines (asks_healthy members strength environment) packages text meaning)
    ≡ (are_settled members meaning
    && is_healthy strength environment packages (filter (has_values members) meaning))

-- The lines of a package begin with those that `unmet` writes of it in the same file.
abbrev pub BeginsAsUnmet : Type 0
BeginsAsUnmet =
    (members : Members) (strength : Strength) (environment : Environment) (packages : List Listed)
    (number : ℕ) (fields : List Field) (values : ValueEntries ValueMeaning) → (others : List ℕ)
    × (lines_of (asks_over (asks_healthy members strength environment) packages) number fields
    values ≡ lines_of
    (asks_over (asks_own members strength Canonical environment (plain [])) packages) number fields
    values ++ others)

-- The lines don't change if the file is replaced by its canonical text.
abbrev pub CanonicalTextChangesNoLine : Type 0
CanonicalTextChangesNoLine =
    (members : Members) (strength : Strength) (environment : Environment) (text : List ℕ)
    (meaning other : Meaning) (packages others : List Listed)
    → Accepted (doc_of members) text meaning → ListsMembers members text packages
    → Accepted (doc_of members) (canonical_text meaning) other
    → ListsMembers members (canonical_text meaning) others
    → own_lines (asks_healthy members strength environment) others (canonical_text meaning) other
    ≡ own_lines (asks_healthy members strength environment) packages text meaning
