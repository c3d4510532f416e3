-- A source package can be built exactly if a set that is healthy by rows has what it needs.
use Rattle.std.proofs.Common.{◌≡◌, ℕ, ◌≤◌, Bool, true, not, ◌&&◌, List, [], ◌++◌, length, append-nil, codes, sym, ap, ◌∙◌}
use Rattle.std.specs.List.{flat_map, list_all, list_any}
use Rattle.std.proofs.lemmas.Bool.{and_parts, not-true, not_from_false}
use Rattle.std.proofs.lemmas.List.Folds.{list_all-append}
use Rattle.deb_relation.specs.Applying.{Environment}
use Rattle.deb_relation.specs.Meaning.{Alternative}
use Rattle.deb_field.specs.Values.{ValueMeaning}
use Rattle.deb_control.specs.ValueFiles.{ValueEntries}
use Rattle.deb_index.specs.Alternatives.{with_qualifier}
use Rattle.deb_index.specs.Listed.{Listed}
use Rattle.deb_index.specs.Meeting.{meets}
use Rattle.deb_unmet.specs.Asked.{build_fields}
use Rattle.deb_install.specs.Buildable.{build_excludes, build_rows, can_build, conflict_fields, implied_groups, may_build}
use Rattle.deb_install.specs.Laws.{BuildRowsDecide}
use Rattle.deb_install.specs.Members.{members_of}
use Rattle.deb_install.specs.Rows.{candidates, group_rows, rows_of_fields}
use Rattle.deb_install.specs.Passing.{group_passes}
use Rattle.deb_install.specs.declared.readings.Readings.{Readings}
use Rattle.deb_install.specs.declared.readings.Readings.TheVariants.{Every, One}
use Rattle.deb_install.proofs.ListedNumbers.{numbers-listed}
use Rattle.deb_install.proofs.PackageRows.{fields-met, fields-spared, group-rows}
use Rattle.deb_install.proofs.StoredRows.{all-pass, any-same, names_one, rows-same, shared, within-names}
use Rattle.deb_install.proofs.Tests.{all-flat}

abbrev build_essential : Alternative
build_essential = with_qualifier (codes "build-essential") (codes "native")

module _ (readings : Readings) (environment : Environment) (set : ℕ → Bool) (packages : List Listed) (values : ValueEntries ValueMeaning) where
  implied-met : list_all (group_passes readings environment (members_of set packages)) implied_groups ≡ list_all (list_any set) (flat_map (group_rows readings environment packages) implied_groups)
  implied-met =
      (λ i. list_all (λ group. group-rows readings set packages environment group i) implied_groups)
      ∙ sym (all-flat (list_any set) (group_rows readings environment packages) implied_groups)

  pub can-build : can_build readings environment (members_of set packages) values ≡ list_all (list_any set) (build_rows readings environment packages values)
  can-build =
      (λ i. implied-met i && fields-met readings set packages environment values build_fields i)
      ∙ sym (list_all-append (list_any set) (flat_map (group_rows readings environment packages) implied_groups) (rows_of_fields readings environment packages values build_fields))

  pub may-build : may_build readings environment (members_of set packages) values ≡ not (list_any set (build_excludes readings environment packages values))
  may-build = fields-spared readings set packages environment values conflict_fields environment.native []

-- A set that builds a source package has a package: one that meets build-essential.
record HasMember (count : ℕ) (set : ℕ → Bool) : Type 0 where
  pub number : ℕ
  pub listed : (1 ≤ number) × (number ≤ count)
  pub contains : set number ≡ true

candidate-member : (environment : Environment) (set : ℕ → Bool) (packages : List Listed) (a : Alternative) → list_any set (candidates environment packages a ++ []) ≡ true → HasMember (length packages) set
candidate-member environment set packages a some =
    let numbers = candidates environment packages a in
    let s = shared set numbers (ap (list_any set) (sym (append-nil numbers)) ∙ some) in
    record {
      number = s.number;
      listed = within-names (length packages) s.number (all-pass (names_one (length packages)) numbers s.number s.has (numbers-listed (meets environment a) packages));
      contains = s.contains;
    }

some-member : (readings : Readings) (environment : Environment) (set : ℕ → Bool) (packages : List Listed) (values : ValueEntries ValueMeaning) → list_all (list_any set) (build_rows readings environment packages values) ≡ true → HasMember (length packages) set
some-member Every environment set packages values met =
    candidate-member environment set packages build_essential (and_parts (list_any set (candidates environment packages build_essential ++ [])) _ met).0
some-member One environment set packages values met =
    candidate-member environment set packages build_essential (and_parts (list_any set (candidates environment packages build_essential ++ [])) _ met).0

pub build_rows_decide : BuildRowsDecide
build_rows_decide = record {
  by_rows = λ readings t environment packages meaning needs excludes decided values rows excluded same alike buildable.
      let set = buildable.set in
      record {
        set = set;
        healthy = decided.healthy set buildable.healthy;
        abundance = rows-same set rows (build_rows readings environment packages values) same ∙ sym (can-build readings environment set packages values) ∙ buildable.can;
        peace = any-same set excluded (build_excludes readings environment packages values) alike
            ∙ not-true (list_any set (build_excludes readings environment packages values)) (sym (may-build readings environment set packages values) ∙ buildable.may);
      };
  from_rows = λ readings t environment packages meaning needs excludes decided values rows excluded same alike has.
      let set = has.set in
      let met = sym (rows-same set rows (build_rows readings environment packages values) same) ∙ has.abundance in
      let one = some-member readings environment set packages values met in
      record {
        set = set;
        healthy = decided.is_healthy set one.number one.listed.0 one.listed.1 one.contains has.healthy;
        can = can-build readings environment set packages values ∙ met;
        may = may-build readings environment set packages values
            ∙ not_from_false (list_any set (build_excludes readings environment packages values)) (sym (any-same set excluded (build_excludes readings environment packages values) alike) ∙ has.peace);
      };
}
