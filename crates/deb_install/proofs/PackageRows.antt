-- A package, the rows of what it needs and those that it excludes.
use Rattle.std.proofs.Common.{◌≡◌, ℕ, Bool, true, false, cond, not, ◌&&◌, List, [], codes, refl, sym, ap, ◌∙◌}
use Rattle.std.specs.List.{flat_map, list_all, list_any}
use Rattle.deb_relation.specs.Applying.{Environment}
use Rattle.deb_relation.specs.Meaning.{Alternative, Group}
use Rattle.deb_field.specs.Values.{ValueMeaning}
use Rattle.deb_control.specs.FieldWords.{groups_of, value_under, word_under}
use Rattle.deb_control.specs.ValueFiles.{ValueEntries}
use Rattle.deb_index.specs.Listed.{Listed}
use Rattle.deb_index.specs.Named.{numbers_of}
use Rattle.deb_unmet.specs.Asked.{fields_with}
use Rattle.deb_unmet.specs.Fields.{environment_for}
use Rattle.deb_unmet.specs.Readings.{applies_by}
use Rattle.deb_unmet.specs.declared.asked.Asked.TheVariants.{Packages}
use Rattle.deb_unmet.specs.declared.asked.Strength.{Strength}
use Rattle.deb_health.specs.Excluding.{excludes}
use Rattle.deb_health.specs.Lines.{negative_fields}
use Rattle.deb_install.specs.Members.{members_of}
use Rattle.deb_install.specs.Rows.{excluded_by, excluded_by_fields, excluded_numbers, group_rows, needed_rows, rows_of_fields}
use Rattle.deb_install.specs.Passing.{counts, fields_pass, fields_spare, group_passes}
use Rattle.deb_install.specs.declared.readings.Readings.{Readings}
use Rattle.deb_install.specs.declared.readings.Readings.TheVariants.{Every, One}
use Rattle.deb_install.proofs.GroupRows.{every-group, one-group}
use Rattle.deb_install.proofs.Sets.{any-members}
use Rattle.deb_install.proofs.Tests.{all-flat, none-flat}

-- the two conditions on a package
abbrev pub is_abundant_in : Readings → Strength → Environment → List Listed → ValueEntries ValueMeaning → Bool
is_abundant_in readings strength environment packages values =
    fields_pass readings (environment_for (Packages strength) environment values) packages values (fields_with strength)

abbrev pub is_peaceful_in : Readings → Strength → Environment → List Listed → ValueEntries ValueMeaning → Bool
is_peaceful_in readings strength environment packages values =
    fields_spare readings (environment_for (Packages strength) environment values) environment.native (word_under (codes "Package") values) packages values negative_fields

module _ (readings : Readings) (set : ℕ → Bool) (packages : List Listed) where
  abbrev members : List Listed
  members = members_of set packages

  pub group-rows : (own : Environment) (group : Group) → group_passes readings own members group ≡ list_all (list_any set) (group_rows readings own packages group)
  group-rows own group = go readings
    where
      go : (r : Readings) → group_passes r own members group ≡ list_all (list_any set) (group_rows r own packages group)
      go Every = every-group set packages own group
      go One = one-group set packages own group

  one-excludes : (v : Bool) (test : Listed → Bool) → not (list_any set (cond v (numbers_of test packages) [])) ≡ not (v && list_any test members)
  one-excludes true test = ap not (sym (any-members set test 1 packages))
  one-excludes false test = refl

  module _ (own : Environment) (values : ValueEntries ValueMeaning) (fields : List (List ℕ)) where
    abbrev groups : List ℕ → List Group
    groups field = groups_of (value_under field values)

    -- the groups of fields pass exactly if each of their rows has a number of the set
    pub fields-met : fields_pass readings own members values fields ≡ list_all (list_any set) (rows_of_fields readings own packages values fields)
    fields-met =
        let rows : Group → List (List ℕ) = group_rows readings own packages in
        (λ i. list_all (λ field. list_all (λ group. group-rows own group i) (groups field)) fields)
        ∙ (λ i. list_all (λ field. sym (all-flat (list_any set) rows (groups field)) i) fields)
        ∙ sym (all-flat (list_any set) (λ field. flat_map rows (groups field)) fields)

    -- they spare the members exactly if the set has none of the numbers that they exclude
    pub fields-spared : (target name : List ℕ) → fields_spare readings own target name members values fields ≡ not (list_any set (excluded_by_fields readings own target name packages values fields))
    fields-spared target name =
        let row : Alternative → List ℕ = excluded_by readings own target name packages in
        (λ i. list_all (λ field. list_all (λ group. list_all (λ a. sym (one-excludes (counts readings (applies_by own a)) (excludes target name a)) i) group) (groups field)) fields)
        ∙ (λ i. list_all (λ field. list_all (λ group. sym (none-flat set row group) i) (groups field)) fields)
        ∙ (λ i. list_all (λ field. sym (none-flat set (flat_map row) (groups field)) i) fields)
        ∙ sym (none-flat set (λ field. flat_map (flat_map row) (groups field)) fields)

module _ (readings : Readings) (strength : Strength) (environment : Environment) (set : ℕ → Bool) (packages : List Listed) (values : ValueEntries ValueMeaning) where
  -- each row of what it needs has a number of the set
  pub needs-met : is_abundant_in readings strength environment (members_of set packages) values ≡ list_all (list_any set) (needed_rows readings strength environment packages values)
  needs-met = fields-met readings set packages (environment_for (Packages strength) environment values) values (fields_with strength)

  -- the set has none of the numbers that it excludes
  pub none-excluded : is_peaceful_in readings strength environment (members_of set packages) values ≡ not (list_any set (excluded_numbers readings strength environment packages values))
  none-excluded = fields-spared readings set packages (environment_for (Packages strength) environment values) values negative_fields environment.native (word_under (codes "Package") values)
