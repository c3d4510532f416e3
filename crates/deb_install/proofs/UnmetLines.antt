-- A package with a line of deb_unmet isn't installable.
use Rattle.std.proofs.Common.{◌≡◌, ℕ, ◌+◌, Bool, true, false, ◌&&◌, List, sym, ap, ◌∙◌, arith}
use Rattle.std.specs.List.{list_all}
use Rattle.std.proofs.lemmas.Bool.{and_parts, false≢true}
use Rattle.deb_relation.specs.Applying.{Environment}
use Rattle.deb_relation.specs.Meaning.{Group}
use Rattle.deb_field.specs.Values.{ValueMeaning}
use Rattle.deb_control.specs.Documents.{Meaning}
use Rattle.deb_control.specs.FieldWords.{groups_of, value_under}
use Rattle.deb_control.specs.ValueFiles.{ValueEntries}
use Rattle.deb_index.specs.Listed.{Listed}
use Rattle.deb_unmet.specs.Asked.{fields_with}
use Rattle.deb_unmet.specs.Fields.{environment_for}
use Rattle.deb_unmet.specs.Troubles.{can_be_otherwise, can_be_unmet}
use Rattle.deb_unmet.specs.declared.asked.Asked.TheVariants.{Packages}
use Rattle.deb_health.specs.Health.{are_apart}
use Rattle.deb_install.specs.Installable.{IsInstallable, is_healthy_in}
use Rattle.deb_install.specs.Laws.{HasUnmetLine, UnmetIsNotInstallable}
use Rattle.deb_install.specs.Members.{members_of}
use Rattle.deb_install.specs.Passing.{group_passes}
use Rattle.deb_install.specs.Terms.{Terms, is_allowed}
use Rattle.deb_install.specs.declared.readings.Readings.{Readings}
use Rattle.deb_install.specs.declared.readings.Readings.TheVariants.{Every, One}
use Rattle.deb_install.proofs.EveryOne.{not-unmet}
use Rattle.deb_install.proofs.HealthyRows.{by-parts}
use Rattle.deb_install.proofs.PackageRows.{is_abundant_in, is_peaceful_in}
use Rattle.deb_install.proofs.Smaller.{all-contained, member-at, passes-more}

-- where all listed packages together don't meet a group that a package needs
not-passing : (readings : Readings) (t : Terms) (environment : Environment) (packages : List Listed) (meaning : Meaning) (k : ℕ) (is_unsure : Bool) (line : HasUnmetLine t.strength environment packages meaning k is_unsure)
    → (group_passes readings (environment_for (Packages t.strength) environment line.values) packages line.group ≡ true → ⊥)
    → IsInstallable readings t environment packages meaning (k + 1) → ⊥
not-passing readings t environment packages meaning k is_unsure line fails installable =
    let set = installable.set in
    let members = members_of set packages in
    let own = environment_for (Packages t.strength) environment line.values in
    let passes : Group → Bool = group_passes readings own members in
    let good : ValueEntries ValueMeaning → Bool = λ values. is_abundant_in readings t.strength environment members values && is_peaceful_in readings t.strength environment members values in
    let healthy = and_parts (list_all good (members_of set meaning)) (are_apart environment.native members) (sym (by-parts readings t.strength environment members (members_of set meaning))
    ∙ (and_parts (is_allowed t environment.native meaning members) (is_healthy_in readings t.strength environment members (members_of set meaning)) installable.healthy).1) in
    let number : 1 + k ≡ k + 1 = omega arith in
    let own_good = member-at set good 1 meaning k line.values healthy.0 line.is (ap set number ∙ installable.contains) in
    let abundant = (and_parts (is_abundant_in readings t.strength environment members line.values) (is_peaceful_in readings t.strength environment members line.values) own_good).0 in
    let field_passes = all-contained (λ field. list_all passes (groups_of (value_under field line.values))) (fields_with t.strength) line.field abundant line.asked in
    fails (passes-more set packages own readings line.group (all-contained passes (groups_of (value_under line.field line.values)) line.group field_passes line.needed))

pub unmet_is_not : UnmetIsNotInstallable
unmet_is_not = record {
  in_every = λ t environment packages meaning k is_unsure line. not-passing Every t environment packages meaning k is_unsure line
      (λ passes. not-unmet _ _ (can_be_unmet (environment_for (Packages t.strength) environment line.values) packages line.group) (can_be_otherwise (environment_for (Packages t.strength) environment line.values) packages line.group) passes line.unmet);
  in_one = λ t environment packages meaning k line. not-passing One t environment packages meaning k false line
      (λ passes. false≢true (sym line.otherwise ∙ passes));
}
