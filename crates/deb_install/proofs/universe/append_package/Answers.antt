use Rattle.std.proofs.Common.{rules, ◌≡◌, ◌++◌, ◌∷◌, List, ℕ, true, [], sym, ap, ◌∙◌, subst}
use Rattle.std.proofs.lemmas.Slice.Eq.{bytes_eq-Decides}
use Rattle.deb_relation.specs.Applying.{Environment}
use Rattle.deb_relation.specs.Environments.{environment_of}
use Rattle.deb_health.specs.Lines.{negative_fields}
use Rattle.deb_index.specs.Indexes.{packages_of}
use Rattle.deb_index.proofs.Offered.{on_ok}
use Rattle.deb_unmet.specs.Asked.{fields_with}
use Rattle.deb_unmet.specs.Fields.{environment_for, own_environment, own_or}
use Rattle.deb_unmet.specs.declared.asked.Asked.TheVariants.{Packages}
use Rattle.deb_install.specs.Building.{AreNumbersOf}
use Rattle.deb_install.specs.Rows.{excluded_by_fields, later_duplicates, rows_of_fields}
use Rattle.deb_relation.specs.Views.{names_of}
use Rattle.deb_install.specs.Terms.{left_out_rows}
use Rattle.deb_install.specs.Universes.{setting_of, shared_rows}
use Rattle.deb_install.proofs.NeededRows.{usual-own}
use Rattle.deb_install.proofs.universe.append_package.Goals as goal

pub returns : goal.returns
returns c = λ meaning fields values holds known numbers.
    let listing = c.args.listing.now in
    let strength = listing.strength in
    let environment = environment_of listing.environment.now in
    let packages = packages_of listing.index.now in
    let has = c.line_texts-texts.ensures.texts fields values strength holds.unmet in
    let texts = c.line_texts-texts.result in
    let own0 : environment_of c.own_or-own.result.now ≡ own_or (own_environment (Packages strength) environment texts.architecture.now) environment = search rules in
    let own : environment_of c.own_or-own.result.now ≡ environment_for (Packages strength) environment values =
    own0 ∙ ap (λ a. own_or (own_environment (Packages strength) environment a) environment) has.architecture in
    let s = setting_of listing meaning in
    let target = λ (usual : c.eq.result ≡ true). sym c.target.ensures ∙ (bytes_eq-Decides c.target.result.now c.target-2.result.now).0 (sym c.eq.ensures ∙ usual) ∙ c.target-2.ensures in
    let needs = c.in_ok-append_needs.ensures.appended environment values (shared_rows s) has (record { is = λ usual. usual-own (Packages strength) environment texts.architecture.now _ own0 (target usual); are = known }) numbers in
    let all : Environment → List ℕ → List (List ℕ) = λ e n. rows_of_fields listing.readings e packages values (fields_with strength) ++ (left_out_rows (names_of listing.without.now) n ++ shared_rows s) in
    let row : Environment → List ℕ → List ℕ → List ℕ = λ e t n. excluded_by_fields listing.readings e t n packages values negative_fields ++ later_duplicates t packages c.args.number in
    let e = environment_of c.own_or-own.result.now in
    on_ok
    (λ pushed. record {
      grows = needs.grows;
      row = needs.row;
      needs = needs.needs;
      are = subst (λ n. AreNumbersOf c.append_needs.new.building.groups.rows needs.row (all (environment_for (Packages strength) environment values) n)) has.name
          (subst (λ x. AreNumbersOf c.append_needs.new.building.groups.rows needs.row (all x texts.name.now)) own needs.are);
      excludes = pushed
          ∙ ap (λ rows. rows ++ row e c.native.result.now texts.name.now ∷ []) c.in_ok-append_needs.ensures.others
          ∙ ap (λ x. c.args.building.now.excludes ++ row x c.native.result.now texts.name.now ∷ []) own
          ∙ ap (λ x. c.args.building.now.excludes ++ row (environment_for (Packages strength) environment values) x texts.name.now ∷ []) c.native.ensures
          ∙ ap (λ x. c.args.building.now.excludes ++ row (environment_for (Packages strength) environment values) environment.native x ∷ []) has.name;
      known = needs.knows.are;
    })
    c.append_excludes.result (c.append_excludes.ensures fields values holds)
