use Rattle.std.proofs.Common.{◌++◌, ◌∷◌, [], refl, ap, ◌∙◌}
use Rattle.deb_index.proofs.Offered.{on_ok}
use Rattle.deb_index.specs.Indexes.{packages_of}
use Rattle.deb_relation.specs.Environments.{environment_of}
use Rattle.deb_install.specs.Buildable.{conflict_fields}
use Rattle.deb_install.specs.Rows.{excluded_by_fields}
use Rattle.deb_install.proofs.source_rows.append_source.Goals as goal

pub returns : goal.returns
returns c = λ meaning values holds known.
    let listing = c.args.listing.now in
    let environment = environment_of listing.environment.now in
    let needs = c.in_ok-append_needs.ensures.appended environment values holds (record { is = λ usual. refl; are = known }) in
    on_ok
    (λ pushed. record {
      grows = needs.grows;
      row = needs.row;
      needs = needs.needs;
      are = needs.are;
      excludes = pushed
          ∙ ap (λ rows. rows ++ excluded_by_fields listing.readings environment c.native.result.now [] (packages_of listing.index.now) values conflict_fields ∷ []) c.in_ok-append_needs.ensures.others
          ∙ ap (λ target. c.args.building.now.excludes ++ excluded_by_fields listing.readings environment target [] (packages_of listing.index.now) values conflict_fields ∷ []) c.native.ensures;
      known = needs.knows.are;
    })
    c.append_excludes.result (c.append_excludes.ensures values holds)
