use Rattle.std.proofs.Common.{◌++◌, [], codes, append-nil, ap, sym, ◌∙◌}
use Rattle.std.specs.Option.{option_map_or}
use Rattle.deb_index.proofs.Offered.{on_ok}
use Rattle.deb_index.specs.Indexes.{packages_of}
use Rattle.deb_index.specs.Kept.{listed_of}
use Rattle.deb_index.specs.Named.{package_at}
use Rattle.deb_index.specs.ReportText.{canonical_version, package_line}
use Rattle.deb_install.specs.SourceReasonLines.{source_with}
use Rattle.deb_install.proofs.source_reason_lines.append_build_exclusion.Goals as goal

pub returns-in-Some : goal.returns-in-Some
returns-in-Some c = λ kind others holds.
    let explaining = c.args.explaining.now in
    let packages = packages_of explaining.packages.now.listing.now.index.now in
    let out = c.args.out.now.items in
    let number = c.args.number in
    let excluded = c.args.excluded in
    let p = listed_of c.in-Some.«package» in
    on_ok
    (λ is. is
    ∙ ap (λ n. out ++ source_with kind others number (codes " excludes" ++ package_line canonical_version (n, p))) c.from-in-Some.ensures
    ∙ ap (λ o. out ++ option_map_or (λ q. source_with kind others number (codes " excludes" ++ package_line canonical_version (excluded, q))) o []) (c.in-Some.ensures.listed ∙ ap (λ n. package_at n packages) c.from.ensures))
    c.append_with_package.result (c.append_with_package.ensures kind others holds)

pub returns-in-None : goal.returns-in-None
returns-in-None c = λ kind others holds.
    let explaining = c.args.explaining.now in
    let packages = packages_of explaining.packages.now.listing.now.index.now in
    let out = c.args.out.now.items in
    sym (append-nil out)
    ∙ ap (λ o. out ++ option_map_or (λ q. source_with kind others c.args.number (codes " excludes" ++ package_line canonical_version (c.args.excluded, q))) o []) (c.in-None.ensures.listed ∙ ap (λ n. package_at n packages) c.from.ensures)
