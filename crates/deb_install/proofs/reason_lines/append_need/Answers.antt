use Rattle.std.proofs.Common.{◌≡◌, ◌++◌, [], append-nil, ap, sym, ◌∙◌}
use Rattle.std.specs.List.{slice_index}
use Rattle.std.specs.Option.{option_map_or}
use Rattle.deb_index.specs.Indexes.{packages_of}
use Rattle.deb_index.specs.Kept.{listed_of}
use Rattle.deb_index.specs.Named.{package_at}
use Rattle.deb_index.proofs.Offered.{on_ok}
use Rattle.deb_solve.specs.Health.{row}
use Rattle.deb_solve.specs.Reasons.{needed}
use Rattle.deb_install.specs.Explaining.{row_at, row_words, text_words}
use Rattle.deb_install.specs.ReasonLines.{line_with}
use Rattle.deb_install.specs.Universes.{setting_of}
use Rattle.deb_install.proofs.RowTexts.{need-line}
use Rattle.deb_install.proofs.reason_lines.append_need.Goals as goal

pub returns-in-Some : goal.returns-in-Some
returns-in-Some c = λ meaning holds.
    let explaining = c.args.explaining.now in
    let u = explaining.universe.now in
    let packages = packages_of explaining.listing.now.index.now in
    let member = c.args.member in
    let asked = row_at (setting_of explaining.listing.now meaning) member c.args.at in
    let met = row u.groups (needed u member c.args.at) in
    let out = c.args.out.now.items in
    let text = c.in_ok-text.text in
    let p = listed_of c.in-Some.«package» in
    let candidates : c.row_of-candidates.result.now ≡ met = c.row_of-candidates.ensures ∙ ap (row u.groups) (c.number_at-group.ensures ∙ ap (λ l. slice_index l c.args.at) c.row_of.ensures) in
    on_ok
    (λ is. is
    ∙ ap (λ l. out ++ line_with (text_words text l) (c.from-in-Some.result, p)) candidates
    ∙ ap (λ w. out ++ line_with w (c.from-in-Some.result, p)) (c.in_ok-text.ensures meaning holds met)
    ∙ ap (λ n. out ++ line_with (row_words asked met) (n, p)) c.from-in-Some.ensures
    ∙ ap (λ o. out ++ option_map_or (λ q. line_with (row_words asked met) (member, q)) o []) (c.in-Some.ensures.listed ∙ ap (λ n. package_at n packages) c.from.ensures)
    ∙ ap (λ l. out ++ l) (sym (need-line packages member asked met)))
    c.append_need_line.result c.append_need_line.ensures

pub returns-in-None : goal.returns-in-None
returns-in-None c = λ meaning holds.
    let explaining = c.args.explaining.now in
    let u = explaining.universe.now in
    let packages = packages_of explaining.listing.now.index.now in
    let member = c.args.member in
    let asked = row_at (setting_of explaining.listing.now meaning) member c.args.at in
    let met = row u.groups (needed u member c.args.at) in
    let out = c.args.out.now.items in
    sym (append-nil out)
    ∙ ap (λ l. out ++ l)
    (ap (λ o. option_map_or (λ q. line_with (row_words asked met) (member, q)) o []) (c.in-None.ensures.listed ∙ ap (λ n. package_at n packages) c.from.ensures)
    ∙ sym (need-line packages member asked met))
