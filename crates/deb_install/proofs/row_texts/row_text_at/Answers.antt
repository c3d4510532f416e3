use Rattle.std.proofs.Common.{◌≡◌, ◌-◌, IfOk, Some, get_or, length, slice_get, refl, ap, sym, ◌∙◌, subst}
use Rattle.std.specs.Option.{option_map_or}
use Rattle.std.proofs.lemmas.Option.{slice_get_past, slice_get_read}
use Rattle.deb_install.specs.Explaining.{EmptyRow, HasWords, rows_asked}
use Rattle.deb_install.specs.Universes.{setting_of}
use Rattle.deb_install.specs.declared.row_texts.RowText.TheVariants as texts
use Rattle.deb_install.proofs.RowTexts.{held-at, none-at}
use Rattle.deb_install.proofs.row_texts.row_text_at.Goals as goal

pub returns-in-Some : goal.returns-in-Some
returns-in-Some c = λ meaning holds.
    let explaining = c.args.explaining.now in
    let s = setting_of explaining.listing.now meaning in
    let all = explaining.kept.now in
    let kept = c.in-Some.kept.now in
    let found = c.in-Some.ensures.lookup in
    let at : slice_get all c.saturating_sub.result ≡ Some kept = slice_get_read all (length all) c.saturating_sub.result kept refl found.3.0 found.1 in
    let held = held-at meaning all (c.args.member - 1) kept holds.holds (ap (slice_get all) (sym c.saturating_sub.ensures) ∙ at) in
    subst (λ r. IfOk c.text_of_row.result (HasWords r))
    (sym (ap (λ o. option_map_or (λ v. get_or (rows_asked s v) c.args.at EmptyRow) o EmptyRow) held.at))
    (c.text_of_row.ensures meaning held.values holds held.holds)

pub returns-in-None : goal.returns-in-None
returns-in-None c = λ meaning holds.
    let explaining = c.args.explaining.now in
    let s = setting_of explaining.listing.now meaning in
    let all = explaining.kept.now in
    let none = none-at meaning all (c.args.member - 1) holds.holds (ap (slice_get all) (sym c.saturating_sub.ensures) ∙ slice_get_past all c.saturating_sub.result c.in-None.ensures.lookup.3) in
    subst (λ r. HasWords r texts.LeftOut)
    (sym (ap (λ o. option_map_or (λ v. get_or (rows_asked s v) c.args.at EmptyRow) o EmptyRow) none))
    (λ candidates. refl)
