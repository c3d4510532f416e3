use Rattle.std.proofs.Common.{rules, ◌≡◌, ◌++◌, ◌∷◌, [], codes, cond, get_or, length, map, ◌-◌, ◌<◌, ◌≤◌, sym, ap, ◌∙◌, subst}
use Rattle.deb_control.specs.FieldWords.{word_under}
use Rattle.deb_relation.specs.Applying.{is_among}
use Rattle.deb_relation.specs.Environments.{environment_of}
use Rattle.deb_relation.specs.Views.{names_of}
use Rattle.deb_install.specs.Explaining.{EmptyRow, HasWords, NameRow, groups_with_rows}
use Rattle.deb_install.specs.Terms.{essential_names}
use Rattle.deb_install.specs.Universes.{terms_in}
use Rattle.deb_install.proofs.RowTexts.{after-groups, group-words}
use Rattle.deb_install.proofs.row_texts.text_of_row.Goals as goal

pub returns-then-at-len : goal.returns-then-at-len
returns-then-at-len c = λ meaning values holds held.
    let listing = c.args.explaining.now.listing.now in
    let t = terms_in listing in
    let environment = environment_of listing.environment.now in
    let has = c.line_texts-texts.ensures.texts held.fields values listing.strength held.holds.unmet in
    let others = cond (is_among (word_under (codes "Package") values) t.without) (EmptyRow ∷ []) [] ++ map NameRow (essential_names t environment.native meaning) in
    let count : c.len.result ≡ length c.in_ok-groups.groups.items = search rules in
    group-words (groups_with_rows t environment values) others c.in_ok-groups.groups.items c.args.at c.index.result.now (c.in_ok-groups.ensures values has)
    (subst (λ n. c.args.at < n) count c.if-at-len.true) c.index.ensures

pub returns : goal.returns
returns c = λ meaning values holds held.
    let listing = c.args.explaining.now.listing.now in
    let t = terms_in listing in
    let environment = environment_of listing.environment.now in
    let has = c.line_texts-texts.ensures.texts held.fields values listing.strength held.holds.unmet in
    let found = c.in_ok-groups.groups.items in
    let at = c.args.at in
    let others = cond (is_among (word_under (codes "Package") values) t.without) (EmptyRow ∷ []) [] ++ map NameRow (essential_names t environment.native meaning) in
    let count : c.len.result ≡ length found = search rules in
    let after : c.len-else-at-len.result ≡ length found = search rules in
    subst (λ r. HasWords r c.text_after_groups.result)
    (ap (λ n. get_or (cond (is_among n t.without) (EmptyRow ∷ []) [] ++ map NameRow (names_of c.args.explaining.now.essential.now)) (at - c.len-else-at-len.result) EmptyRow) has.name
    ∙ ap (λ l. get_or (cond (is_among (word_under (codes "Package") values) t.without) (EmptyRow ∷ []) [] ++ map NameRow l) (at - c.len-else-at-len.result) EmptyRow) holds.essential
    ∙ ap (λ n. get_or others (at - n) EmptyRow) after
    ∙ sym (after-groups (groups_with_rows t environment values) others found at (c.in_ok-groups.ensures values has) (subst (λ n. n ≤ at) count c.if-at-len.false)))
    c.text_after_groups.ensures
