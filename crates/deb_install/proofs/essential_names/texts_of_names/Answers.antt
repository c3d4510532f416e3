use Rattle.std.proofs.Common.{◌++◌, ◌∷◌, [], codes, cond, map, take, ap, sym, ◌∙◌}
use Rattle.std.specs.List.{filter}
use Rattle.deb_control.specs.FieldWords.{word_under}
use Rattle.deb_relation.specs.Environments.{environment_of}
use Rattle.deb_relation.specs.Views.{names_of}
use Rattle.deb_install.specs.Terms.{is_essential}
use Rattle.deb_install.proofs.Contained.{kept-more}
use Rattle.deb_install.proofs.Universes.{all-held, next-held}
use Rattle.deb_install.proofs.essential_names.texts_of_names.Goals as goal

pub loop-count-init : goal.loop-count-init
loop-count-init c = λ meaning holds. ap names_of c.new-names.ensures.items

pub loop-count-preserved : goal.loop-count-preserved
loop-count-preserved c = λ meaning holds.
    let name = word_under (codes "Package") in
    let test = is_essential (names_of c.args.listing.now.without.now) (environment_of c.args.listing.now.environment.now).native in
    let next = next-held meaning c.args.kept.now c.loop-count.count c.index-kept-count.result c.loop-count-test.true c.index-kept-count.is holds in
    c.in_ok-push_if_essential.ensures next.values next.holds
    ∙ ap (λ l. l ++ cond (test next.values) (name next.values ∷ []) []) (c.loop-count.invariant meaning holds)
    ∙ sym (kept-more name test (take c.loop-count.count meaning) next.values)
    ∙ ap (λ m. map name (filter test m)) (sym next.next)

pub returns : goal.returns
returns c = λ meaning holds.
    let test = is_essential (names_of c.args.listing.now.without.now) (environment_of c.args.listing.now.environment.now).native in
    c.loop-count.invariant meaning holds
    ∙ ap (λ m. map (word_under (codes "Package")) (filter test m)) (all-held meaning c.args.kept.now c.loop-count.count c.loop-count-test.false holds)
