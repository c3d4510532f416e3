use Rattle.std.proofs.Common.{◌≡◌, rules, ◌∷◌, [], Ok, ap, sym, ◌∙◌}
use Rattle.std.proofs.lemmas.List.{map-append}
use Rattle.std.proofs.lemmas.Result.{err_from_is_err_and}
use Rattle.deb_relation.specs.Grammar.{set_of}
use Rattle.deb_relation.specs.Reading.{append, next_restriction}
use Rattle.deb_relation.specs.Sets.{insert_by}
use Rattle.deb_relation.specs.Stops.{next_of}
use Rattle.deb_relation.specs.Texts.{item_text}
use Rattle.deb_relation.specs.Views.{item_behind, item_of, items_of}
use Rattle.deb_relation.proofs.GatheredSets.{put_member}
use Rattle.deb_relation.proofs.Gathering.{read-more, read-last, loop-stop}
use Rattle.deb_relation.proofs.ReadLists.{step-next_restriction}
use Rattle.deb_relation.proofs.formula.read_items.Goals as goal

pub returns-in_err-item : goal.returns-in_err-item
returns-in_err-item c =
    let p = err_from_is_err_and c.from_residual-in_err-item.result c.from_residual-in_err-item.ensures.1 in
    loop-stop next_restriction (insert_by item_text) step-next_restriction [] c.args.text.now (set_of item_text (items_of c.loop-items.items.items)) c.loop-items.rest.now c.loop-items.invariant (next_of item_behind) _ c.from_residual-in_err-item.result p.0 _ p.1 p.2 c.in_err-item.ensures.value

pub loop-items-smaller : goal.loop-items-smaller
loop-items-smaller c = step-next_restriction.shrinks c.loop-items.rest.now (item_of c.in-Some.item) c.in-Some.behind.now (c.in_ok-item.ensures.value ∙ ap (λ o. Ok (next_of item_behind o)) c.in-Some.is)

pub loop-items-preserved : goal.loop-items-preserved
loop-items-preserved c =
    let all = items_of c.loop-items.items.items in
    let item = item_of c.in-Some.item in
    let pushed : items_of c.push.new.self.items ≡ append item all = ap items_of (search rules) ∙ map-append item_of c.loop-items.items.items (c.in-Some.item ∷ []) in
    let kept = c.in_ok-drop_items.ensures ∙ ap (set_of item_text) pushed ∙ put_member item_text item all in
    read-more next_restriction (insert_by item_text) step-next_restriction [] c.args.text.now (set_of item_text all) c.loop-items.rest.now c.loop-items.invariant item (set_of item_text (items_of c.drop_items.new.items.items)) c.in-Some.behind.now (c.in_ok-item.ensures.value ∙ ap (λ o. Ok (next_of item_behind o)) c.in-Some.is) kept

pub returns : goal.returns
returns c =
    read-last next_restriction (insert_by item_text) step-next_restriction [] c.args.text.now (set_of item_text (items_of c.loop-items.items.items)) c.loop-items.rest.now c.loop-items.invariant (search rules)
    ∙ ap (λ all. Ok (all, c.loop-items.rest.now)) (sym (ap items_of c.shrink_to_fit.ensures.items ∙ c.in_ok-sort_items.ensures))
