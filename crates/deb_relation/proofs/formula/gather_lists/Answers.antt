use Rattle.std.proofs.Common.{◌≡◌, rules, map, ◌∷◌, [], Ok, ap, sym, ◌∙◌}
use Rattle.std.proofs.lemmas.List.{map-append}
use Rattle.std.proofs.lemmas.Result.{err_from_is_err_and}
use Rattle.deb_relation.specs.Formulas.{profiles_of}
use Rattle.deb_relation.specs.Grammar.{set_of}
use Rattle.deb_relation.specs.Reading.{append, next_restrictions}
use Rattle.deb_relation.specs.Sets.{insert_by}
use Rattle.deb_relation.specs.Stops.{next_of}
use Rattle.deb_relation.specs.Texts.{restrictions_text}
use Rattle.deb_relation.proofs.GatheredSets.{put_member}
use Rattle.deb_relation.proofs.Gathering.{read-more, read-last, loop-stop}
use Rattle.deb_relation.proofs.ReadLists.{step-next_restrictions}
use Rattle.deb_relation.proofs.formula.gather_lists.Goals as goal

pub returns-in_err-list : goal.returns-in_err-list
returns-in_err-list c =
    let p = err_from_is_err_and c.from_residual-in_err-list.result c.from_residual-in_err-list.ensures.1 in
    loop-stop next_restrictions (insert_by restrictions_text) step-next_restrictions [] c.args.text.now (set_of restrictions_text (map profiles_of c.loop-lists.lists.items)) c.loop-lists.rest.now c.loop-lists.invariant (next_of (λ p. (profiles_of p.0, p.1.now))) _ c.from_residual-in_err-list.result p.0 _ p.1 p.2 c.in_err-list.ensures.value

pub loop-lists-smaller : goal.loop-lists-smaller
loop-lists-smaller c = step-next_restrictions.shrinks c.loop-lists.rest.now (profiles_of c.in-Some.list) c.in-Some.behind.now (c.in_ok-list.ensures.value ∙ ap (λ o. Ok (next_of (λ p. (profiles_of p.0, p.1.now)) o)) c.in-Some.is)

pub loop-lists-preserved : goal.loop-lists-preserved
loop-lists-preserved c =
    let all = map profiles_of c.loop-lists.lists.items in
    let list = profiles_of c.in-Some.list in
    let pushed : map profiles_of c.push.new.self.items ≡ append list all = ap (map profiles_of) (search rules) ∙ map-append profiles_of c.loop-lists.lists.items (c.in-Some.list ∷ []) in
    let kept = c.in_ok-drop_lists.ensures ∙ ap (set_of restrictions_text) pushed ∙ put_member restrictions_text list all in
    read-more next_restrictions (insert_by restrictions_text) step-next_restrictions [] c.args.text.now (set_of restrictions_text all) c.loop-lists.rest.now c.loop-lists.invariant list (set_of restrictions_text (map profiles_of c.drop_lists.new.lists.items)) c.in-Some.behind.now (c.in_ok-list.ensures.value ∙ ap (λ o. Ok (next_of (λ p. (profiles_of p.0, p.1.now)) o)) c.in-Some.is) kept

pub returns : goal.returns
returns c =
    read-last next_restrictions (insert_by restrictions_text) step-next_restrictions [] c.args.text.now (set_of restrictions_text (map profiles_of c.loop-lists.lists.items)) c.loop-lists.rest.now c.loop-lists.invariant (search rules)
    ∙ ap (λ all. Ok (all, c.loop-lists.rest.now)) (sym c.in_ok-sort_lists.ensures)
