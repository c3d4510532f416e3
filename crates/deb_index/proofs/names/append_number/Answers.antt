-- The list of the name has the number, and the lists of other names stay.
use Rattle.std.proofs.Common.{Some, [], ◌∷◌, ◌++◌, option_map, ap, ◌∙◌, rules}
use Rattle.deb_index.specs.Maps.{numbers_with}
use Rattle.deb_index.proofs.Lookups.{list_begun, list_updated}
use Rattle.deb_index.proofs.names.append_number.Goals as goal

pub returns-in-Some : goal.returns-in-Some
returns-in-Some c =
    list_updated c.args.name.now c.args.lists.now (c.get_mut.follows.lender c.push.new.numbers) c.push.new.numbers _ ((c.get_mut.follows.holds c.push.new.numbers).3 (search rules))
    (c.in_ok-push.ensures ∙ ap (λ o. numbers_with (option_map (λ v. v.items) o) (Some c.args.before) ++ c.args.number ∷ []) c.in-Some.ensures.value)

pub returns : goal.returns
returns c =
    list_begun c.in_ok-from_slice.field-0.items c.args.name.now c.get_mut.follows.lender-at-none c.args.lists.now c.insert.new.self c.in_ok-numbers.numbers c.args.before c.args.number (search rules) (search rules)
    c.in_default.ensures.value c.in_ok-insert.ensures.updates c.in_ok-numbers.ensures
