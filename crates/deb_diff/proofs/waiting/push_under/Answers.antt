use Rattle.std.proofs.Common.{◌≡◌, ◌++◌, [], ◌∷◌, sym, ap, ◌∙◌, rules}
use Rattle.std.specs.Option.{option_map_or}
use Rattle.deb_diff.proofs.Lookups.{change_in, change_twice}
use Rattle.deb_diff.proofs.waiting.push_under.Goals as goal

pub returns-in_default : goal.returns-in_default
returns-in_default c =
    let items : c.push_back.new.self.items ≡ c.args.number ∷ [] = search rules in
    change_in (λ numbers. numbers ++ c.args.number ∷ []) c.args.key.now c.args.map.now c.insert.new.self c.push_back.new.self c.in_ok-earlier.ensures.updates
    (items ∙ ap (λ o. option_map_or (λ v. v.items) o [] ++ c.args.number ∷ []) (sym c.in_default.is ∙ c.in_ok-earlier.ensures.old))

pub returns-in_ok-insert : goal.returns-in_ok-insert
returns-in_ok-insert c =
    let items : c.push_back-in-Some.new.self.items ≡ c.in-Some.earlier.items ++ c.args.number ∷ [] = search rules in
    change_twice (λ numbers. numbers ++ c.args.number ∷ []) c.args.key.now c.args.map.now c.insert.new.self c.insert-in-Some.new.self c.push_back.new.self c.push_back-in-Some.new.self c.in_ok-earlier.ensures.updates c.in_ok-insert.ensures.updates
    (items ∙ ap (λ o. option_map_or (λ v. v.items) o [] ++ c.args.number ∷ []) (sym c.in-Some.is ∙ c.in_ok-earlier.ensures.old))
