use Rattle.std.proofs.Common.{[], ap, ◌∙◌, rules}
use Rattle.std.specs.Option.{option_map_or}
use Rattle.deb_diff.specs.Waiting.{rest_of}
use Rattle.deb_diff.proofs.Lookups.{change_in, rest-drop}
use Rattle.deb_diff.proofs.waiting.take_under.Goals as goal

pub returns-clause-rest : goal.returns-clause-rest
returns-clause-rest c =
    change_in rest_of c.args.key.now c.args.map.now (c.get_mut.follows.lender c.pop_front.new.self) c.pop_front.new.self ((c.get_mut.follows.holds c.pop_front.new.self).3 (search rules))
    (c.pop_front.ensures.rest ∙ rest-drop c.in-Some.numbers.now.items ∙ ap (λ o. rest_of (option_map_or (λ v. v.items) o [])) c.in-Some.ensures.value)
