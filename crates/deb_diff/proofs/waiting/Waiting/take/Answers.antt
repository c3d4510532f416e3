use Rattle.std.proofs.Common.{◌≡◌, Some, ap, ◌∙◌, rules}
use Rattle.deb_diff.specs.Waiting.{numbers_under, rest_of}
use Rattle.deb_diff.proofs.Lookups.{change_under, none_under}
use Rattle.deb_diff.proofs.waiting.Waiting.take.Goals as goal

pub returns-in_default-clause-rest : goal.returns-in_default-clause-rest
returns-in_default-clause-rest c = λ other.
    let m_is : c.get_mut.follows.lender-at-none ≡ c.args.self.now.lengths = search rules in
    ap (λ m. numbers_under (record { lengths = m }) other) m_is ∙ none_under c.args.key.now c.args.self.now.lengths c.in_default.ensures.value other

pub returns-clause-rest : goal.returns-clause-rest
returns-clause-rest c =
    change_under rest_of c.args.key.now c.args.self.now.lengths (c.get_mut.follows.lender c.take_under.new.map) (Some c.in-Some.numbers.now) c.take_under.new.map ((c.get_mut.follows.holds c.take_under.new.map).3 (search rules)) c.in-Some.ensures.value c.take_under.ensures.rest
