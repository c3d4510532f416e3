use Rattle.std.proofs.Common.{◌≤◌, ◌∷◌, length, ap, ◌∙◌}
use Rattle.std.proofs.lemmas.List.Elements.{All-rest}
use Rattle.deb_index.specs.Indexes.{packages_of}
use Rattle.deb_index.proofs.answer.FoundPackagesIterator.next.Goals as goal

-- the numbers after the first one
pub invariant_of-self : goal.invariant_of-self
invariant_of-self c = record {
  listed = All-rest (λ k. (1 ≤ k) × (k ≤ length (packages_of c.args.self.now.index.now))) c.in_ok-number.number c.in_ok-number.numbers.now c.args.self.now.numbers.now (c.in_ok-number.ensures.cases.0 ∙ ap (λ k. k ∷ c.in_ok-number.numbers.now) c.in_ok-number.number-is) c.args.self.now.listed;
}
