-- The sort moves what was gathered.
use Rattle.std.proofs.Common.{◌≡◌, ◌≤◌, ◌-◌, ◌++◌, refl, sym, ap, subst, ◌∙◌, length, map, rules}
use Rattle.std.specs.List.{list_any}
use Rattle.std.specs.List.Sorted.{IsSortedBy}
use Rattle.std.proofs.lemmas.List.Elements.{All-weaker}
use Rattle.std.proofs.lemmas.List.Sorted.{list_any-IsPermutation}
use Rattle.deb_index.specs.Crowds.{comes_first, passes}
use Rattle.deb_index.specs.Named.{has_name, numbers_of, provides}
use Rattle.deb_index.specs.Stores.{listed_in}
use Rattle.deb_index.proofs.Answering.{answers_while}
use Rattle.deb_index.proofs.Gathered.{gathered}
use Rattle.deb_index.proofs.Picked.{numbers-listed}
use Rattle.deb_index.proofs.Standings.{comes_first_is_weak}
use Rattle.deb_index.proofs.offer.Packages.offers.Goals as goal

pub append_own-requires : goal.append_own-requires
append_own-requires c =
    let packages = listed_in c.args.self.now.store.now in
    let named = has_name c.args.name.now in
    rw c.requires.having (All-weaker (λ k. (1 ≤ k) × (k ≤ length packages)) (λ k. 1 ≤ k) (λ k is. is.0) (numbers_of named packages) (numbers-listed named packages))

pub append_provided-requires : goal.append_provided-requires
append_provided-requires c = rw c.requires.providing (numbers-listed (provides c.args.name.now) (listed_in c.args.self.now.store.now))

pub returns : goal.returns
returns c =
    let store = c.args.self.now.store.now in
    let own = c.append_own.new.offers.items in
    let all = c.append_provided.new.offers.items in
    let own_is = c.in_ok-append_own.ensures ∙ ap (λ l. l ++ map (λ k. k - 1) c.args.having.now) c.new-offers.ensures.items in
    record {
      all = λ test.
          ap (list_any (passes test store)) c.shrink_to_fit.ensures.items
          ∙ sym (list_any-IsPermutation (passes test store) all c.sort_unstable_by.new.self.items c.sort_unstable_by.ensures.permutation)
          ∙ gathered store c.args.name.now c.args.having.now c.args.providing.now own all c.requires.having c.requires.providing own_is c.in_ok-append_provided.ensures test;
      sorted =
          subst (IsSortedBy (comes_first store)) (sym c.shrink_to_fit.ensures.items)
          (c.sort_unstable_by.ensures.sorted (comes_first store) (comes_first_is_weak store) (answers_while _ _ (λ f. f.0.now.store.now ≡ store) (λ f a r g h i. (search (rules, i), search (rules, i))) _ refl));
    }
