-- The numbers change in the map with keys of the length.
use Rattle.std.proofs.Common.{◌≡◌, ◌++◌, [], ◌∷◌, ℕ, List, Some, None, cond, length, sym, ap, ◌∙◌, subst, rules}
use Rattle.std.proofs.lemmas.Result.{on_ok_weaker}
use Rattle.std.specs.BTreeMap.{get_by, is_at}
use Rattle.std.specs.Cmp.Lexicographic.{slice_cmp}
use Rattle.std.specs.Map.{lookup}
use Rattle.std.specs.Option.{option_map_or}
use Rattle.std.specs.Ordering.{nat_cmp}
use Rattle.std.specs.Str.{bytes_eq}
use Rattle.deb_diff.specs.Waiting.{numbers_in, numbers_under}
use Rattle.deb_diff.proofs.Lookups.{change_under}
use Rattle.deb_diff.proofs.waiting.Waiting.push.Goals as goal

pub returns-in-Some : goal.returns-in-Some
returns-in-Some c =
    on_ok_weaker c.push_under.result
    (λ changed. change_under (λ numbers. numbers ++ c.args.number ∷ []) c.args.key.now c.args.self.now.lengths (c.get_mut.follows.lender c.push_under.new.map) (Some c.in-Some.numbers.now) c.push_under.new.map ((c.get_mut.follows.holds c.push_under.new.map).3 (search rules)) c.in-Some.ensures.value changed)
    c.push_under.ensures

pub returns : goal.returns
returns c =
    let m = c.get_mut.follows.lender-at-none in
    let m_is : m ≡ c.args.self.now.lengths = search rules in
    let none : (other : List ℕ) → numbers_in c.new-numbers.result other ≡ [] = λ other. ap (λ l. option_map_or (λ v. v.items) (lookup (is_at (λ k. slice_cmp nat_cmp other k.now)) l) []) c.new-numbers.ensures.empty in
    subst (λ m. (other : List ℕ) → numbers_under (record { lengths = c.insert.new.self }) other ≡ cond (bytes_eq c.args.key.now other) (numbers_under (record { lengths = m }) other ++ c.args.number ∷ []) (numbers_under (record { lengths = m }) other)) m_is
    (change_under (λ numbers. numbers ++ c.args.number ∷ []) c.args.key.now m c.insert.new.self None c.push_under-2.new.map c.in_ok-insert.ensures.updates (c.in_default.ensures.value ∙ ap (get_by (nat_cmp (length c.args.key.now))) (sym m_is))
    (λ other. c.in_ok-push_under.ensures other ∙ ap (λ l. cond (bytes_eq c.args.key.now other) (l ++ c.args.number ∷ []) l) (none other)))
