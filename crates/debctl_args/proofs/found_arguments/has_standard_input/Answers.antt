use Rattle.std.proofs.Common.{◌≡◌, ◌∙◌, ◌||◌, ℕ, Bor, List, [], ◌∷◌, ap, map, refl, rules, tests}
use Rattle.std.specs.List.{list_any}
use Rattle.std.proofs.lemmas.Iterator.{YieldsList-from_slice}
use Rattle.std.proofs.lemmas.Iterator.Search.{any_from_yields_List}
use Rattle.debctl_args.specs.Asked.{is_standard_input}
use Rattle.debctl_args.proofs.found_arguments.has_standard_input.Goals as goal

any_is : (paths : List (Bor (List ℕ))) → list_any (λ (path : Bor (List ℕ)). is_standard_input path.now) paths ≡ list_any is_standard_input (map (λ path. path.now) paths)
any_is [] = refl
any_is (path ∷ paths) = ap (λ found. is_standard_input path.now || found) (any_is paths)

pub returns : goal.returns
returns c =
    any_from_yields_List (λ (path : Bor (List ℕ)). is_standard_input path.now) _ _ c.any.result c.any.ensures.ran (YieldsList-from_slice c.args.paths.now cc) (λ x b q k. search (rules, tests))
    ∙ any_is c.args.paths.now
