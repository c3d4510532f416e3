use Rattle.std.proofs.Common.{◌≡◌, ◌∙◌, ℕ, Bool, not, cond, Bor, List, [], ◌∷◌, map, true, false, Some, option_map, refl, ap, rules, tests}
use Rattle.std.specs.Prelude.{find}
use Rattle.std.proofs.lemmas.Iterator.{YieldsList-from_slice}
use Rattle.std.proofs.lemmas.Iterator.Search.{find_from_yields_List}
use Rattle.deb_syntax.specs.Fields.{has_name}
use Rattle.deb_syntax.specs.Raw.{fields_of}
use Rattle.deb_explain.proofs.subject.missing_among.Goals as goal

find-slices : (test : List ℕ → Bool) (names : List (Bor (List ℕ))) → option_map (λ (name : Bor (List ℕ)). name.now) (find (λ (name : Bor (List ℕ)). test name.now) names) ≡ find test (map (λ (name : Bor (List ℕ)). name.now) names)
find-slices test [] = refl
find-slices test (name ∷ names) =
    elim (test name.now) as (λ t. option_map (λ (n : Bor (List ℕ)). n.now) (cond t (Some name) (find (λ (n : Bor (List ℕ)). test n.now) names)) ≡ cond t (Some name.now) (find test (map (λ (n : Bor (List ℕ)). n.now) names))) [
      | true ↦ refl
      | false ↦ find-slices test names
    ]

pub returns : goal.returns
returns c =
    let lacks : List ℕ → Bool = λ name. not (has_name name (fields_of c.args.paragraph.now)) in
    ap (option_map (λ (name : Bor (List ℕ)). name.now)) c.copied.ensures
    ∙ ap (option_map (λ (name : Bor (List ℕ)). name.now)) (find_from_yields_List (λ (name : Bor (List ℕ)). lacks name.now) _ _ c.find.result c.find.ensures.ran (YieldsList-from_slice c.args.names.now cc) (λ x b q k. search (rules, tests)))
    ∙ find-slices lacks c.args.names.now
