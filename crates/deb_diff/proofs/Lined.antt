-- A line is its first word and the rest.
use Rattle.std.proofs.Common.{◌≡◌, ℕ, List, [], ◌∷◌, ◌++◌, codes, refl, sym, ap, ◌∙◌}
use Rattle.std.proofs.lemmas.List.{append_assoc}
use Rattle.std.specs.List.{flat_map}
use Rattle.deb_diff.specs.Lefts.{rest_of_line}
use Rattle.deb_diff.specs.Lines.{line_of}

pub line_of_rest : (word : List ℕ) (words : List (List ℕ)) → line_of (word ∷ words) ≡ word ++ rest_of_line words
line_of_rest word [] = refl
line_of_rest word (next ∷ words) =
    ap (λ l. word ++ codes " " ++ l) (line_of_rest next words) ∙ append_assoc word (codes " ") (next ++ rest_of_line words)
    ∙ ap (λ l. word ++ 32 ∷ l) (sym (append_assoc next (flat_map (λ word. codes " " ++ word) words) (codes "\n")))
