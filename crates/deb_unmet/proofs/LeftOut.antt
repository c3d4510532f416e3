-- Where no name is left out, no package is.
use Rattle.std.proofs.Common.{◌≡◌, ℕ, ◌==◌, true, List, [], ◌∷◌, length, Bor, refl, sym, ap, ◌∙◌}
use Rattle.std.proofs.lemmas.Bool.{eqb-true}
use Rattle.std.proofs.lemmas.List.{nil_from_length}
use Rattle.deb_relation.specs.Views.{names_of}
use Rattle.deb_index.specs.Listed.{Listed}
use Rattle.deb_index.specs.Without.{without}

none-without : (packages : List Listed) → without [] packages ≡ packages
none-without [] = refl
none-without (p ∷ packages) = ap (λ ps. p ∷ ps) (none-without packages)

pub all-left : (names : List (Bor (List ℕ))) (packages : List Listed) → (length names == 0) ≡ true → packages ≡ without (names_of names) packages
all-left names packages is = sym (none-without packages) ∙ ap (λ ns. without (names_of ns) packages) (sym (nil_from_length names (eqb-true (length names) 0 is)))
