-- What paragraphs that are kept are paired by.
use Rattle.std.specs.Prelude.{◌≡◌, List, [], ◌∷◌, ℕ, ◌++◌, codes, refl}
use Rattle.std.specs.List.{flat_map}
use Rattle.deb_diff.specs.Kepts.{architecture_in, name_in, version_in, aa_1, aa_01}
use Rattle.deb_diff.specs.declared.kept.Kept.{Kept}

abbrev pub release_in : Kept → List ℕ
release_in kept =
    name_in kept ++ codes " " ++ version_in kept ++ codes " " ++ architecture_in kept

-- words, each after a space, and a newline
abbrev pub rest_of_line : List (List ℕ) → List ℕ
rest_of_line words = flat_map (λ word. codes " " ++ word) words ++ codes "\n"

worked-rest_of_line : (rest_of_line (codes "a" ∷ codes "bc" ∷ []) ≡ codes " a bc\n")
    × (rest_of_line [] ≡ codes "\n")
worked-rest_of_line = (refl, refl)

worked-release : (release_in aa_1 ≡ codes "aa 1 all") × (release_in aa_01 ≡ codes "aa 1 all")
worked-release = (refl, refl)
