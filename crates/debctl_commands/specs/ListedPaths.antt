-- The paths that a file lists, as `find -print0` writes them. The form is this project's own.
use Rattle.std.specs.Prelude.{◌≡◌, ◌==◌, ℕ, cond, List, [], ◌∷◌, ◌++◌, codes, refl}
use Rattle.std.specs.List.{onto_first}

-- the byte after a path
abbrev pub path_end : ℕ
path_end = 0

-- the paths of a list: a byte 0 follows each, and may be missing after the last one
abbrev pub paths_of : List ℕ → List (List ℕ)
paths_of [] = []
paths_of (b ∷ bs) = cond (b == path_end) ([] ∷ paths_of bs) (onto_first b (paths_of bs))

no_path : paths_of [] ≡ []
no_path = refl

ended_paths : paths_of (codes "a b" ++ 0 ∷ codes "c\nd" ++ 0 ∷ []) ≡ codes "a b" ∷ codes "c\nd" ∷ []
ended_paths = refl

last_path_without_end : paths_of (codes "a" ++ 0 ∷ codes "b") ≡ codes "a" ∷ codes "b" ∷ []
last_path_without_end = refl

-- a path may be empty, also the last one
empty_paths : paths_of (0 ∷ codes "a" ++ 0 ∷ 0 ∷ []) ≡ [] ∷ codes "a" ∷ [] ∷ []
empty_paths = refl
