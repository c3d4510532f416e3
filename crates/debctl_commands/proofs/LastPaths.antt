-- The paths of a list are its pieces between bytes 0, without the last one where that is empty.
use Rattle.std.proofs.Common.{◌≡◌, ℕ, Bool, true, false, cond, List, [], ◌∷◌, refl, ap, ap₂, ◌∙◌}
use Rattle.std.specs.Prelude.{◌==◌}
use Rattle.std.specs.List.{onto_first, slice_split}
use Rattle.deb_sort.proofs.LastPieces.{without_empty_last}
use Rattle.debctl_commands.specs.ListedPaths.{path_end, paths_of}

abbrev pieces : List ℕ → List (List ℕ)
pieces list = slice_split (λ b. b == path_end) list

-- a piece at least
abbrev IsSome : List (List ℕ) → Type 0
IsSome [] = ⊥
IsSome (path ∷ paths) = Unit {0}

some_by_test : (t : Bool) (us vs : List (List ℕ)) → IsSome us → IsSome vs → IsSome (cond t us vs)
some_by_test true us vs p q = p
some_by_test false us vs p q = q

some_onto_first : (b : ℕ) (paths : List (List ℕ)) → IsSome (onto_first b paths)
some_onto_first b [] = tt
some_onto_first b (path ∷ paths) = tt

some_pieces : (list : List ℕ) → IsSome (pieces list)
some_pieces [] = tt
some_pieces (b ∷ bs) = some_by_test (b == path_end) ([] ∷ pieces bs) (onto_first b (pieces bs)) tt (some_onto_first b (pieces bs))

behind_end : (paths : List (List ℕ)) → IsSome paths → without_empty_last ([] ∷ paths) ≡ [] ∷ without_empty_last paths
behind_end [] some = absurd some
behind_end (path ∷ paths) some = refl

behind_byte : (b : ℕ) (paths : List (List ℕ)) → IsSome paths → without_empty_last (onto_first b paths) ≡ onto_first b (without_empty_last paths)
behind_byte b [] some = absurd some
behind_byte b ([] ∷ []) some = refl
behind_byte b ((c ∷ cs) ∷ []) some = refl
behind_byte b (path ∷ next ∷ paths) some = refl

by_test : (t : Bool) (us vs : List (List ℕ)) → without_empty_last (cond t us vs) ≡ cond t (without_empty_last us) (without_empty_last vs)
by_test true us vs = refl
by_test false us vs = refl

pub paths_from_pieces : (list : List ℕ) → without_empty_last (pieces list) ≡ paths_of list
paths_from_pieces [] = refl
paths_from_pieces (b ∷ bs) =
    by_test (b == path_end) ([] ∷ pieces bs) (onto_first b (pieces bs))
    ∙ ap₂ (cond (b == path_end)) (behind_end (pieces bs) (some_pieces bs) ∙ ap (λ paths. [] ∷ paths) (paths_from_pieces bs))
    (behind_byte b (pieces bs) (some_pieces bs) ∙ ap (onto_first b) (paths_from_pieces bs))
