-- Steps that are taken for paths one after another, and the highest of their statuses.
use Rattle.std.proofs.Common.{inl, inr}
use Rattle.std.specs.Prelude.{◌≡◌, ◌⊎◌, ℕ, max, List, [], ◌∷◌, ◌++◌, length, Result, Ok, Err, codes, refl}
use Rattle.deb_base.specs.declared.fault.Fault.{Fault}
use Rattle.deb_base.specs.declared.fault.Fault.TheVariants.{Write}

-- A step was taken for each path in turn, which brings the files and the writer to where the next
-- one begins, and the status is the highest of theirs; or one failed, and none was taken after it.
abbrev pub InTurn : {F W : Type 0} → (List ℕ → F → W → Result ℕ Fault → F → W → Type 0)
    → List (List ℕ) → F → W → Result ℕ Fault → F → W → Type 0
InTurn step [] files out (Ok status) files_after out_after =
    (status ≡ 0) × (files_after ≡ files) × (out_after ≡ out)
InTurn step [] files out (Err fault) files_after out_after = ⊥
InTurn {F} {W} step (path ∷ paths) files out (Ok status) files_after out_after =
    (between : F) × (written : W) × (one : ℕ) × (others : ℕ)
    × step path files out (Ok one) between written
    × InTurn step paths between written (Ok others) files_after out_after
    × (status ≡ max one others)
InTurn {F} {W} step (path ∷ paths) files out (Err fault) files_after out_after =
    step path files out (Err fault) files_after out_after
    ⊎ ((between : F) × (written : W) × (one : ℕ) × step path files out (Ok one) between written
    × InTurn step paths between written (Err fault) files_after out_after)

-- ---- worked cases

-- for the worked cases: a step that notes its path, whose status is the length of it, and which
-- fails where that is 0
abbrev status_of_step : List ℕ → Result ℕ Fault
status_of_step [] = Err Write
status_of_step (byte ∷ more) = Ok (length (byte ∷ more))

abbrev notes : List ℕ → ℕ → List ℕ → Result ℕ Fault → ℕ → List ℕ → Type 0
notes path files out status files_after out_after =
    (files_after ≡ files) × (status ≡ status_of_step path) × (out_after ≡ out ++ path)

steps_in_turn : InTurn notes (codes "ab" ∷ codes "c" ∷ []) 7 (codes "x") (Ok 2) 7 (codes "xabc")
steps_in_turn = (
  7,
  codes "xab",
  2,
  1,
  (refl, refl, refl),
  (7, codes "xabc", 1, 0, (refl, refl, refl), (refl, refl, refl), refl),
  refl,
)

-- the highest status may be that of the last path, or of one in between
highest_status_last : InTurn notes (codes "c" ∷ codes "ab" ∷ []) 7 (codes "x") (Ok 2) 7
    (codes "xcab")
highest_status_last = (
  7,
  codes "xc",
  1,
  2,
  (refl, refl, refl),
  (7, codes "xcab", 2, 0, (refl, refl, refl), (refl, refl, refl), refl),
  refl,
)

highest_status_between : InTurn notes (codes "c" ∷ codes "abd" ∷ codes "ef" ∷ []) 7 (codes "x")
    (Ok 3) 7 (codes "xcabdef")
highest_status_between = (
  7,
  codes "xc",
  1,
  3,
  (refl, refl, refl),
  (
    7,
    codes "xcabd",
    3,
    2,
    (refl, refl, refl),
    (7, codes "xcabdef", 2, 0, (refl, refl, refl), (refl, refl, refl), refl),
    refl,
  ),
  refl,
)

-- no step is taken after one that failed, and without a path there is none
steps_that_fail : InTurn notes (codes "a" ∷ [] ∷ codes "c" ∷ []) 7 (codes "x") (Err Write) 7
    (codes "xa")
    × InTurn notes [] 7 (codes "x") (Ok 0) 7 (codes "x")
    × (InTurn notes [] 7 (codes "x") (Err Write) 7 (codes "x") ≡ ⊥)
steps_that_fail =
    (inr (7, codes "xa", 1, (refl, refl, refl), inl (refl, refl, refl)), (refl, refl, refl), refl)
