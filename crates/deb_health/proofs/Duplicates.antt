-- The lines of later packages of one name.
use Rattle.std.proofs.Common.{◌≡◌, ℕ, ◌+◌, ◌<◌, ◌≤◌, Bool, true, false, cond, ltb, ◌&&◌, List, [], ◌∷◌, ◌++◌, length, refl, ap, ◌∙◌, arith}
use Rattle.std.specs.List.{AllByRecursion, filter, flat_map}
use Rattle.std.specs.Option.{option_map_or}
use Rattle.deb_index.specs.Listed.{Listed}
use Rattle.deb_index.specs.Named.{numbers_of, package_at, passes_at}
use Rattle.deb_index.proofs.Counted.{numbers-within}
use Rattle.deb_index.proofs.Picked.{filtered}
use Rattle.deb_health.proofs.Exclusions.{flat-cond, numbered}

-- Of each number the line, if its package passes a test and comes later.
abbrev pub lines_behind : ℕ → (Listed → Bool) → List Listed → (ℕ → List ℕ) → ℕ → List ℕ
lines_behind n test packages line k = cond (option_map_or test (package_at k packages) false && ltb n k) (line k) []

filter-cond : (f : ℕ → Bool) (v : Bool) (k : ℕ) (ks : List ℕ) → cond (v && f k) (k ∷ filter f ks) (filter f ks) ≡ filter f (cond v (k ∷ ks) ks)
filter-cond f true k ks = refl
filter-cond f false k ks = refl

lines-later : (n : ℕ) (test : Listed → Bool) (packages : List Listed) (line : ℕ → List ℕ) (most : ℕ) (ks : List ℕ) → AllByRecursion (λ k. (1 ≤ k) × (k < most)) ks → flat_map (lines_behind n test packages line) ks ≡ flat_map line (filter (λ k. ltb n k) (filter (passes_at test packages) ks))
lines-later n test packages line most [] all = refl
lines-later n test packages line most (k ∷ ks) all =
    let passing = filter (passes_at test packages) ks in
    ap (λ v. cond (v && ltb n k) (line k) [] ++ flat_map (lines_behind n test packages line) ks) (numbered test packages k all.0.0)
    ∙ ap (λ l. cond (passes_at test packages k && ltb n k) (line k) [] ++ l) (lines-later n test packages line most ks all.1)
    ∙ flat-cond line (passes_at test packages k && ltb n k) k (filter (λ k. ltb n k) passing)
    ∙ ap (flat_map line) (filter-cond (λ k. ltb n k) (passes_at test packages k) k passing)

pub lines-behind : (n : ℕ) (asked test : Listed → Bool) (packages : List Listed) (line : ℕ → List ℕ) → flat_map (lines_behind n test packages line) (numbers_of asked packages) ≡ flat_map line (filter (λ k. ltb n k) (numbers_of (λ p. asked p && test p) packages))
lines-behind n asked test packages line =
    lines-later n test packages line (length packages + 1) (numbers_of asked packages) (numbers-within 1 1 (length packages + 1) asked packages (omega arith) (omega arith))
    ∙ ap (λ ks. flat_map line (filter (λ k. ltb n k) ks)) (filtered asked test packages)
