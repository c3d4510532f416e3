-- Rows of numbers as they may be stored: the numbers of a row in any order, each once or more, and
-- exclusions in both directions. This project's own.
use Rattle.std.specs.Prelude.{◌≡◌, ℕ, ◌≤◌, ◌||◌, true, List}
use Rattle.deb_control.specs.Pairs.{Pairwise}
use Rattle.deb_index.specs.Named.{among}

abbrev pub HaveSameNumbers : List ℕ → List ℕ → Type 0
HaveSameNumbers numbers others = (k : ℕ) → among k numbers ≡ among k others

-- For the numbers from 1 to this count, these are such rows. A stored row of exclusions has the
-- numbers that its package excludes, those that exclude its package, and no number that names no
-- package.
pub record AreStored (count : ℕ) (needs : ℕ → List (List ℕ)) (excludes : ℕ → List ℕ)
    (rows : ℕ → List (List ℕ)) (both : ℕ → List ℕ) : Type 0 where
  pub needed : (number : ℕ) → 1 ≤ number → number ≤ count
      → Pairwise HaveSameNumbers (rows number) (needs number)
  pub excluded : (number other : ℕ) → 1 ≤ number → number ≤ count → 1 ≤ other → other ≤ count
      → among other (both number)
      ≡ (among other (excludes number) || among number (excludes other))
  pub listed : (number other : ℕ) → 1 ≤ number → number ≤ count
      → among other (both number) ≡ true → (1 ≤ other) × (other ≤ count)
