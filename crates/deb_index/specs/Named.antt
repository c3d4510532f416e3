-- Which packages of a list have a name and which provide it, by their numbers in the list. Debian
-- Policy 5.6.7 and 7.5.
use Rattle.std.specs.Prelude.{◌≡◌, ℕ, ◌+◌, ◌-◌, ◌≤◌, ◌||◌, length, Bool, true, false, cond, eqb, if◌then◌else◌, nat_eq, List, [], ◌∷◌, map, Option, None, Some, codes, refl}
use Rattle.std.specs.List.{All, list_any, slice_get}
use Rattle.std.specs.Option.{option_map, option_map_or}
use Rattle.std.specs.Str.{bytes_eq}
use Rattle.deb_version.specs.Places.{version_in}
use Rattle.deb_relation.specs.Applying.{Environment, applies}
use Rattle.deb_relation.specs.Meaning.{Alternative}
use Rattle.deb_index.specs.Listed.{Listed}
use Rattle.deb_index.specs.Meeting.{meets}

-- a package has the name
abbrev pub has_name : List ℕ → Listed → Bool
has_name name p = bytes_eq p.name name

-- a package provides the name, in some version or without one
abbrev pub provides : List ℕ → Listed → Bool
provides name p = list_any (λ q. bytes_eq q.name name) p.provisions

-- the numbers of the packages that pass a test, where the first package has this number
abbrev pub numbers_from : ℕ → (Listed → Bool) → List Listed → List ℕ
numbers_from n test [] = []
numbers_from n test (p ∷ packages) =
    cond (test p) (n ∷ numbers_from (n + 1) test packages) (numbers_from (n + 1) test packages)

-- The numbers of the packages of a list that pass a test: they are counted from 1, ascend, and each
-- is there once.
abbrev pub numbers_of : (Listed → Bool) → List Listed → List ℕ
numbers_of test packages = numbers_from 1 test packages

-- the package with a number, which is counted from 1
abbrev pub package_at : ℕ → List Listed → Option Listed
package_at number packages =
    if nat_eq number 0 then None else slice_get packages (number - 1)

-- the package of a number passes a test
abbrev pub passes_at : (Listed → Bool) → List Listed → ℕ → Bool
passes_at test packages k = option_map_or test (slice_get packages (k - 1)) false

-- these are numbers of packages of the list
abbrev pub AreNumbers : List Listed → List ℕ → Type 0
AreNumbers packages numbers = All (λ k. (1 ≤ k) × (k ≤ length packages)) numbers

-- a number is one of these
abbrev pub among : ℕ → List ℕ → Bool
among k numbers = list_any (eqb k) numbers

-- Whether an alternative applies; if it does, the numbers of the packages that meet it were
-- appended, in some order.
pub record AppendsMeeting (environment : Environment) (packages : List Listed) (a : Alternative)
    (old new : List ℕ) (asked : Bool) : Type 0 where
  pub is : asked ≡ applies a environment
  pub appended : (k : ℕ)
      → among k new
      ≡ cond asked (among k old || among k (numbers_of (meets environment a) packages))
      (among k old)

worked-among : map (λ k. among k (3 ∷ 5 ∷ [])) (3 ∷ 5 ∷ 4 ∷ []) ≡ true ∷ true ∷ false ∷ []
worked-among = refl

-- Below, aa provides its own name twice and vv, aab provides vv and vv again, and a second aa
-- provides nothing.
abbrev listed : List ℕ → List (List ℕ) → Listed
listed name provided =
    record {
      name = name;
      version = version_in (codes "1");
      architecture = codes "all";
      multi_arch = None;
      provisions = map (λ n. record { name = n; version = None }) provided;
    }

abbrev packages : List Listed
packages =
    listed (codes "aa") (codes "aa" ∷ codes "aa" ∷ codes "vv" ∷ [])
    ∷ listed (codes "aab") (codes "vv" ∷ codes "vv" ∷ [])
    ∷ listed (codes "aa") []
    ∷ []

-- aa, aab, a, which begins both, and vv, which no package has
worked-names : map (λ name. numbers_of (has_name name) packages)
    (codes "aa" ∷ codes "aab" ∷ codes "a" ∷ codes "vv" ∷ [])
    ≡ (1 ∷ 3 ∷ []) ∷ (2 ∷ []) ∷ [] ∷ [] ∷ []
worked-names = refl

-- vv, aa, v, which begins vv, and aab, which no package provides
worked-provided : map (λ name. numbers_of (provides name) packages)
    (codes "vv" ∷ codes "aa" ∷ codes "v" ∷ codes "aab" ∷ [])
    ≡ (1 ∷ 2 ∷ []) ∷ (1 ∷ []) ∷ [] ∷ [] ∷ []
worked-provided = refl

-- the first package, the last, none before the first and none beyond the last
worked-numbered : map (λ n. option_map (λ p. p.name) (package_at n packages)) (1 ∷ 2 ∷ 0 ∷ 4 ∷ [])
    ≡ Some (codes "aa") ∷ Some (codes "aab") ∷ None ∷ None ∷ []
worked-numbered = refl

-- numbers of packages that provide vv: not the third, nor one beyond the list
worked-at : map (passes_at (provides (codes "vv")) packages) (1 ∷ 2 ∷ 3 ∷ 4 ∷ [])
    ≡ true ∷ true ∷ false ∷ false ∷ []
worked-at = refl
