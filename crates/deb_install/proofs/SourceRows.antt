-- The rows of source packages after those of packages decide which source packages can be built.
use Rattle.std.proofs.Common.{◌≡◌, inl, inr, ℕ, zero, suc, ◌+◌, ◌<◌, ◌≤◌, eqb, Bool, true, false, not, ◌&&◌, ◌||◌, List, [], ◌∷◌, ◌++◌, length, length-append, map, get_or, Some, slice_get, refl, sym, ap, ◌∙◌, subst, arith}
use Rattle.std.specs.List.{list_all, list_any, slice_index_or}
use Rattle.std.specs.Option.{option_map}
use Rattle.std.specs.Prelude.{nat_lt}
use Rattle.std.proofs.lemmas.Bool.{and_from, and_parts, eqb-true, false≢true, false_from_ne_true, not-true, not_from_false, or_cases, or_left, or_right}
use Rattle.std.proofs.lemmas.List.{get_or_append_left, length-map}
use Rattle.std.proofs.lemmas.List.Folds.{list_all-map}
use Rattle.std.proofs.lemmas.Option.{get_or_from_slice_get, slice_get-map, slice_get_within}
use Rattle.deb_field.specs.Values.{ValueMeaning}
use Rattle.deb_control.specs.Documents.{Meaning}
use Rattle.deb_control.specs.Pairs.{Pairwise}
use Rattle.deb_control.specs.ValueFiles.{ValueEntries}
use Rattle.deb_control.proofs.GivenValues.{pairwise-length}
use Rattle.deb_health.proofs.Growing.{any-grows}
use Rattle.deb_index.specs.Listing.{Lists}
use Rattle.deb_index.specs.Named.{among}
use Rattle.deb_solve.specs.Health.{IsInstallable as IsInstallableIn, fits}
use Rattle.deb_solve.specs.declared.universe.Universe.{Universe}
use Rattle.deb_install.specs.Buildable.{IsBuildable}
use Rattle.deb_install.specs.Building.{AreNumbersOf}
use Rattle.deb_install.specs.Laws.{AreDecidedBy}
use Rattle.deb_install.specs.Members.{IsHealthyByRows}
use Rattle.deb_install.specs.SourceRows.{IsUniverseWith, barred_in, built_in}
use Rattle.deb_install.specs.StoredRows.{HaveSameNumbers}
use Rattle.deb_install.specs.Universes.{Setting}
use Rattle.deb_install.proofs.BuildRows.{build_rows_decide, can-build, may-build}
use Rattle.deb_install.proofs.InstallableRows.{only, only-can, only-healthy, only-listed, only-may, rows_decide}
use Rattle.deb_install.proofs.ListedNumbers.{barred-listed, exclusions-listed}
use Rattle.deb_install.proofs.ListedRows.{excludes_in, rows_in}
use Rattle.deb_install.proofs.StoredRows.{passes, shared}
use Rattle.deb_install.proofs.Universes.{are-rows, numbers-rows}

-- what is at an index of a list that comes after another
at-behind : {X : Type 0} (xs ys : List X) (k : ℕ) (d : X) → get_or (xs ++ ys) (length xs + k) d ≡ get_or ys k d
at-behind [] ys k d = ap (λ n. get_or ys n d) (omega arith)
at-behind (x ∷ xs) ys k d =
    let more : length (x ∷ xs) + k ≡ suc (length xs + k) = omega arith in
    ap (λ n. get_or (x ∷ xs ++ ys) n d) more ∙ at-behind xs ys k d

pub behind : {X : Type 0} (all xs ys : List X) (m k : ℕ) (d : X) → all ≡ xs ++ ys → m ≡ length xs + k → get_or all m d ≡ get_or ys k d
behind all xs ys m k d is at = ap (λ l. get_or l m d) is ∙ ap (λ n. get_or (xs ++ ys) n d) at ∙ at-behind xs ys k d

pub front : {X : Type 0} (all xs ys : List X) (k : ℕ) (d : X) → all ≡ xs ++ ys → k < length xs → get_or all k d ≡ get_or xs k d
front all xs ys k d is within = ap (λ l. get_or l k d) is ∙ get_or_append_left xs ys d k within

-- the row of a source package, by the rows that it needs
pub row-at : (all rows : List (List ℕ)) (needed : List (List (List ℕ))) (k : ℕ) (rs : List (List ℕ)) → Pairwise (AreNumbersOf all) rows needed → slice_get needed k ≡ Some rs → AreNumbersOf all (get_or rows k []) rs
row-at all [] [] zero rs are is = absurd cc
row-at all [] [] (suc k) rs are is = absurd cc
row-at all [] (n ∷ needed) k rs are is = absurd are
row-at all (r ∷ rows) [] k rs are is = absurd are
row-at all (r ∷ rows) (n ∷ needed) zero rs are is =
    let same : n ≡ rs = cc in
    subst (AreNumbersOf all r) same are.0
row-at all (r ∷ rows) (n ∷ needed) (suc k) rs are is = row-at all rows needed k rs are.1 is

same-rows : (rows : List (List ℕ)) → Pairwise HaveSameNumbers rows rows
same-rows [] = tt
same-rows (row ∷ rows) = (λ k. refl, same-rows rows)

pub itself : (k : ℕ) → eqb k k ≡ true
itself k = grind arith

-- a set with one number more
abbrev pub with_one : (ℕ → Bool) → ℕ → ℕ → Bool
with_one set m number = set number || eqb number m

pub any-with : (set : ℕ → Bool) (m : ℕ) (row : List ℕ) → list_any set row ≡ true → list_any (with_one set m) row ≡ true
any-with set m row = any-grows set (with_one set m) (λ number. or_left (set number) (eqb number m)) row

all-with : (set : ℕ → Bool) (m : ℕ) (rows : List (List ℕ)) → list_all (list_any set) rows ≡ true → list_all (list_any (with_one set m)) rows ≡ true
all-with set m [] all = refl
all-with set m (row ∷ rows) all =
    let parts = and_parts (list_any set row) (list_all (list_any set) rows) all in
    and_from (list_any (with_one set m) row) (list_all (list_any (with_one set m)) rows) (any-with set m row parts.0) (all-with set m rows parts.1)

none-with : (set : ℕ → Bool) (m : ℕ) (row : List ℕ) → list_any set row ≡ false → ((other : ℕ) → among other row ≡ true → other < m) → list_any (with_one set m) row ≡ false
none-with set m row none below =
    false_from_ne_true (list_any (with_one set m) row) (λ is.
    let s = shared (with_one set m) row is in
    let less = below s.number s.has in
    elim (or_cases (set s.number) (eqb s.number m) s.contains) [
      | inl own ↦ false≢true (sym none ∙ passes set row s.number s.has own)
      | inr same ↦ omega (arith, less, eqb-true s.number m same)
    ])

made-fits : (u : Universe) (set : ℕ → Bool) (p : ℕ) (rows : List (List ℕ)) (excluded : List ℕ) → p < length u.needs → map (λ group. slice_index_or u.groups group []) (get_or u.needs p []) ≡ rows → get_or u.excludes p [] ≡ excluded → list_all (list_any set) rows ≡ true → list_any set excluded ≡ false → fits u set p ≡ true
made-fits u set p rows excluded within are barred met none =
    let less : nat_lt p (length u.needs) ≡ true = grind (arith, within) in
    let abundant = sym (list_all-map (list_any set) (λ group. slice_index_or u.groups group []) (get_or u.needs p [])) ∙ ap (list_all (list_any set)) are ∙ met in
    let peaceful = not_from_false (list_any set (get_or u.excludes p [])) (ap (list_any set) barred ∙ none) in
    and_from (nat_lt p (length u.needs)) _ less (and_from _ _ abundant peaceful)

-- what a package that fits a set has
pub record Fitting (u : Universe) (set : ℕ → Bool) (p : ℕ) : Type 0 where
  pub met : list_all (list_any set) (map (λ group. slice_index_or u.groups group []) (get_or u.needs p [])) ≡ true
  pub none : list_any set (get_or u.excludes p []) ≡ false

fitting : (u : Universe) (set : ℕ → Bool) (p : ℕ) → fits u set p ≡ true → Fitting u set p
fitting u set p is =
    let parts = and_parts (list_all (λ group. list_any set (slice_index_or u.groups group [])) (get_or u.needs p [])) (not (list_any set (get_or u.excludes p [])))
    (and_parts (nat_lt p (length u.needs)) (list_all (λ group. list_any set (slice_index_or u.groups group [])) (get_or u.needs p []) && not (list_any set (get_or u.excludes p []))) is).1 in
    record {
      met = list_all-map (list_any set) (λ group. slice_index_or u.groups group []) (get_or u.needs p []) ∙ parts.0;
      none = not-true (list_any set (get_or u.excludes p [])) parts.1;
    }

module _ (s : Setting) (sources : Meaning) (u : Universe) (is : IsUniverseWith s sources u) (lists : Pairwise Lists s.values s.packages) where
  abbrev count : ℕ
  count = length s.packages

  abbrev needs : ℕ → List (List ℕ)
  needs = rows_in is.first_needs u.groups is.first_excludes

  abbrev excluded : ℕ → List ℕ
  excluded = excludes_in is.first_needs u.groups is.first_excludes

  decided : AreDecidedBy s.readings s.terms s.environment s.packages s.values needs excluded
  decided = rows_decide s.readings s.terms s.environment s.packages s.values needs excluded lists (are-rows s is.first_needs u.groups is.first_excludes is.packages)

  same_count : length s.values ≡ count
  same_count = sym (pairwise-length Lists s.values s.packages lists)

  pub needs_long : length is.first_needs ≡ count + 1
  needs_long = is.packages.needs_each ∙ ap (λ n. n + 1) same_count

  pub excludes_long : length is.first_excludes ≡ count + 1
  excludes_long = is.packages.excludes_each ∙ ap (λ n. n + 1) same_count

  -- the rows of a package
  package-needs : (number : ℕ) → number ≤ count → map (λ group. slice_index_or u.groups group []) (get_or u.needs number []) ≡ needs number
  package-needs number most = ap (map (λ group. slice_index_or u.groups group [])) (front u.needs is.first_needs is.rows number [] is.needed (omega (arith, most, needs_long)))

  package-excludes : (number : ℕ) → number ≤ count → get_or u.excludes number [] ≡ excluded number
  package-excludes number most = front u.excludes is.first_excludes (map (barred_in s) sources) number [] is.excluded (omega (arith, most, excludes_long))

  module _ (k : ℕ) (values : ValueEntries ValueMeaning) (at : slice_get sources k ≡ Some values) where
    abbrev place : ℕ
    place = count + 1 + k

    -- those of a source package
    source-needs : map (λ group. slice_index_or u.groups group []) (get_or u.needs place []) ≡ built_in s values
    source-needs =
        let row = row-at u.groups is.rows (map (built_in s) sources) k (built_in s values) is.are (slice_get-map (built_in s) sources k ∙ ap (option_map (built_in s)) at) in
        ap (map (λ group. slice_index_or u.groups group [])) (behind u.needs is.first_needs is.rows place k [] is.needed (ap (λ n. n + k) (sym needs_long)))
        ∙ numbers-rows u.groups (get_or is.rows k []) (built_in s values) row

    pub source-excludes : get_or u.excludes place [] ≡ barred_in s values
    source-excludes =
        behind u.excludes is.first_excludes (map (barred_in s) sources) place k [] is.excluded (ap (λ n. n + k) (sym excludes_long))
        ∙ get_or_from_slice_get (map (barred_in s) sources) k (barred_in s values) [] (slice_get-map (barred_in s) sources k ∙ ap (option_map (barred_in s)) at)

    -- a set of numbers with that of the source package has what builds it
    pub buildable-from : IsInstallableIn u place → IsBuildable s.readings s.terms s.environment s.packages s.values values
    buildable-from has =
        let set = has.set in
        let own = fitting u set place (has.is_healthy place has.contains) in
        let healthy : IsHealthyByRows count needs excluded set =
        record {
          abundance = λ number some most contains. sym (ap (list_all (list_any set)) (package-needs number most)) ∙ (fitting u set number (has.is_healthy number contains)).met;
          peace = λ number some most contains. sym (ap (list_any set) (package-excludes number most)) ∙ (fitting u set number (has.is_healthy number contains)).none;
        } in
        build_rows_decide.from_rows s.readings s.terms s.environment s.packages s.values needs excluded decided values (built_in s values) (barred_in s values) (same-rows (built_in s values)) (λ n. refl)
        (record {
          set = set;
          healthy = healthy;
          abundance = sym (ap (list_all (list_any set)) source-needs) ∙ own.met;
          peace = sym (ap (list_any set) source-excludes) ∙ own.none;
        })

    pub within : place < length u.needs
    within =
        let rows_long : length (map (built_in s) sources) ≡ length is.rows = pairwise-length (AreNumbersOf u.groups) is.rows (map (built_in s) sources) is.are in
        let mapped : length (map (built_in s) sources) ≡ length sources = length-map sources (built_in s) in
        omega (arith, needs_long, ap length is.needed, length-append is.first_needs is.rows, rows_long, mapped, slice_get_within sources k values at)

    -- and what builds it is such a set, with that number
    pub with-buildable : IsBuildable s.readings s.terms s.environment s.packages s.values values → IsInstallableIn u place
    with-buildable given =
        let set : ℕ → Bool = only count given.set in
        let healthy = decided.healthy set (only-healthy s.readings s.terms s.environment s.packages s.values values lists given) in
        let abundance = sym (can-build s.readings s.environment set s.packages values) ∙ only-can s.readings s.terms s.environment s.packages s.values values lists given in
        let peace = not-true (list_any set (barred_in s values)) (sym (may-build s.readings s.environment set s.packages values) ∙ only-may s.readings s.terms s.environment s.packages s.values values lists given) in
        record {
          set = with_one set place;
          is_healthy = λ p contains. elim (or_cases (set p) (eqb p place) contains) [
            | inl member ↦
                let listed = only-listed count given.set p member in
                made-fits u (with_one set place) p (needs p) (excluded p) (omega (arith, listed.1, within)) (package-needs p listed.1) (package-excludes p listed.1)
                (all-with set place (needs p) (healthy.abundance p listed.0 listed.1 member))
                (none-with set place (excluded p) (healthy.peace p listed.0 listed.1 member)
                (λ other among_them.
                let most = (exclusions-listed s.readings s.terms s.environment s.packages s.values needs excluded (are-rows s is.first_needs u.groups is.first_excludes is.packages) same_count p other listed.0 listed.1 among_them).1 in
                omega (arith, most)))
            | inr same ↦
                subst (λ q. fits u (with_one set place) q ≡ true) (sym (eqb-true p place same))
                (made-fits u (with_one set place) place (built_in s values) (barred_in s values) within source-needs source-excludes
                (all-with set place (built_in s values) abundance)
                (none-with set place (barred_in s values) peace
                (λ other among_them.
                let most = (barred-listed s.readings s.terms s.environment s.packages values other among_them).1 in
                omega (arith, most))))
          ];
          contains = or_right (set place) (eqb place place) (itself place);
        }
