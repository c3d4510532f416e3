-- The rows of a universe, package by package; and that they decide which packages are installable.
use Rattle.std.proofs.Common.{◌≡◌, ◌⊎◌, inl, inr, ℕ, zero, suc, ◌+◌, ◌<◌, ◌≤◌, List, [], ◌∷◌, ◌++◌, length, map, get_or, take, Some, slice_get, refl, sym, ap, ◌∙◌, subst, arith}
use Rattle.std.specs.List.{slice_index_or}
use Rattle.std.proofs.Math.Seq.{get_or-append_seam}
use Rattle.std.proofs.lemmas.List.{get_or_append_left, length_push, take_all}
use Rattle.std.proofs.lemmas.Option.{get_or_from_slice_get, slice_get_within}
use Rattle.deb_field.specs.Values.{ValueMeaning}
use Rattle.deb_control.specs.Documents.{Meaning}
use Rattle.deb_control.specs.Pairs.{Pairwise}
use Rattle.deb_control.specs.ValueFiles.{ValueEntries}
use Rattle.deb_control.proofs.GivenValues.{pairwise-length}
use Rattle.deb_health.specs.Kept.{HoldsMember}
use Rattle.deb_syntax.specs.Fields.{Field}
use Rattle.deb_install.specs.Building.{AreNumbersOf}
use Rattle.deb_install.specs.Keeping.{HoldsValues}
use Rattle.deb_install.specs.Rows.{AreRowsOf}
use Rattle.deb_install.specs.Universes.{AppendsPackage, AreUniverseRows, IsBuilt, Setting, excluded_in, needed_in, shared_rows}
use Rattle.deb_install.specs.declared.kept.KeptMember.{KeptMember}
use Rattle.deb_install.specs.declared.universe.Building.{Building}
use Rattle.deb_install.proofs.Appended.{numbers-grown}
use Rattle.deb_install.proofs.ListedRows.{excludes_in, rows_in}

pub numbers-rows : (all : List (List ℕ)) (numbers : List ℕ) (rows : List (List ℕ)) → AreNumbersOf all numbers rows → map (λ group. slice_index_or all group []) numbers ≡ rows
numbers-rows all [] [] are = refl
numbers-rows all [] (row ∷ rows) are = absurd are
numbers-rows all (n ∷ numbers) [] are = absurd are
numbers-rows all (n ∷ numbers) (row ∷ rows) are =
    let first = get_or_from_slice_get all n row [] are.0 in
    let more = numbers-rows all numbers rows are.1 in
    λ i. first i ∷ more i

nothing-at : {X : Type 0} (xs : List X) (k : ℕ) (x : X) → xs ≡ [] → slice_get xs k ≡ Some x → ⊥
nothing-at xs k x none is =
    let within : k < length xs = slice_get_within xs k x is in
    let empty : length xs ≡ 0 = ap length none in
    omega (arith, within, empty)

-- an element of a list with one more: of the list, or that one
pushed : {X : Type 0} (xs : List X) (x : X) (k : ℕ) (y : X) → slice_get (xs ++ x ∷ []) k ≡ Some y → (slice_get xs k ≡ Some y) ⊎ ((k ≡ length xs) × (x ≡ y))
pushed [] x zero y is = inr (refl, cc)
pushed [] x (suc k) y is = absurd (nothing-at [] k y refl is)
pushed (z ∷ xs) x zero y is = inl is
pushed (z ∷ xs) x (suc k) y is = elim (pushed xs x k y is) [
  | inl before ↦ inl before
  | inr last ↦ inr (ap suc last.0, last.1)
]

-- the rows of one package more
left-at : (rows new : List (List ℕ)) (row : List ℕ) (k n : ℕ) → new ≡ rows ++ row ∷ [] → length rows ≡ n + 1 → k < n → get_or new (k + 1) [] ≡ get_or rows (k + 1) []
left-at rows new row k n is long less = ap (λ l. get_or l (k + 1) []) is ∙ get_or_append_left rows (row ∷ []) [] (k + 1) (omega (arith, long, less))

first-at : (rows new : List (List ℕ)) (row : List ℕ) (n : ℕ) → new ≡ rows ++ row ∷ [] → length rows ≡ n + 1 → get_or new 0 [] ≡ get_or rows 0 []
first-at rows new row n is long = ap (λ l. get_or l 0 []) is ∙ get_or_append_left rows (row ∷ []) [] 0 (omega (arith, long))

last-at : (rows new : List (List ℕ)) (row : List ℕ) (k n : ℕ) → new ≡ rows ++ row ∷ [] → length rows ≡ n + 1 → k ≡ n → get_or new (k + 1) [] ≡ row
last-at rows new row k n is long same =
    ap (λ l. get_or l (k + 1) []) is ∙ ap (λ m. get_or (rows ++ row ∷ []) m []) (omega (arith, long, same)) ∙ get_or-append_seam rows row [] []

long-more : (rows new : List (List ℕ)) (row : List ℕ) (n : ℕ) → new ≡ rows ++ row ∷ [] → length rows ≡ n + 1 → length new ≡ (n + 1) + 1
long-more rows new row n is long = ap length is ∙ length_push rows row ∙ ap (λ m. m + 1) long

module _ (s : Setting) where
  pub first_rows : (needs groups excludes : List (List ℕ)) → needs ≡ [] ∷ [] → excludes ≡ [] ∷ [] → AreUniverseRows s [] needs groups excludes
  first_rows needs groups excludes are out = record {
    needs_each = ap length are;
    excludes_each = ap length out;
    none_needed = ap (λ l. get_or l 0 []) are;
    none_excluded = ap (λ l. get_or l 0 []) out;
    needed = λ k values is. absurd (nothing-at [] k values refl is);
    excluded = λ k values is. absurd (nothing-at [] k values refl is);
  }

  pub more_rows : (first : Meaning) (v : ValueEntries ValueMeaning) (number : ℕ) (old new : Building) → number ≡ length first + 1 → AreUniverseRows s first old.needs old.groups.rows old.excludes → AppendsPackage s number v old new → AreUniverseRows s (first ++ v ∷ []) new.needs new.groups.rows new.excludes
  more_rows first v number old new at rows more = record {
    needs_each = long-more old.needs new.needs more.row (length first) more.needs rows.needs_each ∙ ap (λ m. m + 1) (sym (length_push first v));
    excludes_each = long-more old.excludes new.excludes (excluded_in s number v) (length first) more.excludes rows.excludes_each ∙ ap (λ m. m + 1) (sym (length_push first v));
    none_needed = first-at old.needs new.needs more.row (length first) more.needs rows.needs_each ∙ rows.none_needed;
    none_excluded = first-at old.excludes new.excludes (excluded_in s number v) (length first) more.excludes rows.excludes_each ∙ rows.none_excluded;
    needed = λ k values is. elim (pushed first v k values is) [
      | inl before ↦
          subst (λ l. AreNumbersOf new.groups.rows l (needed_in s values)) (sym (left-at old.needs new.needs more.row k (length first) more.needs rows.needs_each (slice_get_within first k values before)))
          (numbers-grown old.groups.rows new.groups.rows (get_or old.needs (k + 1) []) (needed_in s values) more.grows (rows.needed k values before))
      | inr last ↦
          subst (λ l. AreNumbersOf new.groups.rows l (needed_in s values)) (sym (last-at old.needs new.needs more.row k (length first) more.needs rows.needs_each last.0))
          (subst (λ w. AreNumbersOf new.groups.rows more.row (needed_in s w)) last.1 more.are)
    ];
    excluded = λ k values is. elim (pushed first v k values is) [
      | inl before ↦ left-at old.excludes new.excludes (excluded_in s number v) k (length first) more.excludes rows.excludes_each (slice_get_within first k values before) ∙ rows.excluded k values before
      | inr last ↦
          last-at old.excludes new.excludes (excluded_in s number v) k (length first) more.excludes rows.excludes_each last.0
          ∙ ap (λ w. excluded_in s number w) last.1 ∙ ap (λ m. excluded_in s m values) (at ∙ ap (λ m. m + 1) (sym last.0))
    ];
  }

  -- they are rows by the definitions
  pub are-rows : (needs groups excludes : List (List ℕ)) → AreUniverseRows s s.values needs groups excludes → AreRowsOf s.readings s.terms s.environment s.packages s.values (rows_in needs groups excludes) (excludes_in needs groups excludes)
  are-rows needs groups excludes rows = record {
    needed = λ k values is. numbers-rows groups (slice_index_or needs (k + 1) []) (needed_in s values) (rows.needed k values is);
    excluded = rows.excluded;
  }

-- the values of the next package of which something is kept
pub record NextHeld (meaning : Meaning) (n : ℕ) (kept : KeptMember) : Type 0 where
  pub values : ValueEntries ValueMeaning
  pub holds : HoldsValues values kept
  pub next : take (n + 1) meaning ≡ take n meaning ++ values ∷ []
  pub before : length (take n meaning) ≡ n

pub next-held : (meaning : Meaning) (all : List KeptMember) (n : ℕ) (kept : KeptMember) → n < length all → kept ≡ get_or all n kept → Pairwise HoldsValues meaning all → NextHeld meaning n kept
next-held [] [] n kept within is are = absurd (omega (arith, within))
next-held [] (k ∷ all) n kept within is are = absurd are
next-held (v ∷ meaning) [] n kept within is are = absurd are
next-held (v ∷ meaning) (k ∷ all) zero kept within is are = record { values = v; holds = subst (HoldsValues v) (sym is) are.0; next = refl; before = refl }
next-held (v ∷ meaning) (k ∷ all) (suc n) kept within is are =
    let later = next-held meaning all n kept (omega (arith, within)) is are.1 in
    let more : suc n + 1 ≡ suc (n + 1) = omega arith in
    record { values = later.values; holds = later.holds; next = ap (λ m. take m (v ∷ meaning)) more ∙ ap (λ l. v ∷ l) later.next; before = ap suc later.before }

pub all-held : (meaning : Meaning) (all : List KeptMember) (n : ℕ) → length all ≤ n → Pairwise HoldsValues meaning all → take n meaning ≡ meaning
all-held meaning all n past are =
    let long = pairwise-length HoldsValues meaning all are in
    take_all n meaning (omega (arith, past, long))

pub grown-rows : (s : Setting) (meaning : Meaning) (all : List KeptMember) (n number : ℕ) (kept : KeptMember) (old new : Building) → n < length all → kept ≡ get_or all n kept → number ≡ n + 1 → Pairwise HoldsValues meaning all → ((fields : List Field) (values : ValueEntries ValueMeaning) → HoldsMember fields values kept.texts → AppendsPackage s number values old new) → AreUniverseRows s (take n meaning) old.needs old.groups.rows old.excludes → AreUniverseRows s (take (n + 1) meaning) new.needs new.groups.rows new.excludes
grown-rows s meaning all n number kept old new within is at are more rows =
    let next = next-held meaning all n kept within is are in
    subst (λ m. AreUniverseRows s m new.needs new.groups.rows new.excludes) (sym next.next)
    (more_rows s (take n meaning) next.values number old new (at ∙ ap (λ m. m + 1) (sym next.before)) rows (more next.holds.fields next.values next.holds.holds))

-- The rows of packages with these values, the first ones, and the shared numbers.
pub record RowsSoFar (s : Setting) (first : Meaning) (shared : List ℕ) (building : Building) : Type 0 where
  pub built : IsBuilt s first building
  pub numbers : AreNumbersOf building.groups.rows shared (shared_rows s)

pub rows-more : (s : Setting) (meaning : Meaning) (all : List KeptMember) (n number : ℕ) (kept : KeptMember) (shared : List ℕ) (old new : Building) → n < length all → kept ≡ get_or all n kept → number ≡ n + 1 → Pairwise HoldsValues meaning all → ((fields : List Field) (values : ValueEntries ValueMeaning) → HoldsMember fields values kept.texts → AppendsPackage s number values old new) → RowsSoFar s (take n meaning) shared old → RowsSoFar s (take (n + 1) meaning) shared new
rows-more s meaning all n number kept shared old new within is at are more so_far =
    let next = next-held meaning all n kept within is are in
    record {
      built = record {
        rows = grown-rows s meaning all n number kept old new within is at are more so_far.built.rows;
        known = (more next.holds.fields next.values next.holds.holds).known;
      };
      numbers = numbers-grown old.groups.rows new.groups.rows shared (shared_rows s) (more next.holds.fields next.values next.holds.holds).grows so_far.numbers;
    }
