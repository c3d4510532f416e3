-- Numbers of rows that are appended.
use Rattle.std.proofs.Common.{◌≡◌, ℕ, suc, zero, Bool, true, false, cond, ◌||◌, List, [], ◌∷◌, ◌++◌, map, append_assoc, append-nil, Some, slice_get, refl, sym, ap, ◌∙◌}
use Rattle.std.specs.List.{filter, flat_map, list_any}
use Rattle.deb_relation.specs.Applying.{Environment}
use Rattle.deb_relation.specs.Meaning.{Group}
use Rattle.deb_index.specs.Listed.{Listed}
use Rattle.deb_unmet.specs.Readings.{applies_by, may, surely}
use Rattle.deb_install.specs.Building.{AppendsRows, AreNumbersOf, Grows, HasRow}
use Rattle.deb_install.specs.Candidates.{candidates_if, rows_if_may}
use Rattle.deb_install.specs.Rows.{candidates, group_rows, some_surely_applies}
use Rattle.deb_install.specs.declared.readings.Readings.{Readings}
use Rattle.deb_install.specs.declared.readings.Readings.TheVariants.{Every, One}

pub grows-none : (rows : List (List ℕ)) → Grows rows rows
grows-none rows = record { more = []; is = sym (append-nil rows) }

pub grows-then : (first second third : List (List ℕ)) → Grows first second → Grows second third → Grows first third
grows-then first second third a b =
    record { more = a.more ++ b.more; is = b.is ∙ ap (λ l. l ++ b.more) a.is ∙ append_assoc first a.more b.more }

get-front : {X : Type 0} (xs ys : List X) (n : ℕ) (x : X) → slice_get xs n ≡ Some x → slice_get (xs ++ ys) n ≡ Some x
get-front [] ys zero x is = absurd cc
get-front [] ys (suc n) x is = absurd cc
get-front (z ∷ xs) ys zero x is = is
get-front (z ∷ xs) ys (suc n) x is = get-front xs ys n x is

pub get-grown : (old new : List (List ℕ)) (n : ℕ) (row : List ℕ) → Grows old new → slice_get old n ≡ Some row → slice_get new n ≡ Some row
get-grown old new n row grows is = ap (λ l. slice_get l n) grows.is ∙ get-front old grows.more n row is

pub numbers-grown : (old new : List (List ℕ)) (numbers : List ℕ) (rows : List (List ℕ)) → Grows old new → AreNumbersOf old numbers rows → AreNumbersOf new numbers rows
numbers-grown old new [] [] grows are = tt
numbers-grown old new [] (row ∷ rows) grows are = are
numbers-grown old new (n ∷ numbers) [] grows are = are
numbers-grown old new (n ∷ numbers) (row ∷ rows) grows are =
    (get-grown old new n row grows are.0, numbers-grown old new numbers rows grows are.1)

pub numbers-append : (all : List (List ℕ)) (numbers more : List ℕ) (rows others : List (List ℕ)) → AreNumbersOf all numbers rows → AreNumbersOf all more others → AreNumbersOf all (numbers ++ more) (rows ++ others)
numbers-append all [] more [] others are and = and
numbers-append all [] more (row ∷ rows) others are and = absurd are
numbers-append all (n ∷ numbers) more [] others are and = absurd are
numbers-append all (n ∷ numbers) more (row ∷ rows) others are and =
    (are.0, numbers-append all numbers more rows others are.1 and)

pub appends-none : (rows : List (List ℕ)) (out : List ℕ) → AppendsRows rows rows out out []
appends-none rows out = record { grows = grows-none rows; numbers = []; appended = sym (append-nil out); are = tt }

pub appends-then : (a b c : List (List ℕ)) (x y z : List ℕ) (rows others : List (List ℕ)) → AppendsRows a b x y rows → AppendsRows b c y z others → AppendsRows a c x z (rows ++ others)
appends-then a b c x y z rows others first second = record {
  grows = grows-then a b c first.grows second.grows;
  numbers = first.numbers ++ second.numbers;
  appended = second.appended ∙ ap (λ l. l ++ second.numbers) first.appended ∙ append_assoc x first.numbers second.numbers;
  are = numbers-append c first.numbers second.numbers rows others (numbers-grown b c first.numbers rows second.grows first.are) second.are;
}

pub appends-one : (old new : List (List ℕ)) (before after : List ℕ) (row : List ℕ) (number : ℕ) → HasRow old new row number → after ≡ before ++ number ∷ [] → AppendsRows old new before after (row ∷ [])
appends-one old new before after row number has is =
    record { grows = has.grows; numbers = number ∷ []; appended = is; are = (has.is, tt) }

-- the rows of one piece more
pub rows-more : {X : Type 0} (rows : X → List (List ℕ)) (done : List X) (x : X) → flat_map rows (done ++ x ∷ []) ≡ flat_map rows done ++ rows x
rows-more rows [] x = append-nil (rows x)
rows-more rows (y ∷ done) x = ap (λ l. rows y ++ l) (rows-more rows done x) ∙ sym (append_assoc (rows y) (flat_map rows done) (rows x))

pub any-more : {X : Type 0} (test : X → Bool) (done : List X) (x : X) → list_any test (done ++ x ∷ []) ≡ (list_any test done || test x)
any-more test [] x = or-last (test x)
  where
    or-last : (v : Bool) → (v || false) ≡ v
    or-last true = refl
    or-last false = refl
any-more test (y ∷ done) x = or-each (test y) (list_any test (done ++ x ∷ [])) (list_any test done) (test x) (any-more test done x)
  where
    or-each : (u v w t : Bool) → v ≡ (w || t) → (u || v) ≡ ((u || w) || t)
    or-each true v w t is = refl
    or-each false v w t is = is

-- ---- the rows of a group

flat-one : {X : Type 0} (f : X → List ℕ) (v : Bool) (x : X) (kept : List X) (rest : List ℕ) → flat_map f kept ≡ rest → flat_map f (cond v (x ∷ kept) kept) ≡ cond v (f x) [] ++ rest
flat-one f true x kept rest is = ap (λ l. f x ++ l) is
flat-one f false x kept rest is = is

flat-kept : {X : Type 0} (f : X → List ℕ) (test : X → Bool) (xs : List X) → flat_map f (filter test xs) ≡ flat_map (λ x. cond (test x) (f x) []) xs
flat-kept f test [] = refl
flat-kept f test (x ∷ xs) = flat-one f (test x) x (filter test xs) (flat_map (λ x. cond (test x) (f x) []) xs) (flat-kept f test xs)

map-one : {X : Type 0} (f : X → List ℕ) (v : Bool) (x : X) (kept : List X) (rest : List (List ℕ)) → map f kept ≡ rest → map f (cond v (x ∷ kept) kept) ≡ cond v (f x ∷ []) [] ++ rest
map-one f true x kept rest is = ap (λ l. f x ∷ l) is
map-one f false x kept rest is = is

pub map-kept : {X : Type 0} (f : X → List ℕ) (test : X → Bool) (xs : List X) → map f (filter test xs) ≡ flat_map (λ x. cond (test x) (f x ∷ []) []) xs
map-kept f test [] = refl
map-kept f test (x ∷ xs) = map-one f (test x) x (filter test xs) (flat_map (λ x. cond (test x) (f x ∷ []) []) xs) (map-kept f test xs)

-- one row, if some alternative surely applies
pub rows-if-sure : (readings : Readings) (environment : Environment) (packages : List Listed) (group : Group) → some_surely_applies environment group ≡ true → group_rows readings environment packages group ≡ flat_map (candidates_if readings environment packages) group ∷ []
rows-if-sure Every environment packages group sure =
    ap (λ v. cond v (flat_map (candidates environment packages) (filter (λ a. surely (applies_by environment a)) group) ∷ []) (map (candidates environment packages) (filter (λ a. may (applies_by environment a)) group))) sure
    ∙ ap (λ l. l ∷ []) (flat-kept (candidates environment packages) (λ a. surely (applies_by environment a)) group)
rows-if-sure One environment packages group sure =
    ap (λ v. cond v (flat_map (candidates environment packages) (filter (λ a. may (applies_by environment a)) group) ∷ []) []) sure
    ∙ ap (λ l. l ∷ []) (flat-kept (candidates environment packages) (λ a. may (applies_by environment a)) group)

-- else one for each that may apply, or none
pub rows-each : (environment : Environment) (packages : List Listed) (group : Group) → some_surely_applies environment group ≡ false → group_rows Every environment packages group ≡ flat_map (rows_if_may environment packages) group
rows-each environment packages group none =
    ap (λ v. cond v (flat_map (candidates environment packages) (filter (λ a. surely (applies_by environment a)) group) ∷ []) (map (candidates environment packages) (filter (λ a. may (applies_by environment a)) group))) none
    ∙ map-kept (candidates environment packages) (λ a. may (applies_by environment a)) group

pub rows-none : (environment : Environment) (packages : List Listed) (group : Group) → some_surely_applies environment group ≡ false → group_rows One environment packages group ≡ []
rows-none environment packages group none =
    ap (λ v. cond v (flat_map (candidates environment packages) (filter (λ a. may (applies_by environment a)) group) ∷ []) []) none
