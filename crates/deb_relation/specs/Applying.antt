-- Which alternatives apply to an architecture and a set of build profiles, and what operators hold
-- of. Debian Policy 7.1.
use Rattle.std.specs.Prelude.{◌≡◌, ℕ, ◌==◌, length, Bool, true, false, not, if◌then◌else◌, ◌&&◌, ◌||◌, List, [], ◌∷◌, Option, Some, None, map, refl, codes}
use Rattle.std.specs.List.{list_all, list_any}
use Rattle.std.specs.Ordering.{is_eq, is_lt, is_le, is_gt, is_ge}
use Rattle.std.specs.Str.{bytes_eq}
use Rattle.std.specs.declared.cmp.Ordering.{Ordering}
use Rattle.std.specs.declared.cmp.Ordering.TheVariants.{Less, Equal as Same, Greater}
use Rattle.deb_relation.specs.declared.operator.Op.{Op}
use Rattle.deb_relation.specs.declared.operator.Op.TheVariants.{Earlier, EarlierEqual, Equal, LaterEqual, Later}
use Rattle.deb_relation.specs.Meaning.{Item, Restrictions, Alternative}

-- whether an operator holds of a version that compares so to that of the bound
abbrev pub holds : Op → Ordering → Bool
holds Earlier order = is_lt order
holds EarlierEqual order = is_le order
holds Equal order = is_eq order
holds LaterEqual order = is_ge order
holds Later order = is_gt order

worked-holds : map (λ op. holds op Less) (Earlier ∷ EarlierEqual ∷ Equal ∷ LaterEqual ∷ Later ∷ [])
    ≡ true ∷ true ∷ false ∷ false ∷ false ∷ []
worked-holds = refl

worked-holds_equal : map (λ op. holds op Same)
    (Earlier ∷ EarlierEqual ∷ Equal ∷ LaterEqual ∷ Later ∷ []) ≡ false ∷ true ∷ true ∷ true ∷ false
    ∷ []
worked-holds_equal = refl

worked-holds_later : map (λ op. holds op Greater)
    (Earlier ∷ EarlierEqual ∷ Equal ∷ LaterEqual ∷ Later ∷ []) ≡ false ∷ false ∷ false ∷ true ∷ true
    ∷ []
worked-holds_later = refl

-- A target architecture, the native one, which `all` counts as (deb-control(5)), and the build
-- profiles that are active.
pub record Environment : Type 0 where
  pub target : List ℕ
  pub native : List ℕ
  pub profiles : List (List ℕ)

-- whether a name is among names
abbrev pub is_among : List ℕ → List (List ℕ) → Bool
is_among name names = list_any (λ other. bytes_eq other name) names

-- a list without `!` applies if it holds the target, one with `!` if it doesn't; without a list an
-- alternative applies
abbrev pub list_applies : Option (Bool × List (List ℕ)) → List ℕ → Bool
list_applies None target = true
list_applies (Some list) target =
    if list.0 then not (is_among target list.1) else is_among target list.1

-- an item holds if its profile is active, one with `!` if it isn't
abbrev pub item_holds : List (List ℕ) → Item → Bool
item_holds profiles item =
    if item.0 then not (is_among item.1 profiles) else is_among item.1 profiles

-- all items of a list hold
abbrev pub all_hold : List (List ℕ) → Restrictions → Bool
all_hold profiles items = list_all (item_holds profiles) items

-- a formula applies if all items of one of its lists hold; without lists an alternative applies
abbrev pub formula_applies : List Restrictions → List (List ℕ) → Bool
formula_applies lists profiles = (length lists == 0) || list_any (all_hold profiles) lists

-- whether an alternative applies: its list and its formula do
abbrev pub applies : Alternative → Environment → Bool
applies a environment =
    list_applies a.architectures environment.target &&
    formula_applies a.formula environment.profiles

-- Lists and formulas, for the target amd64 with the profile nocheck.
abbrev with_list : Option (Bool × List (List ℕ)) → Bool
with_list list = list_applies list (codes "amd64")

worked-lists : map with_list
    (None ∷ Some (false, codes "i386" ∷ codes "amd64" ∷ []) ∷ Some (false, codes "i386" ∷ [])
    ∷ Some (true, codes "amd64" ∷ []) ∷ Some (true, codes "i386" ∷ [])
    ∷ Some (false, codes "linux-any" ∷ []) ∷ []) ≡ true ∷ true ∷ false ∷ false ∷ true ∷ false ∷ []
worked-lists = refl

-- a wildcard is compared as a name, with `!` too
worked-wildcards : map with_list
    (Some (true, codes "any" ∷ []) ∷ Some (true, codes "linux-any" ∷ codes "amd64" ∷ [])
    ∷ Some (false, codes "any" ∷ codes "amd64" ∷ []) ∷ []) ≡ true ∷ false ∷ true ∷ []
worked-wildcards = refl

abbrev with_formula : List Restrictions → Bool
with_formula lists = formula_applies lists (codes "nocheck" ∷ [])

worked-none : with_formula [] ≡ true
worked-none = refl

worked-inactive : with_formula (((true, codes "nocheck") ∷ []) ∷ []) ≡ false
worked-inactive = refl

worked-one_of_two : with_formula
    (((true, codes "nocheck") ∷ []) ∷ ((false, codes "nocheck") ∷ []) ∷ []) ≡ true
worked-one_of_two = refl

worked-all_items : with_formula (((false, codes "nocheck") ∷ (false, codes "nodoc") ∷ []) ∷ [])
    ≡ false
worked-all_items = refl

worked-not_active : with_formula (((false, codes "nocheck") ∷ (true, codes "nodoc") ∷ []) ∷ [])
    ≡ true
worked-not_active = refl

-- both the list and the formula have to apply
worked-list_alone : applies
    (record {
      name = codes "aa";
      qualifier = None;
      bound = None;
      architectures = Some
          (false, codes "amd64" ∷ []);
      formula = ((true, codes "nocheck") ∷ []) ∷ [];
    })
    (record { target = codes "amd64"; native = codes "amd64"; profiles = codes "nocheck" ∷ [] })
    ≡ false
worked-list_alone = refl

-- for the target amd64 with the profile nocheck: a list that applies or doesn't, with a formula
-- that does or doesn't
abbrev with_both : List ℕ → Bool → Bool
with_both name negated =
    applies
    (record {
      name = codes "aa";
      qualifier = None;
      bound = None;
      architectures = Some (false, name ∷ []);
      formula = ((negated, codes "nocheck") ∷ []) ∷ [];
    })
    (record { target = codes "amd64"; native = codes "amd64"; profiles = codes "nocheck" ∷ [] })

worked-both : (with_both (codes "amd64") false ≡ true) × (with_both (codes "i386") false ≡ false)
    × (with_both (codes "amd64") true ≡ false) × (with_both (codes "i386") true ≡ false)
worked-both = (refl, refl, refl, refl)

-- names are compared whole, and with case
worked-names : (is_among (codes "amd64") (codes "amd" ∷ codes "amd640" ∷ codes "AMD64" ∷ [])
    ≡ false) × (is_among (codes "b") (codes "a" ∷ codes "b" ∷ []) ≡ true) × (is_among [] [] ≡ false)
worked-names = (refl, refl, refl)

-- without profiles an item with `!` holds
worked-no_profiles : (formula_applies (((true, codes "nocheck") ∷ []) ∷ []) [] ≡ true)
    × (formula_applies (((false, codes "nocheck") ∷ []) ∷ []) [] ≡ false)
worked-no_profiles = (refl, refl)
