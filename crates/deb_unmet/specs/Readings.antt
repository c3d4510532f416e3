-- Whether an alternative applies where its architecture list may be read in two ways. Debian Policy
-- 7.1 and 11.1; architecture wildcards aren't expanded here, which is this project's own.
use Rattle.std.specs.Prelude.{◌≡◌, ℕ, ◌==◌, Bool, true, false, not, cond, ◌||◌, List, [], ◌∷◌, map, Option, Some, None, codes, refl}
use Rattle.std.specs.List.{list_any}
use Rattle.deb_base.specs.PackageNames.{is_wildcard}
use Rattle.deb_relation.specs.Applying.{Environment, is_among, formula_applies}
use Rattle.deb_relation.specs.Meaning.{Alternative}
use Rattle.deb_relation.specs.declared.operator.Op.TheVariants.{LaterEqual}
use Rattle.deb_index.specs.Alternatives.{alone, with_bound, with_formula, with_list}
use Rattle.deb_unmet.specs.declared.applying.Applies.{Applies}
use Rattle.deb_unmet.specs.declared.applying.Applies.TheVariants.{Surely, Maybe, Never}

-- A name other than the target's may be read as holding the target, or as not: a wildcard, or a
-- name with a hyphen, as linux-amd64.
abbrev pub is_open : List ℕ → Bool
is_open name = is_wildcard name || list_any (λ byte. byte == 45) name

abbrev pub decided : Bool → Applies
decided applies = cond applies Surely Never

-- A list that names the target holds it; else one with an open name may hold it; else it doesn't.
-- A list without `!` applies if it holds the target, one with `!` if it doesn't.
abbrev pub named_applies : Bool → List (List ℕ) → List ℕ → Applies
named_applies negated names target =
    cond (is_among target names) (decided (not negated))
    (cond (list_any is_open names) Maybe (decided negated))

abbrev pub list_applies : Option (Bool × List (List ℕ)) → List ℕ → Applies
list_applies None target = Surely
list_applies (Some list) target = named_applies list.0 list.1 target

-- The formula is read in one way: where it doesn't apply, the alternative doesn't.
abbrev pub applies_by : Environment → Alternative → Applies
applies_by environment a =
    cond (formula_applies a.formula environment.profiles)
    (list_applies a.architectures environment.target) Never

-- it applies in every reading, and in some reading
abbrev pub surely : Applies → Bool
surely Surely = true
surely Maybe = false
surely Never = false

abbrev pub may : Applies → Bool
may Surely = true
may Maybe = true
may Never = false

-- A reading of an alternative says whether it applies: freely where it may be read in two ways.
abbrev pub is_reading : Applies → Bool → Bool
is_reading Surely applies = applies
is_reading Maybe applies = true
is_reading Never applies = not applies

-- For the target amd64 and no profiles: names that are open and others.
worked-open : map is_open
    (codes "any" ∷ codes "linux-any" ∷ codes "any-amd64" ∷ codes "linux-amd64" ∷ codes "i386"
    ∷ codes "all" ∷ codes "anything" ∷ [])
    ≡ true ∷ true ∷ true ∷ true ∷ false ∷ false ∷ false ∷ []
worked-open = refl

abbrev for_amd64 : Alternative → Applies
for_amd64 = applies_by (record { target = codes "amd64"; native = codes "amd64"; profiles = [] })

worked-without : map for_amd64
    (alone (codes "aa") ∷ with_bound (codes "aa") LaterEqual (codes "1")
    ∷ with_formula (codes "aa") (codes "nodoc") ∷ []) ≡ Surely ∷ Surely ∷ Never ∷ []
worked-without = refl

-- [amd64], [i386], [linux-any], [linux-amd64] and [any], and each with `!`
abbrev names_alone : List (List ℕ)
names_alone =
    codes "amd64" ∷ codes "i386" ∷ codes "linux-any" ∷ codes "linux-amd64" ∷ codes "any" ∷ []

worked-lists : (map (λ name. for_amd64 (with_list (codes "aa") false name)) names_alone
    ≡ Surely ∷ Never ∷ Maybe ∷ Maybe ∷ Maybe ∷ [])
    × (map (λ name. for_amd64 (with_list (codes "aa") true name)) names_alone
    ≡ Never ∷ Surely ∷ Maybe ∷ Maybe ∷ Maybe ∷ [])
worked-lists = (refl, refl)

-- a list that names the target is read in one way, whatever else it names; one open name is enough
worked-several : map (λ negated. map (λ names. named_applies negated names (codes "amd64"))
    ((codes "amd64" ∷ codes "linux-any" ∷ []) ∷ (codes "i386" ∷ codes "linux-any" ∷ [])
    ∷ (codes "arm64" ∷ codes "i386" ∷ []) ∷ [])) (false ∷ true ∷ [])
    ≡ (Surely ∷ Maybe ∷ Never ∷ []) ∷ (Never ∷ Maybe ∷ Surely ∷ []) ∷ []
worked-several = refl

-- a target with a hyphen is named by its own name alone
worked-hyphen : map (λ name. named_applies false (name ∷ []) (codes "kfreebsd-i386"))
    (codes "kfreebsd-i386" ∷ codes "kfreebsd-amd64" ∷ codes "i386" ∷ [])
    ≡ Surely ∷ Maybe ∷ Never ∷ []
worked-hyphen = refl

-- where the formula doesn't apply, the list isn't asked
worked-formula : for_amd64
    (record {
      name = codes "aa";
      qualifier = None;
      bound = None;
      architectures = Some (false, codes "amd64" ∷ []);
      formula = ((false, codes "nodoc") ∷ []) ∷ [];
    }) ≡ Never
worked-formula = refl

worked-readings : (map surely (Surely ∷ Maybe ∷ Never ∷ []) ≡ true ∷ false ∷ false ∷ [])
    × (map may (Surely ∷ Maybe ∷ Never ∷ []) ≡ true ∷ true ∷ false ∷ [])
    × (map (λ applies. is_reading applies true) (Surely ∷ Maybe ∷ Never ∷ [])
    ≡ true ∷ true ∷ false ∷ [])
    × (map (λ applies. is_reading applies false) (Surely ∷ Maybe ∷ Never ∷ [])
    ≡ false ∷ true ∷ true ∷ [])
worked-readings = (refl, refl, refl, refl)
