-- What a selection of the code has of its conditions.
use Rattle.std.specs.Prelude.{◌≡◌, ℕ, Bool, true, false, List, [], ◌∷◌, get_or, length, map, Option}
use Rattle.std.specs.Prelude.{None, Some, Vec, codes, refl}
use Rattle.std.specs.List.{AllByRecursion, filter}
use Rattle.std.specs.Str.{bytes_eq}
use Rattle.std.specs.declared.alloc.Global.{Global}
use denote.Ref.{Bor}
use Rattle.indexmap.specs.IndexMap.{IndexMap, get_by}
use Rattle.indexmap.specs.Layout.{hash_map}
use Rattle.deb_base.specs.Kinds.{known_row}
use Rattle.deb_base.specs.Literals.{lent, vector}
use Rattle.deb_base.specs.Names.{folded}
use Rattle.deb_base.specs.declared.doc.Doc.{Doc}
use Rattle.deb_select.specs.Conditions.{ConditionMeaning, IsPresent, SelectionMeaning}
use Rattle.deb_select.specs.Grammar.{SpellsCondition}
use Rattle.deb_select.specs.Kept.{KeptTest, NamesBytes, Present, test_kept, test_shown}
use Rattle.deb_select.specs.declared.selection.Selection.{Selection}
use Rattle.deb_select.specs.declared.test.Test.{Test}
use Rattle.deb_select.specs.declared.test.Test.TheVariants as variants

-- the tests of a field that a map has, by the field's name in lower case
abbrev pub tests_in : {A : Type 0} → Option (Vec Test A) → List KeptTest
tests_in None = []
tests_in (Some found) = map test_shown found.items

abbrev pub tests_under : {A B S : Type 0} → IndexMap (Vec ℕ A) (Vec Test B) S → List ℕ
    → List KeptTest
tests_under tests name = tests_in (get_by (λ k. bytes_eq name k.items) tests)

-- the tests that are lent, or none
abbrev pub tests_lent : Option (Bor (List Test)) → List KeptTest
tests_lent None = []
tests_lent (Some tests) = map test_shown tests.now

-- whether a condition asks for a field, by the field's name in lower case, and those that do
abbrev pub asks_for : List ℕ → ConditionMeaning → Bool
asks_for name condition = bytes_eq name (folded condition.name)

abbrev pub conditions_on : List ℕ → List ConditionMeaning → List ConditionMeaning
conditions_on name conditions = filter (asks_for name) conditions

abbrev pub tests_on : List ℕ → List ConditionMeaning → List KeptTest
tests_on name conditions =
    map (λ condition. test_kept condition.test) (conditions_on name conditions)

-- whether a condition may ask for a field in this row of the table of fields
abbrev pub may_ask_for : List Bool → ℕ → Bool
may_ask_for rows row = get_or rows row true

-- A text spells the condition.
abbrev pub IsSpelled : Doc → ConditionMeaning → Type 0
IsSpelled doc condition = (text : List ℕ) × SpellsCondition doc text condition

-- The selection has these conditions, of documents of a kind.
pub record HasConditions (doc : Doc) (meaning : SelectionMeaning) (selection : Selection) : Type 0
  where
    pub of_kind : selection.doc ≡ doc
    pub negated : selection.negated ≡ meaning.negated
    pub tests : (name : List ℕ)
        → tests_under selection.tests name ≡ tests_on name meaning.conditions
    pub counted : selection.count ≡ length meaning.conditions
    pub rows : AllByRecursion
        (λ condition. may_ask_for selection.rows (known_row condition.name) ≡ true)
        meaning.conditions
    pub spelled : AllByRecursion (IsSpelled doc) meaning.conditions

-- two conditions on one field in two spellings of its name, and another one
abbrev three : List ConditionMeaning
three =
    record { name = codes "Tag"; test = IsPresent }
    ∷ record { name = codes "Size"; test = IsPresent }
    ∷ record { name = codes "TAG"; test = IsPresent } ∷ []

worked-tests : (tests_on (codes "tag") three ≡ Present ∷ Present ∷ [])
    × (tests_on (codes "size") three ≡ Present ∷ [])
    × (tests_on (codes "Tag") three ≡ []) × (tests_on (codes "ta") three ≡ [])
worked-tests = (refl, refl, refl, refl)

worked-rows : (may_ask_for (false ∷ true ∷ []) 0 ≡ false)
    × (may_ask_for (false ∷ true ∷ []) 1 ≡ true)
    × (may_ask_for (false ∷ true ∷ []) 2 ≡ true)
worked-rows = (refl, refl, refl)

-- ---- worked cases of what the code has

-- that a field is there, and that aa is one of its names
abbrev both : List Test
both = variants.Present ∷ variants.Names (vector (codes "aa") refl) ∷ []

worked-tests_in : (tests_in {A = Global} None ≡ [])
    × (tests_in (Some (vector both refl)) ≡ Present ∷ NamesBytes (codes "aa") ∷ [])
worked-tests_in = (refl, refl)

worked-lent : (tests_lent None ≡ [])
    × (tests_lent (Some (lent both)) ≡ Present ∷ NamesBytes (codes "aa") ∷ [])
worked-lent = (refl, refl)

-- names that are there, a prefix of one, one that begins with one, and another one
abbrev by_name : IndexMap (Vec ℕ Global) (Vec Test Global) ℕ
by_name = hash_map
    ((vector (codes "tag") refl, vector both refl)
    ∷ (vector (codes "size") refl, vector (variants.Present ∷ []) refl) ∷ [])
    0 0

worked-tests_under : map (tests_under by_name)
    (codes "tag" ∷ codes "size" ∷ codes "ta" ∷ codes "tags" ∷ codes "aa" ∷ [])
    ≡ (Present ∷ NamesBytes (codes "aa") ∷ []) ∷ (Present ∷ []) ∷ [] ∷ [] ∷ [] ∷ []
worked-tests_under = refl
