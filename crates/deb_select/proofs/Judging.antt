-- Which conditions hold of a paragraph, as its fields come one after another.
use Rattle.std.proofs.Common.{◌≡◌, ℕ, suc, ◌+◌, ◌-◌, ◌≤◌, ◌==◌, ◌&&◌, ◌||◌, Bool, true, false, cond, List, [], ◌∷◌, ◌++◌, length, map, None, Some, refl, sym, ap, ◌∙◌, subst, inl, inr, arith, eq-eqb}
use Rattle.std.proofs.lemmas.Bool.{and_from, and_parts, cases_Bool, eqb-true, false≢true}
use Rattle.std.proofs.lemmas.List.Folds.{list_any-append}
use Rattle.std.proofs.lemmas.Slice.Eq.{bytes_eq-Decides}
use Rattle.std.specs.FinMap.{find}
use Rattle.deb_syntax.specs.Meaning.{byte_order}
use Rattle.std.specs.List.{AllByRecursion, filter, list_all, list_any}
use Rattle.std.specs.Str.{bytes_eq}
use Rattle.deb_base.specs.Kinds.{kind_of}
use Rattle.deb_base.specs.Names.{canonical_name, folded}
use Rattle.deb_base.proofs.CanonicalNames.{canonical_name-from_folded, folded-canonical_name}
use Rattle.deb_base.specs.declared.doc.Doc.{Doc}
use Rattle.deb_syntax.specs.Fields.{Field, has_name}
use Rattle.deb_field.specs.ValueLaws.{kind_goes_by_name}
use Rattle.deb_field.specs.Values.{ValueMeaning}
use Rattle.deb_control.specs.FieldWords.{value_under}
use Rattle.deb_control.specs.ValueFiles.{ValueEntries}
use Rattle.deb_select.specs.Conditions.{ConditionMeaning, holds, passes, passes_if_any}
use Rattle.deb_select.specs.Grammar.{SpellsTest, parts_of}
use Rattle.deb_select.specs.Kept.{KeptTest, passes_kept, test_kept, value_kept}
use Rattle.deb_select.specs.Selections.{IsSpelled, asks_for, conditions_on, tests_on}
use Rattle.deb_select.proofs.FieldValues.{HasFieldValue}
use Rattle.deb_select.proofs.KeptTests.{kept-passes}

-- ---- elements that pass tests

module _ {X : Type 0} where
  count-either : (p q : X → Bool) → ((x : X) → q x ≡ true → p x ≡ false) → (xs : List X) → length (filter (λ x. p x || q x) xs) ≡ length (filter p xs) + length (filter q xs)
  count-either p q apart [] = refl
  count-either p q apart (x ∷ xs) = go (p x) (q x) (apart x) (count-either p q apart xs)
    where
      go : (a b : Bool) → (b ≡ true → a ≡ false) → length (filter (λ x. p x || q x) xs) ≡ length (filter p xs) + length (filter q xs)
          → length (cond (a || b) (x ∷ filter (λ x. p x || q x) xs) (filter (λ x. p x || q x) xs)) ≡ length (cond a (x ∷ filter p xs) (filter p xs)) + length (cond b (x ∷ filter q xs) (filter q xs))
      go true true other rest = absurd (false≢true (sym (other refl)))
      go true false other rest = omega (arith, rest)
      go false true other rest = omega (arith, rest)
      go false false other rest = rest

  hold-either : (p q h : X → Bool) (xs : List X) → AllByRecursion (λ x. p x ≡ true → h x ≡ true) xs → list_all h (filter q xs) ≡ true → AllByRecursion (λ x. (p x || q x) ≡ true → h x ≡ true) xs
  hold-either p q h [] before now = tt
  hold-either p q h (x ∷ xs) before now = (λ either. first (p x) (q x) before.0 now either, hold-either p q h xs before.1 (later (q x) now))
    where
      first : (a b : Bool) → (a ≡ true → h x ≡ true) → list_all h (cond b (x ∷ filter q xs) (filter q xs)) ≡ true → (a || b) ≡ true → h x ≡ true
      first true b was now either = was refl
      first false true was now either = (and_parts (h x) (list_all h (filter q xs)) now).0
      first false false was now either = absurd (false≢true either)

      later : (b : Bool) → list_all h (cond b (x ∷ filter q xs) (filter q xs)) ≡ true → list_all h (filter q xs) ≡ true
      later true now = (and_parts (h x) (list_all h (filter q xs)) now).1
      later false now = now

  pub one-fails : (q h : X → Bool) (xs : List X) → list_all h (filter q xs) ≡ false → list_all h xs ≡ false
  one-fails q h [] fails = fails
  one-fails q h (x ∷ xs) fails = go (q x) fails (one-fails q h xs)
    where
      either : (c : Bool) → (c && list_all h (filter q xs)) ≡ false → (list_all h (filter q xs) ≡ false → list_all h xs ≡ false) → (c && list_all h xs) ≡ false
      either true fails rest = rest fails
      either false fails rest = refl

      always : (c : Bool) → list_all h xs ≡ false → (c && list_all h xs) ≡ false
      always true fails = fails
      always false fails = refl

      go : (b : Bool) → list_all h (cond b (x ∷ filter q xs) (filter q xs)) ≡ false → (list_all h (filter q xs) ≡ false → list_all h xs ≡ false) → (h x && list_all h xs) ≡ false
      go true fails rest = either (h x) fails rest
      go false fails rest = always (h x) (rest fails)

  filter-short : (p : X → Bool) (xs : List X) → length (filter p xs) ≤ length xs
  filter-short p [] = omega arith
  filter-short p (x ∷ xs) = go (p x) (filter-short p xs)
    where
      go : (a : Bool) → length (filter p xs) ≤ length xs → length (cond a (x ∷ filter p xs) (filter p xs)) ≤ length (x ∷ xs)
      go true rest = omega (arith, rest)
      go false rest = omega (arith, rest)

  all-hold : (p h : X → Bool) (xs : List X) → length xs ≤ length (filter p xs) → AllByRecursion (λ x. p x ≡ true → h x ≡ true) xs → list_all h xs ≡ true
  all-hold p h [] full hold = refl
  all-hold p h (x ∷ xs) full hold = go (p x) refl full (all-hold p h xs)
    where
      go : (a : Bool) → p x ≡ a → length (x ∷ xs) ≤ length (cond a (x ∷ filter p xs) (filter p xs)) → (length xs ≤ length (filter p xs) → AllByRecursion (λ x. p x ≡ true → h x ≡ true) xs → list_all h xs ≡ true) → (h x && list_all h xs) ≡ true
      go true is full rest = and_from (h x) (list_all h xs) (hold.0 is) (rest (omega (arith, full)) hold.1)
      go false is full rest = absurd (omega (arith, full, filter-short p xs))

  all-there : (p h : X → Bool) (xs : List X) → AllByRecursion (λ x. p x ≡ false → h x ≡ false) xs → list_all h xs ≡ true → length (filter p xs) ≡ length xs
  all-there p h [] absent all = refl
  all-there p h (x ∷ xs) absent all =
      let both = and_parts (h x) (list_all h xs) all in
      go (p x) refl both.0 (all-there p h xs absent.1 both.1)
    where
      go : (a : Bool) → p x ≡ a → h x ≡ true → length (filter p xs) ≡ length xs → length (cond a (x ∷ filter p xs) (filter p xs)) ≡ length (x ∷ xs)
      go true is holds rest = ap suc rest
      go false is holds rest = absurd (false≢true (sym (absent.0 is) ∙ holds))

  pub none-left : (p h : X → Bool) (xs : List X) (left : ℕ) → left ≡ length xs - length (filter p xs) → AllByRecursion (λ x. p x ≡ true → h x ≡ true) xs → AllByRecursion (λ x. p x ≡ false → h x ≡ false) xs → (left == 0) ≡ list_all h xs
  none-left p h xs left is hold absent =
      elim (cases_Bool (left == 0)) [
        | inl none ↦ none ∙ sym (all-hold p h xs (omega (arith, is, eqb-true left 0 none)) hold)
        | inr some ↦
            elim (cases_Bool (list_all h xs)) [
              | inl all ↦ absurd (false≢true (sym some ∙ eq-eqb left 0 (omega (arith, is, all-there p h xs absent all))))
              | inr fails ↦ some ∙ sym fails
            ]
      ]

-- ---- conditions and the fields so far

-- whether the field that a condition asks for is among these
abbrev pub is_named : List Field → ConditionMeaning → Bool
is_named fields condition = has_name condition.name fields

-- After these fields so many conditions are left whose fields aren't among them, and those whose fields are hold.
pub record JudgedSo (conditions : List ConditionMeaning) (values : ValueEntries ValueMeaning) (done : List Field) (left : ℕ) : Type 0 where
  pub counted : left ≡ length conditions - length (filter (is_named done) conditions)
  pub hold : AllByRecursion (λ condition. is_named done condition ≡ true → holds condition values ≡ true) conditions

pub none-judged : (conditions : List ConditionMeaning) (values : ValueEntries ValueMeaning) (count : ℕ) → count ≡ length conditions → JudgedSo conditions values [] count
none-judged conditions values count is = record { counted = is ∙ omega (arith, none conditions); hold = never conditions }
  where
    none : (cs : List ConditionMeaning) → length (filter (is_named []) cs) ≡ 0
    none [] = refl
    none (c ∷ cs) = none cs

    never : (cs : List ConditionMeaning) → AllByRecursion (λ condition. is_named [] condition ≡ true → holds condition values ≡ true) cs
    never [] = tt
    never (c ∷ cs) = (λ named. absurd (false≢true named), never cs)

or-nothing : (a b : Bool) → (a || (b || false)) ≡ (a || b)
or-nothing true b = refl
or-nothing false true = refl
or-nothing false false = refl

-- one field more
named-more : (done : List Field) (field : Field) (condition : ConditionMeaning) → is_named (done ++ field ∷ []) condition ≡ (is_named done condition || asks_for (folded field.name) condition)
named-more done field condition =
    list_any-append (λ f. bytes_eq (folded f.name) (folded condition.name)) done (field ∷ [])
    ∙ or-nothing (is_named done condition) (asks_for (folded field.name) condition)

filter-same : {X : Type 0} (p q : X → Bool) → ((x : X) → p x ≡ q x) → (xs : List X) → filter p xs ≡ filter q xs
filter-same p q same [] = refl
filter-same p q same (x ∷ xs) = ap (λ t. cond t (x ∷ filter p xs) (filter p xs)) (same x) ∙ ap (λ l. cond (q x) (x ∷ l) l) (filter-same p q same xs)

all-same : {X : Type 0} (P Q : X → Type 0) → ((x : X) → P x → Q x) → (xs : List X) → AllByRecursion P xs → AllByRecursion Q xs
all-same P Q turn [] all = tt
all-same P Q turn (x ∷ xs) all = (turn x all.0, all-same P Q turn xs all.1)

-- a condition that asks for the field has another field than those before
apart : (done : List Field) (field : Field) → has_name field.name done ≡ false → (condition : ConditionMeaning) → asks_for (folded field.name) condition ≡ true → is_named done condition ≡ false
apart done field none condition asks =
    ap (λ n. list_any (λ f. bytes_eq (folded f.name) n) done) (sym ((bytes_eq-Decides (folded field.name) (folded condition.name)).0 asks)) ∙ none

pub one-judged : (conditions : List ConditionMeaning) (values : ValueEntries ValueMeaning) (done : List Field) (field : Field) (left now : ℕ) → has_name field.name done ≡ false → now ≡ left - length (conditions_on (folded field.name) conditions)
    → list_all (λ condition. holds condition values) (conditions_on (folded field.name) conditions) ≡ true → JudgedSo conditions values done left → JudgedSo conditions values (done ++ field ∷ []) now
one-judged conditions values done field left now none counts passes so_far =
    let p = is_named done in
    let q = asks_for (folded field.name) in
    let many : length (filter (is_named (done ++ field ∷ [])) conditions) ≡ length (filter p conditions) + length (filter q conditions) =
    ap length (filter-same (is_named (done ++ field ∷ [])) (λ c. p c || q c) (named-more done field) conditions) ∙ count-either p q (apart done field none) conditions in
    record {
      counted = omega (arith, counts, so_far.counted, many);
      hold =
          all-same (λ c. (p c || q c) ≡ true → holds c values ≡ true) (λ c. is_named (done ++ field ∷ []) c ≡ true → holds c values ≡ true) (λ c hold named. hold (sym (named-more done field c) ∙ named)) conditions
          (hold-either p q (λ c. holds c values) conditions so_far.hold passes);
    }

-- the first fields, if all that conditions ask for are among them
pub early-judged : (conditions : List ConditionMeaning) (values : ValueEntries ValueMeaning) (done : List Field) (left : ℕ) → left ≡ 0 → JudgedSo conditions values done left → list_all (λ condition. holds condition values) conditions ≡ true
early-judged conditions values done left none so_far =
    all-hold (is_named done) (λ c. holds c values) conditions (omega (arith, none, so_far.counted)) so_far.hold

-- all fields
pub all-judged : (conditions : List ConditionMeaning) (values : ValueEntries ValueMeaning) (fields : List Field) (left : ℕ) → ((name : List ℕ) → has_name name fields ≡ false → value_under name values ≡ None) → JudgedSo conditions values fields left
    → (left == 0) ≡ list_all (λ condition. holds condition values) conditions
all-judged conditions values fields left absent so_far =
    none-left (is_named fields) (λ c. holds c values) conditions left so_far.counted so_far.hold (each conditions)
  where
    each : (cs : List ConditionMeaning) → AllByRecursion (λ condition. is_named fields condition ≡ false → holds condition values ≡ false) cs
    each [] = tt
    each (c ∷ cs) = (λ none. ap (passes_if_any c.test) (absent c.name none), each cs)

-- ---- the tests of a field

-- a condition on a field holds exactly if what is kept of its test passes
module _ (doc : Doc) (field : Field) (values : ValueEntries ValueMeaning) (has : HasFieldValue doc field values) where
  one-holds : (condition : ConditionMeaning) → IsSpelled doc condition → asks_for (folded field.name) condition ≡ true → holds condition values ≡ passes_kept (test_kept condition.test) (value_kept has.value)
  one-holds condition spelled asks =
      let same : folded field.name ≡ folded condition.name = (bytes_eq-Decides (folded field.name) (folded condition.name)).0 asks in
      let name = (parts_of spelled.0).name in
      let kinds : kind_of doc name ≡ kind_of doc (canonical_name field.name) =
      kind_goes_by_name doc name (canonical_name field.name)
      (sym (folded-canonical_name name) ∙ sym (ap folded spelled.1.field) ∙ sym same ∙ sym (folded-canonical_name field.name)) in
      let value : value_under condition.name values ≡ Some has.value =
      ap (λ n. find byte_order n values) (canonical_name-from_folded condition.name field.name (sym same)) ∙ has.found in
      ap (passes_if_any condition.test) value
      ∙ sym (kept-passes (kind_of doc (canonical_name field.name)) (parts_of spelled.0) condition.test field.body has.value (subst (λ k. SpellsTest k (parts_of spelled.0) condition.test) kinds spelled.1.test) has.spells)

  pub tests-hold : (conditions : List ConditionMeaning) → AllByRecursion (IsSpelled doc) conditions
      → list_all (λ condition. holds condition values) (conditions_on (folded field.name) conditions) ≡ list_all (λ test. passes_kept test (value_kept has.value)) (tests_on (folded field.name) conditions)
  tests-hold [] spelled = refl
  tests-hold (c ∷ cs) spelled = go (asks_for (folded field.name) c) refl (tests-hold cs spelled.1)
    where
      on : List ConditionMeaning
      on = conditions_on (folded field.name) cs

      go : (asks : Bool) → asks_for (folded field.name) c ≡ asks → list_all (λ c. holds c values) on ≡ list_all (λ test. passes_kept test (value_kept has.value)) (map (λ c. test_kept c.test) on)
          → list_all (λ c. holds c values) (cond asks (c ∷ on) on) ≡ list_all (λ test. passes_kept test (value_kept has.value)) (map (λ c. test_kept c.test) (cond asks (c ∷ on) on))
      go true is rest = ap (λ t. t && list_all (λ c. holds c values) on) (one-holds c spelled.0 is) ∙ ap (λ t. passes_kept (test_kept c.test) (value_kept has.value) && t) rest
      go false is rest = rest

no-more : {X Y : Type 0} (f : X → Y) (xs : List X) → map f xs ≡ [] → xs ≡ []
no-more f [] none = refl
no-more f (x ∷ xs) none = absurd (cc)

pub none-on : (name : List ℕ) (conditions : List ConditionMeaning) → tests_on name conditions ≡ [] → conditions_on name conditions ≡ []
none-on name conditions none = no-more (λ c. test_kept c.test) (conditions_on name conditions) none

map-length : {X Y : Type 0} (f : X → Y) (xs : List X) → length (map f xs) ≡ length xs
map-length f [] = refl
map-length f (x ∷ xs) = ap suc (map-length f xs)

pub as-many : {Y : Type 0} (f : Y → KeptTest) (tests : List Y) (name : List ℕ) (conditions : List ConditionMeaning) → map f tests ≡ tests_on name conditions → length tests ≡ length (conditions_on name conditions)
as-many f tests name conditions are = sym (map-length f tests) ∙ ap length are ∙ map-length (λ c. test_kept c.test) (conditions_on name conditions)
