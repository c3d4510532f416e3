-- What the code keeps of conditions and of values. The key of a version is that of deb_version; all
-- else is this project's own.
use Rattle.std.specs.Prelude.{◌≡◌, ℕ, ◌==◌, Bool, true, false, List, [], ◌∷◌, length, map, codes}
use Rattle.std.specs.Prelude.{refl}
use Rattle.std.specs.List.{list_any}
use Rattle.std.specs.Ordering.{nat_cmp, ordering_then}
use Rattle.std.specs.Str.{bytes_eq}
use Rattle.std.specs.declared.cmp.Ordering.{Ordering}
use Rattle.std.specs.declared.cmp.Ordering.TheVariants.{Less, Equal, Greater}
use Rattle.deb_base.specs.Literals.{lent, vector}
use Rattle.deb_base.specs.Names.{folded}
use Rattle.deb_base.specs.declared.doc.Doc.{Doc}
use Rattle.deb_version.specs.Canonical.{digits_of}
use Rattle.deb_version.specs.Keys.{byte_order, version_key}
use Rattle.deb_version.specs.Places.{version_in}
use Rattle.deb_field.specs.Values.{ValueMeaning, NameMeans, VersionMeans, NumberMeans, TextMeans}
use Rattle.deb_field.specs.Values.{value_text}
use Rattle.deb_select.specs.Conditions.{Compares, ConditionMeaning, ContainsText, IsPresent}
use Rattle.deb_select.specs.Conditions.{NamesOne, TestMeaning, comparison_holds, contains_text}
use Rattle.deb_select.specs.Conditions.{names_in}
use Rattle.deb_select.specs.Grammar.{Parts as PartsMeaning, SpellsCondition, after_run}
use Rattle.deb_select.specs.declared.comparison.Comparison.{Comparison}
use Rattle.deb_select.specs.declared.comparison.Comparison.TheVariants.{Same, LaterEqual}
use Rattle.deb_select.specs.declared.condition.Condition.{Condition}
use Rattle.deb_select.specs.declared.parts.Parts.{Parts}
use Rattle.deb_select.specs.declared.shown_value.ShownValue.{ShownValue}
use Rattle.deb_select.specs.declared.test.Test.{Test}
use Rattle.deb_select.specs.declared.test.Test.TheVariants as tests

abbrev pub parts_shown : Parts → PartsMeaning
parts_shown parts = record {
  name = parts.name.now;
  name_at = parts.name_at;
  operator = parts.operator.now;
  operator_at = parts.operator_at;
  value = parts.value.now;
  value_at = parts.value_at;
}

-- ---- values

-- the digits of a number without leading zeros: 0 has none
abbrev pub number_key : ℕ → List ℕ
number_key n = after_run (λ b. b == 48) (digits_of n)

-- bytes by which a value is compared: those of a number by their count first
abbrev pub value_key : ValueMeaning → List ℕ
value_key (VersionMeans version) = version_key version
value_key (NumberMeans n) = number_key n
value_key other = value_text other

abbrev pub is_number : ValueMeaning → Bool
is_number (NumberMeans n) = true
is_number other = false

abbrev pub compare_keys : Bool → List ℕ → List ℕ → Ordering
compare_keys true key asked =
    ordering_then (nat_cmp (length key) (length asked)) (byte_order key asked)
compare_keys false key asked = byte_order key asked

-- what tests see of a value
pub record KeptValue : Type 0 where
  pub number : Bool
  pub key : List ℕ
  pub text : List ℕ
  pub names : List (List ℕ)

abbrev pub value_kept : ValueMeaning → KeptValue
value_kept value = record {
  number = is_number value;
  key = value_key value;
  text = value_text value;
  names = names_in value;
}

abbrev pub value_shown : ShownValue → KeptValue
value_shown shown = record {
  number = shown.is_number;
  key = shown.key.items;
  text = shown.text.items;
  names = map (λ name. name.now) shown.names.items;
}

-- ---- tests

pub data KeptTest : Type 0 where
  Present : KeptTest
  ComparesKey : Comparison → List ℕ → KeptTest
  ContainsBytes : List ℕ → KeptTest
  NamesBytes : List ℕ → KeptTest

abbrev pub test_kept : TestMeaning → KeptTest
test_kept IsPresent = Present
test_kept (Compares comparison value) = ComparesKey comparison (value_key value)
test_kept (ContainsText part) = ContainsBytes part
test_kept (NamesOne name) = NamesBytes name

abbrev pub test_shown : Test → KeptTest
test_shown tests.Present = Present
test_shown (tests.Compares comparison key) = ComparesKey comparison key.items
test_shown (tests.Contains part) = ContainsBytes part.items
test_shown (tests.Names name) = NamesBytes name.items

-- whether what is kept of a value passes
abbrev pub passes_kept : KeptTest → KeptValue → Bool
passes_kept Present value = true
passes_kept (ComparesKey comparison key) value =
    comparison_holds comparison (compare_keys value.number value.key key)
passes_kept (ContainsBytes part) value = contains_text part value.text
passes_kept (NamesBytes name) value = list_any (bytes_eq name) value.names

-- ---- conditions

-- a condition: the name of its field in lower case, and its test
pub record KeptCondition : Type 0 where
  pub name : List ℕ
  pub test : KeptTest

abbrev pub condition_kept : ConditionMeaning → KeptCondition
condition_kept condition =
    record { name = folded condition.name; test = test_kept condition.test }

abbrev pub condition_shown : Condition → KeptCondition
condition_shown condition =
    record { name = condition.name.items; test = test_shown condition.test }

-- A condition of the code has this meaning, which some text spells in a document of the kind.
pub record IsCondition (doc : Doc) (meaning : ConditionMeaning) (condition : Condition) : Type 0
  where
    pub text : List ℕ
    pub spells : SpellsCondition doc text meaning
    pub shown : condition_shown condition ≡ condition_kept meaning

-- ---- worked cases

worked-keys : (value_key (NumberMeans 0) ≡ []) × (value_key (NumberMeans 120) ≡ codes "120")
    × (value_key (TextMeans (codes "aa")) ≡ codes "aa")
    × (value_key (VersionMeans (version_in (codes "01")))
    ≡ 1 ∷ 0 ∷ 2 ∷ 1 ∷ 49 ∷ 2 ∷ 2 ∷ 0 ∷ 2 ∷ [])
worked-keys = (refl, refl, refl, refl)

-- of numbers the longer is greater, of other keys the first byte that differs decides
worked-compared : (compare_keys true (codes "10") (codes "9") ≡ Greater)
    × (compare_keys true (codes "10") (codes "12") ≡ Less)
    × (compare_keys true [] (codes "1") ≡ Less)
    × (compare_keys false (codes "10") (codes "9") ≡ Less)
    × (compare_keys false (codes "a") (codes "a") ≡ Equal)
worked-compared = (refl, refl, refl, refl, refl)

worked-kept : (test_kept (Compares LaterEqual (NumberMeans 7)) ≡ ComparesKey LaterEqual (codes "7"))
    × (passes_kept (ComparesKey LaterEqual (codes "7")) (value_kept (NumberMeans 10)) ≡ true)
    × (passes_kept (ComparesKey Same (codes "7")) (value_kept (NumberMeans 10)) ≡ false)
    × (passes_kept (NamesBytes (codes "aa")) (value_kept (NameMeans (codes "aa"))) ≡ true)
    × (passes_kept (ContainsBytes (codes "a")) (value_kept (NumberMeans 10)) ≡ false)
worked-kept = (refl, refl, refl, refl, refl)

worked-condition : condition_kept (record { name = codes "X-Size"; test = IsPresent })
    ≡ record { name = codes "x-size"; test = Present }
worked-condition = refl

-- ---- worked cases of what the code has

worked-parts : parts_shown (record {
  name = lent (codes "Size");
  name_at = 1;
  operator = lent (codes ">=");
  operator_at = 6;
  value = lent (codes "7");
  value_at = 9;
}) ≡ record {
  name = codes "Size";
  name_at = 1;
  operator = codes ">=";
  operator_at = 6;
  value = codes "7";
  value_at = 9;
}
worked-parts = refl

worked-value : value_shown (record {
  is_number = false;
  key = vector (codes "k") refl;
  text = vector (codes "aa, bb") refl;
  names = vector (lent (codes "aa") ∷ lent (codes "bb") ∷ []) refl;
}) ≡ record {
  number = false;
  key = codes "k";
  text = codes "aa, bb";
  names = codes "aa" ∷ codes "bb" ∷ [];
}
worked-value = refl

worked-tests : (test_shown tests.Present ≡ Present)
    × (test_shown (tests.Compares LaterEqual (vector (codes "7") refl))
    ≡ ComparesKey LaterEqual (codes "7"))
    × (test_shown (tests.Contains (vector (codes "a b") refl)) ≡ ContainsBytes (codes "a b"))
    × (test_shown (tests.Names (vector (codes "aa") refl)) ≡ NamesBytes (codes "aa"))
worked-tests = (refl, refl, refl, refl)

worked-condition_shown : condition_shown (record {
  name = vector (codes "x-size") refl;
  test = tests.Contains (vector (codes "7") refl);
}) ≡ record { name = codes "x-size"; test = ContainsBytes (codes "7") }
worked-condition_shown = refl
