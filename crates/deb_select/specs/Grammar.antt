-- Which texts are conditions, what they mean, and why others are refused: this project's own. The
-- names of fields are those of Debian Policy 5.1.
--
-- `FIELD`, `FIELD OPERATOR VALUE` with an operator of `=`, `!=`, `<<`, `<=`, `>=`, `>>` and `~`, or
-- `FIELD names NAME`. Spaces and tabs may be at both ends of the text and around an operator;
-- around `names` they must be.
use Rattle.std.specs.Prelude.{◌≡◌, ℕ, ◌-◌, ◌==◌, ◌&&◌, ◌||◌, Bool, true, false, not, cond, drop}
use Rattle.std.specs.Prelude.{take, length, List, [], ◌∷◌, map, Option, None, Some, codes, refl}
use Rattle.std.specs.List.{list_any, prefix_len}
use Rattle.std.specs.Option.{option_map}
use Rattle.std.specs.Str.{bytes_eq}
use Rattle.deb_base.specs.Bodies.{is_blank_byte}
use Rattle.deb_base.specs.FieldNames.{is_name}
use Rattle.deb_base.specs.Kinds.{kind_at, kind_of, known_row}
use Rattle.deb_base.specs.Names.{canonical_name}
use Rattle.deb_base.specs.PackageNames.{is_arch_name, is_package_name}
use Rattle.deb_base.specs.Trimming.{trimmed, without_leading_blanks}
use Rattle.deb_base.specs.declared.code.Code.TheVariants.{BadNumber, BadVersion}
use Rattle.deb_base.specs.declared.doc.Doc.{Doc}
use Rattle.deb_base.specs.declared.doc.Doc.TheVariants.{Any, Packages, Sources}
use Rattle.deb_base.specs.declared.kind.Kind.{Kind}
use Rattle.deb_base.specs.declared.kind.Kind.TheVariants.{Name, Source, Version, Architecture}
use Rattle.deb_base.specs.declared.kind.Kind.TheVariants.{ArchitectureWords, Flag, MultiArch}
use Rattle.deb_base.specs.declared.kind.Kind.TheVariants.{Number, Line, Folded, Relation, Text}
use Rattle.deb_version.specs.Faults.{first_fault}
use Rattle.deb_field.specs.Values.{SpellsKind, kind_refusal}
use Rattle.deb_field.specs.Words.{is_white}
use Rattle.deb_select.specs.Conditions.{Compares, ConditionMeaning, ContainsText, IsPresent}
use Rattle.deb_select.specs.Conditions.{NamesOne, TestMeaning}
use Rattle.deb_select.specs.declared.comparison.Comparison.{Comparison}
use Rattle.deb_select.specs.declared.comparison.Comparison.TheVariants.{Same, Different, Earlier}
use Rattle.deb_select.specs.declared.comparison.Comparison.TheVariants.{EarlierEqual, LaterEqual}
use Rattle.deb_select.specs.declared.comparison.Comparison.TheVariants.{Later}
use Rattle.deb_select.specs.declared.reason.Reason.{Reason}
use Rattle.deb_select.specs.declared.reason.Reason.TheVariants.{NameExpected, NameBad, OperatorBad}
use Rattle.deb_select.specs.declared.reason.Reason.TheVariants.{NoOrder, NoNames, ValueExpected}
use Rattle.deb_select.specs.declared.reason.Reason.TheVariants.{ValueBad, NoName}

-- ---- the parts of a text

-- the bytes of `=`, `!=`, `<<`, `>>` and `~`
abbrev pub is_operator_byte : ℕ → Bool
is_operator_byte b = (b == 33) || (b == 60) || (b == 61) || (b == 62) || (b == 126)

-- The name of a field ends before a space, a tab or a byte of an operator.
abbrev pub is_name_byte : ℕ → Bool
is_name_byte b = not (is_blank_byte b || is_operator_byte b)

abbrev pub is_word_byte : ℕ → Bool
is_word_byte b = not (is_blank_byte b)

-- the run of bytes with which a text begins that pass a test, and what follows it
abbrev pub run_of : (ℕ → Bool) → List ℕ → List ℕ
run_of test text = take (prefix_len test text) text

abbrev pub after_run : (ℕ → Bool) → List ℕ → List ℕ
after_run test text = drop (prefix_len test text) text

-- The bytes of an operator: those of operators if the first one is, and else those of a word.
abbrev pub operator_test : List ℕ → ℕ → Bool
operator_test [] = is_word_byte
operator_test (b ∷ bs) = cond (is_operator_byte b) is_operator_byte is_word_byte

-- the parts of a text: the name of the field, the operator, which is empty if there is none, and
-- the value, each with its offset
pub record Parts : Type 0 where
  pub name : List ℕ
  pub name_at : ℕ
  pub operator : List ℕ
  pub operator_at : ℕ
  pub value : List ℕ
  pub value_at : ℕ

-- the parts where these are left of a text: what begins with the name, what begins with the
-- operator, and what begins with the value
abbrev pub parts_from : (text name operator value : List ℕ) → Parts
parts_from text name operator value = record {
  name = run_of is_name_byte name;
  name_at = length text - length name;
  operator = run_of (operator_test operator) operator;
  operator_at = length text - length operator;
  value = trimmed value;
  value_at = length text - length value;
}

abbrev pub from_name : List ℕ → List ℕ
from_name text = without_leading_blanks text

abbrev pub from_operator : List ℕ → List ℕ
from_operator text = without_leading_blanks (after_run is_name_byte (from_name text))

abbrev pub after_operator : List ℕ → List ℕ
after_operator operator =
    without_leading_blanks (after_run (operator_test operator) operator)

abbrev pub parts_of : List ℕ → Parts
parts_of text =
    parts_from text (from_name text) (from_operator text) (after_operator (from_operator text))

-- ---- operators

pub data OperatorMeaning : Type 0 where
  CompareBy : Comparison → OperatorMeaning
  Contain : OperatorMeaning
  NameOne : OperatorMeaning

-- the operators that there are, by their texts
abbrev pub operators : List (List ℕ × OperatorMeaning)
operators =
    (codes "=", CompareBy Same) ∷ (codes "!=", CompareBy Different)
    ∷ (codes "<<", CompareBy Earlier) ∷ (codes "<=", CompareBy EarlierEqual)
    ∷ (codes ">=", CompareBy LaterEqual) ∷ (codes ">>", CompareBy Later) ∷ (codes "~", Contain)
    ∷ (codes "names", NameOne) ∷ []

abbrev pub operator_among : List (List ℕ × OperatorMeaning) → List ℕ → Option OperatorMeaning
operator_among [] text = None
operator_among (row ∷ rows) text =
    cond (bytes_eq row.0 text) (Some row.1) (operator_among rows text)

unfoldable pub operator_in : List ℕ → Option OperatorMeaning
operator_in text = operator_among operators text

-- ---- what may be asked of a kind of values

-- versions and numbers have an order
abbrev pub has_order : Kind → Bool
has_order Name = false
has_order Source = false
has_order Version = true
has_order Architecture = false
has_order ArchitectureWords = false
has_order Flag = false
has_order MultiArch = false
has_order Number = true
has_order Line = false
has_order Folded = false
has_order (Relation sort) = false
has_order Text = false

-- `=` and `!=` ask for no order
abbrev pub asks_order : Comparison → Bool
asks_order Same = false
asks_order Different = false
asks_order Earlier = true
asks_order EarlierEqual = true
asks_order LaterEqual = true
asks_order Later = true

abbrev pub may_compare : Comparison → Kind → Bool
may_compare comparison kind = not (asks_order comparison) || has_order kind

-- which values have names
abbrev pub has_names : Kind → Bool
has_names Name = true
has_names Source = true
has_names Version = false
has_names Architecture = true
has_names ArchitectureWords = true
has_names Flag = false
has_names MultiArch = false
has_names Number = false
has_names Line = false
has_names Folded = true
has_names (Relation sort) = true
has_names Text = false

abbrev pub is_empty : List ℕ → Bool
is_empty text = length text == 0

-- white space, or a comma (44)
abbrev pub is_name_end : ℕ → Bool
is_name_end b = is_white b || (b == 44)

-- a name in a folded field: one byte or more, none of them white space or a comma
abbrev pub is_folded_name : List ℕ → Bool
is_folded_name text = not (is_empty text) && not (list_any is_name_end text)

-- whether a text can be a name in the values of a kind
abbrev pub is_name_in : Kind → List ℕ → Bool
is_name_in Name = is_package_name
is_name_in Source = is_package_name
is_name_in Version = λ text. false
is_name_in Architecture = is_arch_name
is_name_in ArchitectureWords = is_arch_name
is_name_in Flag = λ text. false
is_name_in MultiArch = λ text. false
is_name_in Number = λ text. false
is_name_in Line = λ text. false
is_name_in Folded = is_folded_name
is_name_in (Relation sort) = is_package_name
is_name_in Text = λ text. false

-- ---- what is refused, and where

abbrev pub Refused : Type 0
Refused = Option (Reason × ℕ)

-- the refusal where a test fails, and else another one
abbrev pub unless : Bool → Reason → ℕ → Refused → Refused
unless true reason at rest = rest
unless false reason at rest = Some (reason, at)

abbrev pub value_refused : Kind → Parts → Refused
value_refused kind parts =
    option_map (λ code. (ValueBad code, parts.value_at)) (kind_refusal kind parts.value)

abbrev pub operator_refused : Kind → Parts → Option OperatorMeaning → Refused
operator_refused kind parts None = Some (OperatorBad, parts.operator_at)
operator_refused kind parts (Some (CompareBy comparison)) =
    unless (may_compare comparison kind) NoOrder parts.operator_at
    (unless (not (is_empty parts.value)) ValueExpected parts.value_at (value_refused kind parts))
operator_refused kind parts (Some Contain) =
    unless (not (is_empty parts.value)) ValueExpected parts.value_at None
operator_refused kind parts (Some NameOne) =
    unless (has_names kind) NoNames parts.operator_at
    (unless (not (is_empty parts.value)) ValueExpected parts.value_at
    (unless (is_name_in kind parts.value) NoName parts.value_at None))

abbrev pub parts_refused : Doc → Parts → Refused
parts_refused doc parts =
    unless (not (is_empty parts.name)) NameExpected parts.name_at
    (unless (is_name parts.name) NameBad parts.name_at
    (cond (is_empty parts.operator) None
    (operator_refused (kind_of doc parts.name) parts (operator_in parts.operator))))

-- The first reason why a text is no condition, reading from the left, and its offset.
abbrev pub condition_refusal : Doc → List ℕ → Refused
condition_refusal doc text = parts_refused doc (parts_of text)

-- ---- what a text means

-- The parts ask this of a field of a kind.
abbrev pub SpellsTest : Kind → Parts → TestMeaning → Type 0
SpellsTest kind parts IsPresent = is_empty parts.operator ≡ true
SpellsTest kind parts (Compares comparison value) =
    (operator_in parts.operator ≡ Some (CompareBy comparison))
    × (may_compare comparison kind ≡ true) × (is_empty parts.value ≡ false)
    × SpellsKind kind parts.value value
SpellsTest kind parts (ContainsText part) =
    (operator_in parts.operator ≡ Some Contain) × (is_empty parts.value ≡ false)
    × (part ≡ parts.value)
SpellsTest kind parts (NamesOne name) =
    (operator_in parts.operator ≡ Some NameOne) × (has_names kind ≡ true)
    × (is_empty parts.value ≡ false) × (is_name_in kind parts.value ≡ true)
    × (name ≡ parts.value)

-- The text spells the condition, in a document of a kind.
pub record SpellsCondition (doc : Doc) (text : List ℕ) (condition : ConditionMeaning) : Type 0
  where
    pub name : is_name (parts_of text).name ≡ true
    pub field : condition.name ≡ canonical_name (parts_of text).name
    pub test : SpellsTest (kind_of doc (parts_of text).name) (parts_of text) condition.test

-- ---- worked cases

worked-parts : (parts_of (codes " Version  >=\t1.0 ") ≡ record {
  name = codes "Version";
  name_at = 1;
  operator = codes ">=";
  operator_at = 10;
  value = codes "1.0";
  value_at = 13;
})
    × (parts_of (codes "a=b c") ≡ record {
      name = codes "a";
      name_at = 0;
      operator = codes "=";
      operator_at = 1;
      value = codes "b c";
      value_at = 2;
    })
    × (parts_of (codes "Depends names libc6") ≡ record {
      name = codes "Depends";
      name_at = 0;
      operator = codes "names";
      operator_at = 8;
      value = codes "libc6";
      value_at = 14;
    })
    × (parts_of (codes "Tag ") ≡ record {
      name = codes "Tag";
      name_at = 0;
      operator = [];
      operator_at = 4;
      value = [];
      value_at = 4;
    })
worked-parts = (refl, refl, refl, refl)

worked-operators : (map operator_in (codes "=" ∷ codes "!=" ∷ codes "<<" ∷ codes "<=" ∷ [])
    ≡ Some (CompareBy Same) ∷ Some (CompareBy Different) ∷ Some (CompareBy Earlier)
    ∷ Some (CompareBy EarlierEqual) ∷ [])
    × (map operator_in (codes ">=" ∷ codes ">>" ∷ codes "~" ∷ codes "names" ∷ [])
    ≡ Some (CompareBy LaterEqual) ∷ Some (CompareBy Later) ∷ Some Contain ∷ Some NameOne ∷ [])
    × (map operator_in (codes "<" ∷ codes "==" ∷ codes "name" ∷ codes "Names" ∷ codes "" ∷ [])
    ≡ None ∷ None ∷ None ∷ None ∷ None ∷ [])
unfolding operator_in
worked-operators = (refl, refl, refl)

worked-refused : (condition_refusal Packages (codes "  ") ≡ Some (NameExpected, 2))
    × (condition_refusal Packages (codes "= 1") ≡ Some (NameExpected, 0))
    × (condition_refusal Packages (codes " a:b = 1") ≡ Some (NameBad, 1))
    × (condition_refusal Packages (codes "-a") ≡ Some (NameBad, 0))
    × (condition_refusal Packages (codes "Package bash") ≡ Some (OperatorBad, 8))
    × (condition_refusal Packages (codes "Version =~ 1") ≡ Some (OperatorBad, 8))
    × (condition_refusal Packages (codes "Package >= bash") ≡ Some (NoOrder, 8))
    × (condition_refusal Any (codes "Version >= 1") ≡ Some (NoOrder, 8))
    × (condition_refusal Packages (codes "Version names bash") ≡ Some (NoNames, 8))
    × (condition_refusal Packages (codes "Package = ") ≡ Some (ValueExpected, 10))
    × (condition_refusal Packages (codes "Package names") ≡ Some (ValueExpected, 13))
    × (condition_refusal Packages (codes "Version >= 1_0") ≡ Some (ValueBad BadVersion, 11))
    × (condition_refusal Packages (codes "Size = 1k") ≡ Some (ValueBad BadNumber, 7))
    × (condition_refusal Packages (codes "Depends names libc6 dev") ≡ Some (NoName, 14))
    × (condition_refusal Packages (codes "Binary names a\n b") ≡ Some (NoName, 13))
    × (condition_refusal Packages (codes "Binary names a,b") ≡ Some (NoName, 13))
    × (condition_refusal Packages (codes "Binary names hello,") ≡ Some (NoName, 13))
unfolding operator_in kind_of kind_at known_row first_fault
worked-refused = (
  refl,
  refl,
  refl,
  refl,
  refl,
  refl,
  refl,
  refl,
  refl,
  refl,
  refl,
  refl,
  refl,
  refl,
  refl,
  refl,
  refl,
)

worked-unrefused : (condition_refusal Packages (codes "\tx-anything ") ≡ None)
    × (condition_refusal Packages (codes "version>=1.0-1") ≡ None)
    × (condition_refusal Packages (codes "Package=bash") ≡ None)
    × (condition_refusal Packages (codes "Description ~ a  b") ≡ None)
    × (condition_refusal Any (codes "Version = 1_0") ≡ None)
    × (condition_refusal Sources (codes "Architecture names linux-any") ≡ None)
    × (condition_refusal Packages (codes "Binary names hello") ≡ None)
    × (condition_refusal Packages (codes "X-Y != z") ≡ None)
unfolding operator_in kind_of kind_at known_row first_fault
worked-unrefused = (refl, refl, refl, refl, refl, refl, refl, refl)
