-- What is read of a condition's text.
use Rattle.std.specs.Prelude.{◌≡◌, ℕ, List, [], ◌∷◌, map, Option, Some, None, Result, Ok, Err, cond}
use Rattle.std.specs.Prelude.{codes, refl}
use Rattle.deb_base.specs.declared.doc.Doc.{Doc}
use Rattle.deb_base.specs.declared.kind.Kind.{Kind}
use Rattle.deb_base.specs.declared.kind.Kind.TheVariants.{Number, Text}
use Rattle.deb_select.specs.Conditions.{ConditionMeaning, TestMeaning}
use Rattle.deb_select.specs.Grammar.{CompareBy, Contain, NameOne, OperatorMeaning, Parts, Refused}
use Rattle.deb_select.specs.Grammar.{SpellsCondition, SpellsTest, is_empty, operator_in}
use Rattle.deb_select.specs.Grammar.{operator_refused}
use Rattle.deb_select.specs.Kept.{IsCondition, test_kept, test_shown}
use Rattle.deb_select.specs.declared.comparison.Comparison.TheVariants.{Same}
use Rattle.deb_select.specs.declared.condition.Condition.{Condition}
use Rattle.deb_select.specs.declared.condition.Operator.{Operator}
use Rattle.deb_select.specs.declared.condition.Operator.TheVariants as operators
use Rattle.deb_select.specs.declared.reason.ConditionFault.{ConditionFault}
use Rattle.deb_select.specs.declared.reason.ConditionFault.TheVariants.{Bad, Memory}
use Rattle.deb_select.specs.declared.reason.Reason.{Reason}
use Rattle.deb_select.specs.declared.reason.Reason.TheVariants.{NoOrder, OperatorBad}
use Rattle.deb_select.specs.declared.test.Test.{Test}

abbrev pub KindOfValues : Type 0
KindOfValues = Kind

abbrev pub operator_shown : Operator → OperatorMeaning
operator_shown (operators.Compare comparison) = CompareBy comparison
operator_shown operators.Contain = Contain
operator_shown operators.NameOne = NameOne

-- The fault is the first of the text; out of memory says nothing of it.
abbrev pub Tells : Option (Reason × ℕ) → ConditionFault → Type 0
Tells refusal (Bad reason at) = refusal ≡ Some (reason, at)
Tells refusal Memory = Unit {0}

-- why the parts after the name ask nothing, and the offset
abbrev pub test_refused : Kind → Parts → Refused
test_refused kind parts =
    cond (is_empty parts.operator) None
    (operator_refused kind parts (operator_in parts.operator))

-- The test is what the parts ask of a field of the kind.
pub record ReadsTest (kind : Kind) (parts : Parts) (test : Test) : Type 0 where
  pub meaning : TestMeaning
  pub spells : SpellsTest kind parts meaning
  pub shown : test_shown test ≡ test_kept meaning

-- The condition is what the text spells.
pub record ReadsCondition (doc : Doc) (text : List ℕ) (condition : Condition) : Type 0 where
  pub meaning : ConditionMeaning
  pub spells : SpellsCondition doc text meaning
  pub is : IsCondition doc meaning condition

-- A text of this meaning is read, unless memory is wanting.
abbrev pub IsRead : Doc → ConditionMeaning → Result Condition ConditionFault → Type 0
IsRead doc meaning (Ok condition) = IsCondition doc meaning condition
IsRead doc meaning (Err (Bad reason at)) = ⊥
IsRead doc meaning (Err Memory) = Unit {0}

worked-operators : map operator_shown
    (operators.Compare Same ∷ operators.Contain ∷ operators.NameOne ∷ [])
    ≡ CompareBy Same ∷ Contain ∷ NameOne ∷ []
worked-operators = refl

-- for the worked cases: what follows the name of a field
abbrev asks : List ℕ → List ℕ → Parts
asks operator value = record {
  name = codes "Size";
  name_at = 0;
  operator = operator;
  operator_at = 5;
  value = value;
  value_at = 8;
}

worked-refused : (test_refused Number (asks [] []) ≡ None)
    × (test_refused Number (asks (codes ">=") (codes "7")) ≡ None)
    × (test_refused Text (asks (codes ">=") (codes "7")) ≡ Some (NoOrder, 5))
    × (test_refused Number (asks (codes "=>") (codes "7")) ≡ Some (OperatorBad, 5))
unfolding operator_in
worked-refused = (refl, refl, refl, refl)
