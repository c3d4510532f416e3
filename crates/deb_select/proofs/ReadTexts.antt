-- Which texts spell conditions.
use Rattle.std.proofs.Common.{◌≡◌, ℕ, Bool, true, false, not, cond, List, [], ◌∷◌, length, Option, None, Some, option_map, refl, ap, ◌∙◌, arith}
use Rattle.std.proofs.lemmas.Bool.{false≢true, ne_eqb, not-true}
use Rattle.deb_base.specs.FieldNames.{is_name}
use Rattle.deb_base.specs.Kinds.{kind_of}
use Rattle.deb_base.specs.Names.{canonical_name}
use Rattle.deb_base.specs.declared.code.Code.{Code}
use Rattle.deb_base.specs.declared.doc.Doc.{Doc}
use Rattle.deb_base.specs.declared.kind.Kind.{Kind}
use Rattle.deb_field.specs.ValueLaws.{kind_refusals}
use Rattle.deb_field.specs.Values.{kind_refusal}
use Rattle.deb_select.specs.Conditions.{Compares, ConditionMeaning, ContainsText, IsPresent, NamesOne, TestMeaning}
use Rattle.deb_select.specs.Grammar.{CompareBy, Contain, NameOne, OperatorMeaning, Parts, Refused, SpellsCondition, SpellsTest, condition_refusal, has_names, is_empty, is_name_in, may_compare, operator_in, operator_refused, parts_of, unless}
use Rattle.deb_select.specs.Laws.{TextsAreRead}
use Rattle.deb_select.specs.Reads.{test_refused}
use Rattle.deb_select.specs.declared.reason.Reason.{Reason}
use Rattle.deb_select.specs.declared.reason.Reason.TheVariants.{NameExpected, NameBad, ValueBad}
use Rattle.deb_select.proofs.Spelled.{one-condition, test-unrefused}

passed : (b : Bool) (reason : Reason) (at : ℕ) (rest : Refused) → unless b reason at rest ≡ None → (b ≡ true) × (rest ≡ None)
passed true reason at rest none = (refl, none)
passed false reason at rest none = absurd (cc)

not-empty : (text : List ℕ) → not (is_empty text) ≡ true → is_empty text ≡ false
not-empty text is = not-true (is_empty text) is

no-code : (o : Option Code) (at : ℕ) → option_map {U = Reason × ℕ} (λ code. (ValueBad code, at)) o ≡ None → o ≡ None
no-code None at none = refl
no-code (Some code) at none = absurd (cc)

read-operator : (kind : Kind) (parts : Parts) (operator : Option OperatorMeaning) → operator_in parts.operator ≡ operator → operator_refused kind parts operator ≡ None → (test : TestMeaning) × SpellsTest kind parts test
read-operator kind parts None is none = absurd (cc)
read-operator kind parts (Some (CompareBy comparison)) is none =
    let may = passed (may_compare comparison kind) _ parts.operator_at _ none in
    let some = passed (not (is_empty parts.value)) _ parts.value_at _ may.1 in
    let value = (kind_refusals kind).spelled parts.value (no-code (kind_refusal kind parts.value) parts.value_at some.1) in
    (Compares comparison value.0, (is, may.0, not-empty parts.value some.0, value.1))
read-operator kind parts (Some Contain) is none =
    let some = passed (not (is_empty parts.value)) _ parts.value_at _ none in
    (ContainsText parts.value, (is, not-empty parts.value some.0, refl))
read-operator kind parts (Some NameOne) is none =
    let may = passed (has_names kind) _ parts.operator_at _ none in
    let some = passed (not (is_empty parts.value)) _ parts.value_at _ may.1 in
    let name = passed (is_name_in kind parts.value) _ parts.value_at _ some.1 in
    (NamesOne parts.value, (is, may.0, not-empty parts.value some.0, name.0, refl))

read-test : (kind : Kind) (parts : Parts) (empty : Bool) → is_empty parts.operator ≡ empty → cond empty None (operator_refused kind parts (operator_in parts.operator)) ≡ None → (test : TestMeaning) × SpellsTest kind parts test
read-test kind parts true is none = (IsPresent, is)
read-test kind parts false is none = read-operator kind parts (operator_in parts.operator) refl none

read-spelled : (doc : Doc) (text : List ℕ) → condition_refusal doc text ≡ None → (condition : ConditionMeaning) × SpellsCondition doc text condition
read-spelled doc text none =
    let parts = parts_of text in
    let some = passed (not (is_empty parts.name)) _ parts.name_at _ none in
    let name = passed (is_name parts.name) _ parts.name_at _ some.1 in
    let test = read-test (kind_of doc parts.name) parts (is_empty parts.operator) refl name.1 in (
      record { name = canonical_name parts.name; test = test.0 },
      record { name = name.0; field = refl; test = test.1 },
    )

a-name : (name : List ℕ) → is_name name ≡ true → not (is_empty name) ≡ true
a-name [] is = absurd (false≢true is)
a-name (b ∷ bs) is = ap not (ne_eqb (length (b ∷ bs)) 0 (λ none. omega (arith, none)))

read-unrefused : (doc : Doc) (text : List ℕ) (condition : ConditionMeaning) → SpellsCondition doc text condition → condition_refusal doc text ≡ None
read-unrefused doc text condition spells =
    let parts = parts_of text in
    let rest = test_refused (kind_of doc parts.name) parts in
    ap (λ b. unless b NameExpected parts.name_at (unless (is_name parts.name) NameBad parts.name_at rest)) (a-name parts.name spells.name)
    ∙ ap (λ b. unless b NameBad parts.name_at rest) spells.name
    ∙ test-unrefused (kind_of doc parts.name) parts condition.test spells.test

pub texts_are_read : TextsAreRead
texts_are_read doc text = record { spelled = read-spelled doc text; unrefused = read-unrefused doc text; one = one-condition doc text }
