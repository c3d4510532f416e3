-- A text spells one condition at most, and none where it is refused.
use Rattle.std.proofs.Common.{◌≡◌, ℕ, Bool, true, false, not, cond, List, [], ◌∷◌, length, None, Some, option_map, Err, suc, refl, sym, ap, ◌∙◌, subst, arith}
use Rattle.std.proofs.lemmas.Bool.{eqb-true}
use Rattle.deb_base.specs.Names.{canonical_name, folded}
use Rattle.deb_base.proofs.CanonicalNames.{folded-canonical_name}
use Rattle.deb_base.specs.FieldNames.{is_name}
use Rattle.deb_base.specs.Kinds.{kind_of}
use Rattle.deb_base.specs.declared.doc.Doc.{Doc}
use Rattle.deb_base.specs.declared.kind.Kind.{Kind}
use Rattle.deb_field.specs.ValueLaws.{kind_law, kind_refusals}
use Rattle.deb_select.specs.Conditions.{Compares, ConditionMeaning, ContainsText, IsPresent, NamesOne, TestMeaning}
use Rattle.deb_select.specs.Grammar.{CompareBy, OperatorMeaning, Parts, Refused, SpellsCondition, SpellsTest, has_names, is_empty, is_name_in, may_compare, operator_in, operator_refused, parts_of, unless, value_refused}
use Rattle.deb_select.specs.Kept.{IsCondition, test_shown}
use Rattle.deb_select.specs.Reads.{IsRead, ReadsCondition, ReadsTest, Tells, test_refused}
use Rattle.deb_select.specs.declared.comparison.Comparison.{Comparison}
use Rattle.deb_select.specs.declared.condition.Condition.{Condition}
use Rattle.deb_select.specs.declared.reason.ConditionFault.{ConditionFault}
use Rattle.deb_select.specs.declared.reason.ConditionFault.TheVariants.{Bad, Memory}
use Rattle.deb_select.specs.declared.reason.Reason.{Reason}
use Rattle.deb_select.specs.declared.reason.Reason.TheVariants.{NoOrder, NoNames, NoName, ValueExpected, ValueBad}

-- ---- what spells isn't refused

unless-passes : (b : Bool) (reason : Reason) (at : ℕ) (rest : Refused) → b ≡ true → rest ≡ None → unless b reason at rest ≡ None
unless-passes b reason at rest passes none = ap (λ t. unless t reason at rest) passes ∙ none

not-false : (b : Bool) → b ≡ false → not b ≡ true
not-false b is = ap not is

unless-some : (text : List ℕ) (reason : Reason) (at : ℕ) (rest : Refused) → is_empty text ≡ false → rest ≡ None → unless (not (is_empty text)) reason at rest ≡ None
unless-some text reason at rest some none = unless-passes (not (is_empty text)) reason at rest (not-false (is_empty text) some) none

or-none : (e : Bool) (refused : Refused) → refused ≡ None → cond e None refused ≡ None
or-none true refused none = refl
or-none false refused none = none

pub test-unrefused : (kind : Kind) (parts : Parts) (test : TestMeaning) → SpellsTest kind parts test → test_refused kind parts ≡ None
test-unrefused kind parts IsPresent spells = ap (λ e. cond e None (operator_refused kind parts (operator_in parts.operator))) spells
test-unrefused kind parts (Compares comparison value) spells =
    or-none (is_empty parts.operator) (operator_refused kind parts (operator_in parts.operator))
    (ap (operator_refused kind parts) spells.0
    ∙ unless-passes (may_compare comparison kind) NoOrder parts.operator_at _ spells.1
    (unless-some parts.value ValueExpected parts.value_at (value_refused kind parts) spells.2
    (ap (option_map (λ code. (ValueBad code, parts.value_at))) ((kind_refusals kind).unrefused parts.value value spells.3))))
test-unrefused kind parts (ContainsText part) spells =
    or-none (is_empty parts.operator) (operator_refused kind parts (operator_in parts.operator))
    (ap (operator_refused kind parts) spells.0 ∙ unless-some parts.value ValueExpected parts.value_at None spells.1 refl)
test-unrefused kind parts (NamesOne name) spells =
    or-none (is_empty parts.operator) (operator_refused kind parts (operator_in parts.operator))
    (ap (operator_refused kind parts) spells.0
    ∙ unless-passes (has_names kind) NoNames parts.operator_at _ spells.1
    (unless-some parts.value ValueExpected parts.value_at _ spells.2
    (unless-passes (is_name_in kind parts.value) NoName parts.value_at None spells.3 refl)))

-- a fault of what is spelled is out of memory
pub only-memory : (doc : Doc) (meaning : ConditionMeaning) (refused : Refused) (fault : ConditionFault) → Tells refused fault → refused ≡ None → IsRead doc meaning (Err fault)
only-memory doc meaning refused (Bad reason at) tells none = let e = sym none ∙ tells in absurd (cc)
only-memory doc meaning refused Memory tells none = tt

-- ---- one meaning

no-operator : (text : List ℕ) (operator : OperatorMeaning) → is_empty text ≡ true → operator_in text ≡ Some operator → ⊥
unfolding operator_in
no-operator [] operator empty is = let none : None ≡ Some operator = is in absurd (cc)
no-operator (b ∷ text) operator empty is = absurd (omega (arith, eqb-true (suc (length text)) 0 empty))

compare-injective : (a b : Comparison) → Some (CompareBy a) ≡ Some (CompareBy b) → a ≡ b
compare-injective a b same = cc

pub one-test : (kind : Kind) (parts : Parts) (a b : TestMeaning) → SpellsTest kind parts a → SpellsTest kind parts b → a ≡ b
one-test kind parts IsPresent IsPresent s t = refl
one-test kind parts IsPresent (Compares comparison value) s t = absurd (no-operator parts.operator _ s t.0)
one-test kind parts IsPresent (ContainsText part) s t = absurd (no-operator parts.operator _ s t.0)
one-test kind parts IsPresent (NamesOne name) s t = absurd (no-operator parts.operator _ s t.0)
one-test kind parts (Compares comparison value) IsPresent s t = absurd (no-operator parts.operator _ t s.0)
one-test kind parts (Compares comparison value) (Compares other second) s t =
    ap (λ c. Compares c value) (compare-injective comparison other (sym s.0 ∙ t.0))
    ∙ ap (Compares other) ((kind_law kind).one_meaning parts.value value second s.3 t.3)
one-test kind parts (Compares comparison value) (ContainsText part) s t = let e = sym s.0 ∙ t.0 in absurd (cc)
one-test kind parts (Compares comparison value) (NamesOne name) s t = let e = sym s.0 ∙ t.0 in absurd (cc)
one-test kind parts (ContainsText part) IsPresent s t = absurd (no-operator parts.operator _ t s.0)
one-test kind parts (ContainsText part) (Compares comparison value) s t = let e = sym s.0 ∙ t.0 in absurd (cc)
one-test kind parts (ContainsText part) (ContainsText other) s t = ap ContainsText (s.2 ∙ sym t.2)
one-test kind parts (ContainsText part) (NamesOne name) s t = let e = sym s.0 ∙ t.0 in absurd (cc)
one-test kind parts (NamesOne name) IsPresent s t = absurd (no-operator parts.operator _ t s.0)
one-test kind parts (NamesOne name) (Compares comparison value) s t = let e = sym s.0 ∙ t.0 in absurd (cc)
one-test kind parts (NamesOne name) (ContainsText part) s t = let e = sym s.0 ∙ t.0 in absurd (cc)
one-test kind parts (NamesOne name) (NamesOne other) s t = ap NamesOne (s.4 ∙ sym t.4)

same-condition : (a b : ConditionMeaning) → a.name ≡ b.name → a.test ≡ b.test → a ≡ b
same-condition a b name test = ap (λ n. record { name = n; test = a.test }) name ∙ ap (λ t. record { name = b.name; test = t }) test

pub one-condition : (doc : Doc) (text : List ℕ) (a b : ConditionMeaning) → SpellsCondition doc text a → SpellsCondition doc text b → a ≡ b
one-condition doc text a b s t =
    same-condition a b (s.field ∙ sym t.field) (one-test (kind_of doc (parts_of text).name) (parts_of text) a.test b.test s.test t.test)

-- what is read of the parts of a text is what the text spells
module _ (doc : Doc) (text : List ℕ) (parts : Parts) (kind : Kind) (are : parts ≡ parts_of text) (is_kind : kind ≡ kind_of doc parts.name) where
  spelled-test : (test : TestMeaning) → SpellsTest kind parts test → SpellsTest (kind_of doc (parts_of text).name) (parts_of text) test
  spelled-test test spells = subst (λ p. SpellsTest (kind_of doc p.name) p test) are (subst (λ k. SpellsTest k parts test) is_kind spells)

  pub read-unrefused : (meaning : ConditionMeaning) → SpellsCondition doc text meaning → test_refused kind parts ≡ None
  read-unrefused meaning spells =
      test-unrefused kind parts meaning.test
      (subst (λ k. SpellsTest k parts meaning.test) (sym is_kind) (subst (λ p. SpellsTest (kind_of doc p.name) p meaning.test) (sym are) spells.test))

  pub read-condition : (condition : Condition) → is_name parts.name ≡ true → ReadsTest kind parts condition.test → condition.name.items ≡ folded parts.name → ReadsCondition doc text condition
  read-condition condition name test is =
      let meaning : ConditionMeaning = record { name = canonical_name parts.name; test = test.meaning } in
      let spells : SpellsCondition doc text meaning = record {
        name = subst (λ p. is_name p.name ≡ true) are name;
        field = ap (λ p. canonical_name p.name) are;
        test = spelled-test test.meaning test.spells;
      } in
      record {
        meaning = meaning;
        spells = spells;
        is =
            record {
              text = text;
              spells = spells;
              shown = ap (λ n. record { name = n; test = test_shown condition.test }) (is ∙ sym (folded-canonical_name parts.name)) ∙ ap (λ t. record { name = folded (canonical_name parts.name); test = t }) test.shown;
            };
      }

  pub read-accepted : (condition : Condition) → ReadsCondition doc text condition → (meaning : ConditionMeaning) → SpellsCondition doc text meaning → IsCondition doc meaning condition
  read-accepted condition reads meaning spells = subst (λ m. IsCondition doc m condition) (one-condition doc text reads.meaning meaning reads.spells spells) reads.is
