use Rattle.deb_control.proofs.Common.{◌≡◌, ℕ, suc, ◌==◌, arith, nat_tests, List, [], ◌∷◌, length, None, Some, false, sym, ◌∙◌, subst, refl, Code, SpellsKind, ValueMeaning, kind_refusal, value_meaning, value_text}
use Rattle.deb_base.specs.declared.code.Code.TheVariants.{BadVersion}
use Rattle.deb_base.specs.declared.kind.Kind.{Kind}
use Rattle.deb_base.specs.declared.kind.Kind.TheVariants.{Version}
use Rattle.deb_field.specs.ValueLaws.{kind_law, kind_refusals}
use Rattle.deb_field.specs.ValueMeanings.{value_spelled}
use Rattle.deb_field.specs.declared.value.Value.TheVariants as values
use Rattle.deb_version.specs.Faults.{first_fault}
use Rattle.deb_control.proofs.field.is_empty.Goals as goal

some_length : (n : ℕ) → false ≡ (suc n == 0)
some_length n = grind (arith, nat_tests)

-- where a kind refuses the empty body, the text of no value is empty
text_is_some : (kind : Kind) (code : Code) (body : List ℕ) (m : ValueMeaning) → kind_refusal kind [] ≡ Some code → SpellsKind kind body m → (text : List ℕ) → value_text m ≡ text → false ≡ (length text == 0)
text_is_some kind code body m refused spells [] is =
    let none : kind_refusal kind [] ≡ None = (kind_refusals kind).unrefused [] m (subst (λ text. SpellsKind kind text m) is ((kind_law kind).reads_back body m spells)) in
    absurd (let apart : Some code ≡ None = sym refused ∙ none in cc)
text_is_some kind code body m refused spells (b ∷ text) is = some_length (length text)

empty_version : kind_refusal Version [] ≡ Some BadVersion
unfolding first_fault
empty_version = refl

pub returns-in-Version : goal.returns-in-Version
returns-in-Version c =
    let value = values.Version c.in-Version.field-0 in
    let spelled = value_spelled value in
    rw c.in-Version.is (text_is_some Version BadVersion spelled.0 (value_meaning value) empty_version spelled.1 (value_text (value_meaning value)) refl)
