-- What is read as one of a field's kind is the one value that the body spells in that field.
use Rattle.std.proofs.Common.{◌≡◌, ℕ, List, Some, IsTrue, Result, Ok, Err, IfOk, IfErr, subst}
use Rattle.deb_base.specs.declared.code.Code.{Code}
use Rattle.deb_base.specs.declared.doc.Doc.{Doc}
use Rattle.deb_field.specs.Faults.{takes_memory, IsFaultOf, IsRead}
use Rattle.deb_base.specs.Kinds.{kind_of}
use Rattle.deb_field.specs.Values.{ValueMeaning, SpellsKind, SpellsValue, kind_refusal}
use Rattle.deb_field.specs.ValueLaws.{value_law, value_refusals}
use Rattle.deb_field.specs.ValueMeanings.{value_meaning}
use Rattle.deb_base.specs.declared.kind.Kind.{Kind}
use Rattle.deb_field.specs.declared.value.Value.{Value}
use Rattle.deb_field.specs.declared.value.ValueFault.{ValueFault}
use Rattle.deb_field.specs.declared.value.ValueFault.TheVariants.{Refused, Memory}

module _ (doc : Doc) (name body : List ℕ) (kind : Kind) (is : kind ≡ kind_of doc name) (m : ValueMeaning) (s : SpellsValue doc name body m) where
  read-one : (v : ValueMeaning) → SpellsKind kind body v → v ≡ m
  read-one v t = (value_law doc name).one_meaning body v m (subst (λ k. SpellsKind k body v) is t) s

  read-none : (code : Code) → kind_refusal kind body ≡ Some code → ⊥
  read-none code refused =
      let none = (value_refusals doc name).unrefused body m s in
      let some : kind_refusal (kind_of doc name) body ≡ Some code = subst (λ k. kind_refusal k body ≡ Some code) is refused in
      cc

  pub is_read : (r : Result Value ValueFault) → IfOk r (λ v. SpellsKind kind body (value_meaning v)) → IfErr r (IsFaultOf kind body) → IsRead (kind_of doc name) r m
  is_read (Ok v) ok refused = read-one (value_meaning v) ok
  is_read (Err (Refused code)) ok refused = read-none code refused
  is_read (Err Memory) ok refused = subst (λ k. IsTrue (takes_memory k)) is refused
