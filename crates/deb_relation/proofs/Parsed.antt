-- What the groups of a text being read says of the text.
use Rattle.std.proofs.Common.{◌≡◌, ℕ, ◌-◌, List, [], length, Some, Ok, Err, Result, ap}
use Rattle.deb_relation.specs.declared.fault.Reason.{Reason}
use Rattle.deb_relation.specs.Faults.{fault_of, first_fault}
use Rattle.deb_relation.specs.Grammar.{SpellsRelation}
use Rattle.deb_relation.specs.Meaning.{Relation}
use Rattle.deb_relation.specs.Reading.{gather, next_piece, put_piece, placed, read_relation, relation_in}
use Rattle.deb_relation.specs.Texts.{relation_text}
use Rattle.deb_relation.proofs.CanonicalRelation.{canonical_text_spells}
use Rattle.deb_relation.proofs.ReadRelation.{relation_took}
use Rattle.deb_relation.proofs.SpelledGroups.{relation_read}

module _ (text : List ℕ) where
  relation_was : (m : Relation) (rest : List ℕ) → gather next_piece put_piece [] text ≡ Ok (m, rest) → relation_in text ≡ Ok m
  unfolding relation_in read_relation
  relation_was m rest e = ap (placed (length text)) e

  pub parsed : (m : Relation) (rest : List ℕ) → gather next_piece put_piece [] text ≡ Ok (m, rest) → SpellsRelation text m
  parsed m rest e = relation_took text m (relation_was m rest e)

  pub parsed_same : (m : Relation) (rest : List ℕ) → gather next_piece put_piece [] text ≡ Ok (m, rest) → (n : Relation) → SpellsRelation text n → m ≡ n
  parsed_same m rest e n s = same (relation_in text) (relation_was m rest e) (relation_read text n s)
    where
      same : (r : Result Relation (Reason × ℕ)) → r ≡ Ok m → r ≡ Ok n → m ≡ n
      same r p q = cc

  pub not_parsed : (reason : Reason) (left : ℕ) → gather next_piece put_piece [] text ≡ Err (reason, left) → (n : Relation) → SpellsRelation text n → ⊥
  unfolding relation_in read_relation
  not_parsed reason left e n s = differ (relation_in text) _ (ap (placed (length text)) e) (relation_read text n s)
    where
      differ : (r : Result Relation (Reason × ℕ)) (fault : Reason × ℕ) → r ≡ Err fault → r ≡ Ok n → ⊥
      differ r fault p q = cc

-- the step that fails is the first fault of the text
pub read_fault : (text : List ℕ) (reason : Reason) (left : ℕ) → gather next_piece put_piece [] text ≡ Err (reason, left) → first_fault text ≡ Some (reason, length text - left)
unfolding relation_in read_relation
read_fault text reason left e = ap (λ r. fault_of (placed (length text) r)) e

-- the canonical text of what was read is read back
pub read_back : (text : List ℕ) (m : Relation) (rest : List ℕ) → gather next_piece put_piece [] text ≡ Ok (m, rest) → relation_in (relation_text m) ≡ Ok m
read_back text m rest e = relation_read (relation_text m) m (canonical_text_spells text m (parsed text m rest e))
