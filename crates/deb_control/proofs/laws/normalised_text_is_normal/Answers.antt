use Rattle.deb_control.proofs.Common.{◌≡◌, subst, sym, append_cancel_left, ValueMeaning, value_text, SpellsValue, value_law, rules_of, canonical_text, out_of}
use Rattle.deb_control.specs.Documents.{Accepted}
use Rattle.deb_control.proofs.Accepting.{canonical_text_is_accepted, canonical_text_is_its_own}
use Rattle.deb_control.proofs.DocumentRules.{document_rules}
use Rattle.deb_control.proofs.laws.normalised_text_is_normal.Goals as goal

pub returns : goal.returns
returns c = λ doc text n held written writes.
    let same : canonical_text writes.meaning ≡ written = append_cancel_left held (canonical_text writes.meaning) written (sym writes.written) in
    let again = canonical_text_is_accepted ValueMeaning (SpellsValue doc) value_text (value_law doc) (rules_of doc) text writes.meaning writes.accepted in
    let itself = canonical_text_is_its_own ValueMeaning (SpellsValue doc) value_text (value_law doc) (rules_of doc) (document_rules doc) text writes.meaning writes.accepted in
    record {
      meaning = writes.meaning;
      accepted = writes.accepted;
      again = subst (λ t. Accepted doc t writes.meaning) same again;
      itself = subst (λ t. out_of doc t ≡ t) same itself.1;
    }
