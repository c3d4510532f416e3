-- A text that was read as a condition isn't refused.
use Rattle.std.proofs.Common.{◌≡◌, ℕ, List, None, sym}
use Rattle.deb_base.specs.declared.doc.Doc.{Doc}
use Rattle.deb_select.specs.Grammar.{condition_refusal}
use Rattle.deb_select.specs.Reads.{ReadsCondition}
use Rattle.deb_select.specs.declared.condition.Condition.{Condition}
use Rattle.deb_select.proofs.ReadTexts.{texts_are_read}

pub none_refused : (doc : Doc) (text : List ℕ) (condition : Condition) → ReadsCondition doc text condition → None ≡ condition_refusal doc text
none_refused doc text condition reads = sym ((texts_are_read doc text).unrefused reads.meaning reads.spells)
