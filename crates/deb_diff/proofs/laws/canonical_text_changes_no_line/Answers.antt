use Rattle.std.proofs.Common.{◌≡◌, ℕ, List, ap, ◌∙◌}
use Rattle.deb_base.specs.declared.doc.Doc.{Doc}
use Rattle.deb_field.specs.ValueLaws.{value_law}
use Rattle.deb_field.specs.Values.{ValueMeaning, value_text, SpellsValue}
use Rattle.deb_control.specs.Documents.{Accepted, Meaning, rules_of, canonical_text}
use Rattle.deb_control.proofs.Accepting.{accepted_means_one_thing, canonical_text_is_accepted}
use Rattle.deb_diff.specs.Kinds.{doc_of}
use Rattle.deb_base.specs.declared.version_text.VersionText.TheVariants.{Canonical}
use Rattle.deb_diff.specs.Lines.{diff_text, form_of}
use Rattle.deb_diff.proofs.CanonicalLines.{canonical_lines}
use Rattle.deb_diff.proofs.laws.canonical_text_changes_no_line.Goals as goal

same_meaning : (doc : Doc) (text : List ℕ) (meaning again : Meaning) → Accepted doc text meaning → Accepted doc (canonical_text meaning) again → again ≡ meaning
same_meaning doc text meaning again means means_again =
    accepted_means_one_thing ValueMeaning (SpellsValue doc) value_text (value_law doc) (rules_of doc) (canonical_text meaning) again meaning means_again
    (canonical_text_is_accepted ValueMeaning (SpellsValue doc) value_text (value_law doc) (rules_of doc) text meaning means)

pub returns : goal.returns
returns c = λ kind detail text other old new old_again new_again accepted accepted_too again again_too.
    let same = same_meaning (doc_of kind) text old old_again accepted again in
    let same_too = same_meaning (doc_of kind) other new new_again accepted_too again_too in
    let form = form_of detail Canonical in
    let first = canonical_text old in
    let second = canonical_text new in (
      ap (λ m. diff_text kind form first other m new) same ∙ canonical_lines kind detail first text other other old new,
      ap (diff_text kind form text second old) same_too ∙ canonical_lines kind detail text text second other old new,
      ap (λ m. diff_text kind form first second m new_again) same ∙ ap (diff_text kind form first second old) same_too ∙ canonical_lines kind detail first text second other old new,
    )
