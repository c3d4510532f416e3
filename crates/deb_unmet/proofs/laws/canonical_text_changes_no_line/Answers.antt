use Rattle.std.proofs.Common.{refl, ap, ◌∙◌}
use Rattle.deb_base.specs.declared.version_text.VersionText.TheVariants.{Canonical}
use Rattle.deb_field.specs.ValueLaws.{value_law}
use Rattle.deb_field.specs.Values.{ValueMeaning, value_text, SpellsValue}
use Rattle.deb_control.specs.Documents.{rules_of, canonical_text}
use Rattle.deb_control.proofs.Accepting.{accepted_means_one_thing, canonical_text_is_accepted}
use Rattle.deb_unmet.specs.Asked.{doc_of, request_for}
use Rattle.deb_unmet.specs.Asking.{asks_of}
use Rattle.deb_unmet.specs.Files.{file_lines}
use Rattle.deb_unmet.proofs.SameScopes.{same_scope}
use Rattle.deb_unmet.proofs.SpelledVersions.{canonical_lines}
use Rattle.deb_unmet.proofs.laws.canonical_text_changes_no_line.Goals as goal

pub returns : goal.returns
returns c = λ asked environment members indexes meanings old of_old scope other_scope file meaning other accepted old_accepted is is_again names means means_again.
    let doc = doc_of asked in
    let same_packages = same_scope members indexes meanings old of_old scope other_scope accepted old_accepted is is_again names in
    let same = accepted_means_one_thing ValueMeaning (SpellsValue doc) value_text (value_law doc) (rules_of doc) (canonical_text meaning) other meaning means_again
    (canonical_text_is_accepted ValueMeaning (SpellsValue doc) value_text (value_law doc) (rules_of doc) file meaning means) in
    let request = request_for asked Canonical in
    let text = canonical_text meaning in
    let again = ap (file_lines (asks_of request environment scope) text) same ∙ canonical_lines (asks_of request environment scope) refl text file 0 meaning in
    (ap (λ s. file_lines (asks_of request environment s) file meaning) same_packages, again, ap (λ s. file_lines (asks_of request environment s) text other) same_packages ∙ again)
