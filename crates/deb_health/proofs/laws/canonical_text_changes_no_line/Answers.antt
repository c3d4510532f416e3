use Rattle.std.proofs.Common.{refl, ap, ◌∙◌}
use Rattle.deb_field.specs.ValueLaws.{value_law}
use Rattle.deb_field.specs.Values.{ValueMeaning, value_text, SpellsValue}
use Rattle.deb_control.specs.Documents.{rules_of, canonical_text}
use Rattle.deb_control.proofs.Accepting.{accepted_means_one_thing, canonical_text_is_accepted}
use Rattle.deb_index.specs.Members.{doc_of}
use Rattle.deb_index.proofs.ListedOnce.{canonical_members_listed, members_once}
use Rattle.deb_unmet.specs.Own.{own_lines}
use Rattle.deb_unmet.proofs.SpelledVersions.{canonical_own}
use Rattle.deb_health.specs.Health.{asks_healthy}
use Rattle.deb_health.proofs.laws.canonical_text_changes_no_line.Goals as goal

pub returns : goal.returns
returns c = λ members strength environment text meaning other packages others means lists means_again listed_again.
    let again = canonical_text meaning in
    let doc = doc_of members in
    let same_packages = members_once members again others packages listed_again (canonical_members_listed members text meaning packages means lists) in
    let same = accepted_means_one_thing ValueMeaning (SpellsValue doc) value_text (value_law doc) (rules_of doc) again other meaning means_again
    (canonical_text_is_accepted ValueMeaning (SpellsValue doc) value_text (value_law doc) (rules_of doc) text meaning means) in
    let own = asks_healthy members strength environment in
    canonical_own own refl others again text 0 0 other
    ∙ ap (λ ps. own_lines own ps text other) same_packages
    ∙ ap (own_lines own packages text) same
