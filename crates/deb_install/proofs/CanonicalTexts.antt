-- The canonical text of an index lists the same packages with the same values.
use Rattle.std.proofs.Common.{◌≡◌, ℕ, List, sym, subst}
use Rattle.deb_base.specs.declared.doc.Doc.TheVariants.{Packages}
use Rattle.deb_relation.specs.Applying.{Environment}
use Rattle.deb_field.specs.ValueLaws.{value_law}
use Rattle.deb_field.specs.Values.{ValueMeaning, value_text, SpellsValue}
use Rattle.deb_control.specs.Documents.{Meaning, canonical_text, rules_of}
use Rattle.deb_control.proofs.Accepting.{accepted_means_one_thing, canonical_text_is_accepted}
use Rattle.deb_index.specs.Listed.{Listed}
use Rattle.deb_index.proofs.ListedOnce.{canonical_text_lists, lists_once}
use Rattle.deb_install.specs.Installable.{IsInstallable}
use Rattle.deb_install.specs.Laws.{CanonicalTextChangesNothing}
use Rattle.deb_install.specs.Terms.{Terms}
use Rattle.deb_install.specs.declared.readings.Readings.{Readings}

same-installable : (readings : Readings) (t : Terms) (environment : Environment) (packages others : List Listed) (meaning other : Meaning) (number : ℕ) → packages ≡ others → meaning ≡ other
    → IsInstallable readings t environment packages meaning number → IsInstallable readings t environment others other number
same-installable readings t environment packages others meaning other number same alike installable =
    subst (λ m. IsInstallable readings t environment others m number) alike (subst (λ ps. IsInstallable readings t environment ps meaning number) same installable)

pub canonical : CanonicalTextChangesNothing
canonical text meaning other packages others means lists means_again listed_again readings t environment number =
    let again = canonical_text meaning in
    let same : others ≡ packages = lists_once again others packages listed_again (canonical_text_lists text meaning packages means lists) in
    let alike : other ≡ meaning = accepted_means_one_thing ValueMeaning (SpellsValue Packages) value_text (value_law Packages) (rules_of Packages) again other meaning means_again
    (canonical_text_is_accepted ValueMeaning (SpellsValue Packages) value_text (value_law Packages) (rules_of Packages) text meaning means) in (
      same-installable readings t environment packages others meaning other number (sym same) (sym alike),
      same-installable readings t environment others packages other meaning number same alike,
    )
