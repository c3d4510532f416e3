-- The parts of a version are those into which its text is cut.
use Rattle.std.proofs.Common.{◌≡◌, ◌∙◌, ◌+◌, ◌++◌, ℕ, List, length, ap, sym}
use Rattle.std.proofs.lemmas.List.{length-append}
use Rattle.deb_version.specs.Grammar.{SpellsVersion, epoch_text, revision_text}
use Rattle.deb_version.specs.Parts.{Meaning}
use Rattle.deb_version.specs.Places.{components_in, epoch_in, rest_in, revision_in, upstream_in}
use Rattle.deb_version.proofs.ComponentsLemmas.{spelling-components_in}
use Rattle.deb_version.proofs.MeaningLemmas.{spelled_components}
use Rattle.debctl_ffi.specs.VersionParts.{HasParts, parts_of}
use Rattle.debctl_ffi.specs.declared.version_parts.VersionParts.{VersionParts}

pub has_parts : (text : List ℕ) (version : Meaning) (parts : VersionParts)
    → SpellsVersion text version → parts ≡ parts_of (components_in text) → HasParts text parts
has_parts text version parts spelled is =
    record {
      components = components_in text;
      spelled = sym (spelling-components_in text);
      allowed = (spelled_components text version spelled).0;
      is = is;
    }

-- how long the text is
pub cut_length : (text : List ℕ) → length text
    ≡ length (epoch_text (epoch_in text)) + (length (upstream_in (rest_in text))
    + length (revision_text (revision_in (rest_in text))))
cut_length text =
    ap length (sym (spelling-components_in text))
    ∙ length-append (epoch_text (epoch_in text)) (upstream_in (rest_in text) ++ revision_text (revision_in (rest_in text)))
    ∙ ap (λ n. length (epoch_text (epoch_in text)) + n) (length-append (upstream_in (rest_in text)) (revision_text (revision_in (rest_in text))))
