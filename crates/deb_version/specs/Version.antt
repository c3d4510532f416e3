-- What a `Version` is to its callers: the texts of its components, and their meaning.
use Rattle.std.specs.Prelude.{◌≡◌, [], ◌∷◌, Some, None, codes, refl}
use Rattle.std.specs.Option.{option_copied}
use Rattle.std.proofs.Math.Dec.{lit≤}
use Rattle.deb_version.specs.declared.version.Version.{Version}
use Rattle.deb_version.specs.Parts.{Meaning, no_revision}
use Rattle.deb_version.specs.Grammar.{Components, components_with, meaning_of_components}
use Rattle.deb_version.specs.Lent.{lent}

abbrev pub components_of : Version → Components
components_of v =
    record {
      epoch = option_copied v.epoch;
      upstream = v.upstream.now;
      revision = option_copied v.revision;
    }

-- what the version means: its epoch's value and the parts of its components
abbrev pub meaning_of : Version → Meaning
meaning_of v = meaning_of_components (components_of v)

-- 2:1.0-3 and 1
abbrev long : Version
long = record {
  epoch = Some (lent (codes "2"));
  upstream = lent (codes "1.0");
  revision = Some (lent (codes "3"));
  well_formed = refl;
  short = lit≤ tt;
}

abbrev bare : Version
bare = record {
  epoch = None;
  upstream = lent (codes "1");
  revision = None;
  well_formed = refl;
  short = lit≤ tt;
}

worked-components : components_of long
    ≡ components_with (Some (codes "2")) (codes "1.0") (Some (codes "3"))
worked-components = refl

worked-bare_components : components_of bare ≡ components_with None (codes "1") None
worked-bare_components = refl

worked-meaning : meaning_of long
    ≡ record { epoch = 2; upstream = ([], 1) ∷ (codes ".", 0) ∷ []; revision = ([], 3) ∷ [] }
worked-meaning = refl

worked-bare_meaning : meaning_of bare
    ≡ record { epoch = 0; upstream = ([], 1) ∷ []; revision = no_revision }
worked-bare_meaning = refl
