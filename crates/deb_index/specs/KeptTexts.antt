-- What an index keeps of a package, as a paragraph in canonical text. Which fields that has is this
-- project's own.
use Rattle.std.specs.Prelude.{◌≡◌, ℕ, List, [], ◌∷◌, ◌++◌, map, Option, None, Some, codes, refl}
use Rattle.std.specs.Option.{option_map}
use Rattle.deb_version.specs.Canonical.{version_text}
use Rattle.deb_version.specs.Parts.{Meaning as Version}
use Rattle.deb_version.specs.Places.{version_in}
use Rattle.deb_relation.specs.Meaning.{Group}
use Rattle.deb_relation.specs.Texts.{group_text, relation_text}
use Rattle.deb_relation.specs.declared.operator.Op.{Op}
use Rattle.deb_relation.specs.declared.operator.Op.TheVariants.{Equal}
use Rattle.deb_syntax.specs.Meaning.{Entries}
use Rattle.deb_field.specs.Flags.{multi_arch_text}
use Rattle.deb_field.specs.declared.flag.MultiArch.{MultiArch}
use Rattle.deb_field.specs.declared.flag.MultiArch.TheVariants.{Foreign}
use Rattle.deb_control.specs.Canonical.{paragraph_text}
use Rattle.deb_index.specs.Listed.{Listed, Provision, provisions_of}

abbrev pub equal_bound : Version → Op × Version
equal_bound version = (Equal, version)

-- an entry of Provides with the name, and with the version if there is one
abbrev pub entry_of : Provision → Group
entry_of p =
    record {
      name = p.name;
      qualifier = None;
      bound = option_map equal_bound p.version;
      architectures = None;
      formula = [];
    } ∷ []

-- the canonical text of the relation of these entries
abbrev pub provides_text : List Provision → List ℕ
provides_text provisions = relation_text (map entry_of provisions)

-- the field Multi-Arch, if there is one
abbrev pub multi_arch_entries : Option MultiArch → Entries
multi_arch_entries None = []
multi_arch_entries (Some word) = (codes "Multi-Arch", multi_arch_text word) ∷ []

-- the field Provides, if a name is provided
abbrev pub provides_entries : List Provision → Entries
provides_entries [] = []
provides_entries (p ∷ more) = (codes "Provides", provides_text (p ∷ more)) ∷ []

-- the fields, in ascending order of their names
abbrev pub kept_entries : Listed → Entries
kept_entries p =
    (codes "Architecture", p.architecture)
    ∷ (multi_arch_entries p.multi_arch
    ++ (codes "Package", p.name)
    ∷ (provides_entries p.provisions ++ (codes "Version", version_text p.version) ∷ []))

abbrev pub kept_text : Listed → List ℕ
kept_text p = paragraph_text (kept_entries p)

-- the entries provide these names again
provides-these : provisions_of (entry_of (record { name = codes "vv"; version = None })
    ∷ entry_of (record { name = codes "ww"; version = Some (version_in (codes "2")) }) ∷ [])
    ≡ record { name = codes "vv"; version = None }
    ∷ record { name = codes "ww"; version = Some (version_in (codes "2")) } ∷ []
provides-these = refl

-- aa with all fields; and without Multi-Arch and Provides
abbrev aa : Option MultiArch → List Provision → Listed
aa multi_arch provisions =
    record {
      name = codes "aa";
      version = version_in (codes "1.0-0");
      architecture = codes "all";
      multi_arch = multi_arch;
      provisions = provisions;
    }

worked-text : kept_text
    (aa (Some Foreign)
    (record { name = codes "vv"; version = None }
    ∷ record { name = codes "ww"; version = Some (version_in (codes "2")) } ∷ []))
    ≡ codes "Architecture: all\nMulti-Arch: foreign\nPackage: aa\n"
    ++ codes "Provides: vv, ww (= 2)\nVersion: 1.0\n"
unfolding group_text
worked-text = refl

worked-short : kept_text (aa None [])
    ≡ codes "Architecture: all\nPackage: aa\nVersion: 1.0\n"
worked-short = refl
