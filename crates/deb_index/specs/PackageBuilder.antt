-- What is kept of a paragraph of an index of packages while it is checked. Debian Policy 5.3,
-- 5.6.1, 5.6.8, 5.6.12 and 7.5; Multi-Arch is that of deb-control(5).
use Rattle.std.specs.Prelude.{◌≡◌, List, ℕ, [], ◌∷◌, Option, None, Some, codes, map, refl, ◌++◌, replicate}
use Rattle.deb_version.specs.Canonical.{version_text}
use Rattle.deb_version.specs.Grammar.{SpellsVersion}
use Rattle.deb_relation.specs.Meaning.{Relation}
use Rattle.deb_relation.specs.Regular.{IsRegularRelation}
use Rattle.deb_relation.specs.Texts.{relation_text}
use Rattle.deb_field.specs.Values.{ValueMeaning, NameMeans, MultiArchMeans}
use Rattle.deb_field.specs.declared.flag.MultiArch.{MultiArch}
use Rattle.deb_field.specs.declared.flag.MultiArch.TheVariants.{Foreign}
use Rattle.deb_control.specs.FieldTexts.{KeepsTexts, relation_kept, word_kept}
use Rattle.deb_control.specs.ShownValues.{shown_of}
use Rattle.deb_control.specs.Visiting.{Visit}
use Rattle.deb_index.specs.Listed.{Listed, provisions_of}
use Rattle.deb_index.specs.declared.paragraph.PackageBuilder.{PackageBuilder}
use Rattle.deb_base.specs.Literals.{vector}
use Rattle.deb_base.specs.Kinds.{known_row}
use Rattle.deb_control.specs.declared.field_texts.TextSpan.{TextSpan}

-- what an index keeps of a package: canonical texts, and the word of Multi-Arch
pub record PackageTexts : Type 0 where
  pub name : List ℕ
  pub version : List ℕ
  pub architecture : List ℕ
  pub multi_arch : Option MultiArch
  pub provides : List ℕ

abbrev pub texts_kept : PackageBuilder → PackageTexts
texts_kept kept =
    record {
      name = word_kept kept.texts (codes "Package");
      version = word_kept kept.texts (codes "Version");
      architecture = word_kept kept.texts (codes "Architecture");
      multi_arch = kept.multi_arch;
      provides = relation_kept kept.texts (codes "Provides");
    }

-- the word of a value, if it is one of Multi-Arch
abbrev pub multi_arch_in : ValueMeaning → Option MultiArch
multi_arch_in (MultiArchMeans word) = Some word
multi_arch_in other = None

abbrev pub multi_arch_of : Option ValueMeaning → Option MultiArch
multi_arch_of None = None
multi_arch_of (Some value) = multi_arch_in value

-- What is kept is of the values that were visited.
pub record KeepsVisited (kept : PackageBuilder) (visited : List Visit) : Type 0 where
  pub texts : KeepsTexts kept.texts visited
  pub multi_arch : kept.multi_arch ≡ multi_arch_of (shown_of visited (codes "Multi-Arch"))

-- What is kept are the canonical texts of a package.
pub record KeepsPackage (kept : PackageTexts) (p : Listed) : Type 0 where
  pub relation : Relation
  pub name : kept.name ≡ p.name
  pub version : kept.version ≡ version_text p.version
  pub spelled : SpellsVersion (version_text p.version) p.version
  pub architecture : kept.architecture ≡ p.architecture
  pub multi_arch : kept.multi_arch ≡ p.multi_arch
  pub provides : kept.provides ≡ relation_text relation
  pub regular : IsRegularRelation relation
  pub provisions : p.provisions ≡ provisions_of relation

worked-words : map multi_arch_of
    (Some (MultiArchMeans Foreign) ∷ Some (NameMeans (codes "foreign")) ∷ None ∷ [])
    ≡ Some Foreign ∷ None ∷ None ∷ []
worked-words = refl

-- each text from the row of its field: 0, 31, 35 and 54
abbrev nowhere : TextSpan
nowhere = record { start = 0; word_end = 0; end = 0 }

worked-texts : texts_kept (record {
  texts =
      record {
        buffer = vector (codes "allaavv, ww1.0") refl;
        spans = record { start = 0; word_end = 3; end = 3 }
            ∷ (replicate 30 nowhere
            ++ record { start = 3; word_end = 5; end = 5 }
            ∷ (replicate 3 nowhere
            ++ record { start = 5; word_end = 5; end = 11 }
            ∷ (replicate 18 nowhere ++ record { start = 11; word_end = 14; end = 14 } ∷ [])));
      };
  multi_arch = Some Foreign;
}) ≡ record {
  name = codes "aa";
  version = codes "1.0";
  architecture = codes "all";
  multi_arch = Some Foreign;
  provides = codes "vv, ww";
}
unfolding known_row
worked-texts = refl
