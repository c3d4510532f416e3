-- What is kept of the paragraphs of an index until all of them are read. Debian Policy 5.3, 5.6 and
-- 7.2; which texts are kept, and how, is this project's own.
use Rattle.std.specs.Prelude.{◌≡◌, ℕ, List, [], ◌∷◌, take, drop, codes, refl}
use Rattle.deb_relation.specs.Regular.{IsRegularRelation}
use Rattle.deb_relation.specs.Texts.{group_text, relation_text}
use Rattle.deb_syntax.specs.Fields.{Field}
use Rattle.deb_version.specs.Places.{version_in}
use Rattle.deb_field.specs.Values.{ValueMeaning, NameMeans, VersionMeans, ArchitectureMeans, RelationMeans}
use Rattle.deb_control.specs.FieldWords.{groups_of, value_under, word_under}
use Rattle.deb_control.specs.ValueFiles.{ValueEntries}
use Rattle.deb_index.specs.Alternatives.{alone}
use Rattle.deb_unmet.specs.Spelled.{spelled_in}
use Rattle.deb_unmet.specs.declared.kept.KeptParagraph.{KeptParagraph}
use Rattle.deb_unmet.specs.declared.kept.KeptTexts.{KeptTexts}
use Rattle.deb_unmet.specs.declared.kept.TextLens.{TextLens}
use Rattle.deb_base.specs.Literals.{lent, vector}

-- the canonical text of the relation in a field
abbrev pub relation_under : List ℕ → ValueEntries ValueMeaning → List ℕ
relation_under name values = relation_text (groups_of (value_under name values))

-- what is kept of a paragraph with these fields, which have these values
abbrev pub paragraph_texts : List Field → ValueEntries ValueMeaning → List (List ℕ)
paragraph_texts fields values =
    word_under (codes "Package") values ∷ word_under (codes "Version") values ∷ spelled_in fields
    ∷ word_under (codes "Architecture") values ∷ relation_under (codes "Pre-Depends") values
    ∷ relation_under (codes "Depends") values ∷ relation_under (codes "Recommends") values ∷ []

abbrev pub texts_in : KeptTexts → List (List ℕ)
texts_in texts =
    texts.name.now ∷ texts.version.now ∷ texts.spelled.now ∷ texts.architecture.now
    ∷ texts.pre_depends.now ∷ texts.depends.now ∷ texts.recommends.now ∷ []

-- texts of these lengths, one after another, and what follows them
abbrev pub cut_texts : List ℕ → List ℕ → List (List ℕ)
cut_texts [] bytes = bytes ∷ []
cut_texts (len ∷ lens) bytes = take len bytes ∷ cut_texts lens (drop len bytes)

abbrev pub lens_in : TextLens → List ℕ
lens_in lens =
    lens.name ∷ lens.version ∷ lens.spelled ∷ lens.architecture ∷ lens.pre_depends ∷ lens.depends
    ∷ []

abbrev pub texts_kept : KeptParagraph → List (List ℕ)
texts_kept kept = cut_texts (lens_in kept.lens) kept.bytes.items

-- These texts are kept, and those of relations are canonical.
pub record HoldsTexts (fields : List Field) (values : ValueEntries ValueMeaning)
    (kept : KeptParagraph) : Type 0 where
  pub texts : texts_kept kept ≡ paragraph_texts fields values
  pub regular : (name : List ℕ) → IsRegularRelation (groups_of (value_under name values))

-- a package without Pre-Depends, which spells its version otherwise than the canonical text does
abbrev fields : List Field
fields = record { name = codes "version"; line = 2; body = codes "1.0-0" } ∷ []

abbrev values : ValueEntries ValueMeaning
values =
    (codes "Architecture", ArchitectureMeans (codes "all"))
    ∷ (
      codes "Depends",
      RelationMeans ((alone (codes "aa") ∷ []) ∷ (alone (codes "bb") ∷ []) ∷ []),
    )
    ∷ (codes "Package", NameMeans (codes "xx"))
    ∷ (codes "Recommends", RelationMeans ((alone (codes "cc") ∷ []) ∷ []))
    ∷ (codes "Version", VersionMeans (version_in (codes "1.0-0"))) ∷ []

abbrev texts : List (List ℕ)
texts =
    codes "xx" ∷ codes "1.0" ∷ codes "1.0-0" ∷ codes "all" ∷ [] ∷ codes "aa, bb" ∷ codes "cc" ∷ []

worked-texts : paragraph_texts fields values ≡ texts
unfolding group_text
worked-texts = refl

abbrev lens : TextLens
lens = record {
  name = 2;
  version = 3;
  spelled = 5;
  architecture = 3;
  pre_depends = 0;
  depends = 6;
}

worked-cut : (cut_texts (lens_in lens) (codes "xx1.01.0-0allaa, bbcc") ≡ texts)
    × (cut_texts (2 ∷ 3 ∷ []) (codes "xx1") ≡ codes "xx" ∷ codes "1" ∷ [] ∷ [])
worked-cut = (refl, refl)

worked-in : texts_in
    (record {
      name = lent (codes "xx");
      version = lent (codes "1.0");
      spelled = lent (codes "1.0-0");
      architecture = lent (codes "all");
      pre_depends = lent [];
      depends = lent (codes "aa, bb");
      recommends = lent (codes "cc");
    }) ≡ texts
worked-in = refl

-- those of a paragraph are its bytes, cut
worked-kept : texts_kept
    (record { bytes = vector (codes "xx1.01.0-0allaa, bbcc") refl; lens = lens })
    ≡ texts
worked-kept = refl
