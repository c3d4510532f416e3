-- Which packages a file lists, and what of each. Debian Policy 5.3, 5.6.1, 5.6.8, 5.6.12 and 7.5;
-- Multi-Arch is that of deb-control(5).
use Rattle.std.specs.Prelude.{◌≡◌, ℕ, List, [], ◌∷◌, Option, None, Some, codes, refl}
use Rattle.std.specs.FinMap.{find}
use Rattle.std.specs.Option.{option_map}
use Rattle.deb_syntax.specs.Answers.{Seen}
use Rattle.deb_syntax.specs.Meaning.{byte_order}
use Rattle.deb_version.specs.Places.{version_in}
use Rattle.deb_relation.specs.Meaning.{Relation}
use Rattle.deb_field.specs.Values.{ValueMeaning, NameMeans, VersionMeans, ArchitectureMeans, MultiArchMeans, RelationMeans}
use Rattle.deb_field.specs.declared.flag.MultiArch.TheVariants.{Foreign}
use Rattle.deb_base.specs.declared.doc.Doc.TheVariants.{Packages}
use Rattle.deb_control.specs.Documents.{Meaning, Accepted}
use Rattle.deb_control.specs.Pairs.{Pairwise}
use Rattle.deb_control.specs.Paragraphs.{AreValuesOf}
use Rattle.deb_control.specs.PassingValues.{HasValue}
use Rattle.deb_control.specs.ValueFiles.{ValueEntries}
use Rattle.deb_index.specs.Alternatives.{alone, with_qualifier}
use Rattle.deb_index.specs.Listed.{Provision, Listed, provisions_in}

-- the value under a name, in its canonical spelling
abbrev pub value_under : List ℕ → ValueEntries ValueMeaning → Option ValueMeaning
value_under name fields = find byte_order name fields

-- A paragraph of a file lists the package: these are the values of its fields, and of the relation
-- in Provides what it provides.
pub record Lists (fields : ValueEntries ValueMeaning) (p : Listed) : Type 0 where
  pub provides : Option Relation
  pub name : value_under (codes "Package") fields ≡ Some (NameMeans p.name)
  pub version : value_under (codes "Version") fields ≡ Some (VersionMeans p.version)
  pub architecture : value_under (codes "Architecture") fields
      ≡ Some (ArchitectureMeans p.architecture)
  pub multi_arch : value_under (codes "Multi-Arch") fields ≡ option_map MultiArchMeans p.multi_arch
  pub provided : value_under (codes "Provides") fields ≡ option_map RelationMeans provides
  pub provisions : p.provisions ≡ provisions_in provides

-- The file is accepted as an index of packages, and lists these, in its order.
pub record ListsAll (text : List ℕ) (packages : List Listed) : Type 0 where
  pub meaning : Meaning
  pub accepted : Accepted Packages text meaning
  pub listed : Pairwise Lists meaning packages

-- A paragraph that passes lists the package.
pub record SeenLists (seen : Seen) (p : Listed) : Type 0 where
  pub values : ValueEntries ValueMeaning
  pub are : AreValuesOf Packages seen values
  pub lists : Lists values p

-- These names are what it provides.
pub record HasProvisions (seen : Seen) (provisions : List Provision) : Type 0 where
  pub provides : Option Relation
  pub has : HasValue Packages seen (codes "Provides") (option_map RelationMeans provides)
  pub are : provisions ≡ provisions_in provides

-- the values of a paragraph without Multi-Arch and Provides, and the package that it lists
abbrev plain : ValueEntries ValueMeaning
plain =
    (codes "Architecture", ArchitectureMeans (codes "all"))
    ∷ (codes "Package", NameMeans (codes "aa"))
    ∷ (codes "Version", VersionMeans (version_in (codes "1.0"))) ∷ []

worked-plain : Lists plain
    (record {
      name = codes "aa";
      version = version_in (codes "1.0");
      architecture = codes "all";
      multi_arch = None;
      provisions = [];
    })
worked-plain =
    record {
      provides = None;
      name = refl;
      version = refl;
      architecture = refl;
      multi_arch = refl;
      provided = refl;
      provisions = refl;
    }

-- all five fields among others, where Provides has vv and bb:any: the second provides nothing, and
-- Source is no name of the package
abbrev provided_relation : Relation
provided_relation =
    (with_qualifier (codes "bb") (codes "any") ∷ []) ∷ (alone (codes "vv") ∷ []) ∷ []

abbrev full : ValueEntries ValueMeaning
full =
    (codes "Architecture", ArchitectureMeans (codes "i386"))
    ∷ (codes "Depends", RelationMeans ((alone (codes "cc") ∷ []) ∷ []))
    ∷ (codes "Multi-Arch", MultiArchMeans Foreign)
    ∷ (codes "Package", NameMeans (codes "aa"))
    ∷ (codes "Provides", RelationMeans provided_relation)
    ∷ (codes "Source", NameMeans (codes "bb"))
    ∷ (codes "Version", VersionMeans (version_in (codes "2"))) ∷ []

worked-full : Lists full
    (record {
      name = codes "aa";
      version = version_in (codes "2");
      architecture = codes "i386";
      multi_arch = Some Foreign;
      provisions = record { name = codes "vv"; version = None } ∷ [];
    })
worked-full =
    record {
      provides = Some provided_relation;
      name = refl;
      version = refl;
      architecture = refl;
      multi_arch = refl;
      provided = refl;
      provisions = refl;
    }

-- there is no value under a name that isn't there
worked-no_value : value_under (codes "Provides") plain ≡ None
worked-no_value = refl
