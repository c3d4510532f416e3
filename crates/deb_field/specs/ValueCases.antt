-- Worked cases of values: one of each kind, with its kind and what it means to its callers. Debian
-- Policy 5.6 and 7.
use Rattle.std.specs.Prelude.{◌≡◌, ℕ, ◌<◌, ◌^◌, List, [], ◌∷◌, Some, None, codes, refl, true, false}
use Rattle.std.specs.Borrow.{Bor}
use Rattle.std.proofs.Common.{arith}
use Rattle.deb_version.specs.Parts.{Meaning as VersionMeaning}
use Rattle.deb_version.specs.declared.version.Version.{Version}
use Rattle.deb_field.specs.Shown.{architecture_name, architectures_named, folded_words, line_bytes, number_value, package_name, sort_of, text_bytes, words_left}
use Rattle.deb_field.specs.SourceNames.{source_meaning}
use Rattle.deb_field.specs.ValueMeanings.{kind_of_value, value_meaning}
use Rattle.deb_field.specs.Values.{NameMeans, SourceMeans, VersionMeans, ArchitectureMeans, ArchitecturesMean, FlagMeans, MultiArchMeans, NumberMeans, LineMeans, FoldedMeans, RelationMeans, TextMeans}
use Rattle.deb_field.specs.declared.flag.Flag.TheVariants as flags
use Rattle.deb_field.specs.declared.flag.MultiArch.TheVariants as multi_archs
use Rattle.deb_field.specs.declared.folded.ArchitectureWords.{ArchitectureWords}
use Rattle.deb_field.specs.declared.folded.Folded.{Folded}
use Rattle.deb_base.specs.declared.kind.Kind.TheVariants as kinds
use Rattle.deb_field.specs.declared.names.ArchitectureName.{ArchitectureName}
use Rattle.deb_field.specs.declared.names.PackageName.{PackageName}
use Rattle.deb_field.specs.declared.number.Number.{Number}
use Rattle.deb_field.specs.declared.relation.RelationField.{RelationField}
use Rattle.deb_field.specs.declared.source.SourceName.{SourceName}
use Rattle.deb_field.specs.declared.text.Line.{Line}
use Rattle.deb_field.specs.declared.text.Text.{Text}
use Rattle.deb_field.specs.declared.value.Value.TheVariants as values
use Rattle.deb_field.specs.declared.words.Words.{Words}
use Rattle.deb_relation.specs.Reading.{alternative_with, relation_in}
use Rattle.deb_relation.specs.Rows.{steps}
use Rattle.deb_relation.specs.Texts.{group_text}
use Rattle.deb_relation.specs.declared.kept_text.KeptText.TheVariants.{Lent}
use Rattle.deb_base.specs.declared.kind.Relationship.TheVariants as relationships

-- ---- values

-- the bytes of a text that a value borrows
abbrev lent : List ℕ → Bor (List ℕ)
lent text = record { ref_ptr = (0, 0); now = text }

abbrev a_name : PackageName
a_name = record { bytes = lent (codes "g++"); well_formed = refl }

abbrev an_architecture : ArchitectureName
an_architecture = record { bytes = lent (codes "linux-any"); well_formed = refl }

abbrev a_line : Line
a_line = record { bytes = lent (codes "Aa <a@b>"); one_line = refl }

abbrev a_text : Text
a_text = record { bytes = lent (codes "aa\n bb\n .") }

abbrev a_number : Number
a_number = record { digits = lent (codes "120"); well_formed = refl; canonical = refl }

abbrev some_words : Folded
some_words = record { body = lent (codes "aa,\n bb\tcc ") }

abbrev words_to_come : Words
words_to_come = record { rest = lent (codes " dd\n ee") }

abbrev architectures : ArchitectureWords
architectures = record { body = lent (codes "any\n  all"); well_formed = refl }

-- `2:1-0`, with its epoch and its revision
few_bytes : 5 < 2 ^ 63
few_bytes = omega arith

abbrev a_version : Version
a_version = record {
  epoch = Some (lent (codes "2"));
  upstream = lent (codes "1");
  revision = Some (lent (codes "0"));
  well_formed = refl;
  short = few_bytes;
}

abbrev its_meaning : VersionMeaning
its_meaning = record { epoch = 2; upstream = ([], 1) ∷ []; revision = ([], 0) ∷ [] }

-- `aa` and `aa (2:1)`
few_bytes_alone : 2 < 2 ^ 64
few_bytes_alone = omega arith

few_bytes_around : 8 < 2 ^ 64
few_bytes_around = omega arith

abbrev a_source : SourceName
a_source = record {
  name = lent (codes "aa");
  version = None;
  well_formed = refl;
  short = few_bytes_alone;
}

abbrev a_versioned_source : SourceName
a_versioned_source = record {
  name = lent (codes "aa");
  version = Some a_version;
  well_formed = refl;
  short = few_bytes_around;
}

-- ---- what each shows

names : (package_name a_name ≡ codes "g++")
    × (architecture_name an_architecture ≡ codes "linux-any")
names = (refl, refl)

texts : (line_bytes a_line ≡ codes "Aa <a@b>") × (text_bytes a_text ≡ codes "aa\n bb\n .")
texts = (refl, refl)

numbers : number_value a_number ≡ 120
numbers = refl

words : (folded_words some_words ≡ codes "aa," ∷ codes "bb" ∷ codes "cc" ∷ [])
    × (architectures_named architectures ≡ codes "any" ∷ codes "all" ∷ [])
    × (words_left words_to_come ≡ codes "dd" ∷ codes "ee" ∷ [])
words = (refl, refl, refl)

sources : (source_meaning a_source ≡ record { name = codes "aa"; version = None })
    × (source_meaning a_versioned_source
    ≡ record { name = codes "aa"; version = Some its_meaning })
sources = (refl, refl)

-- a relation that was read, in a field of a sort that allows it
abbrev a_relation : RelationField
unfolding steps relation_in group_text
a_relation = record {
  relationship = relationships.Conflicts;
  relation = record {
    body = lent (codes "\taa");
    text = Lent (lent (codes "aa"));
    some_alternatives = false;
    equals_alone = true;
    read = refl;
    written = refl;
    alternatives_are = refl;
    equals_are = refl;
  };
  allowed = refl;
}

relations : (sort_of a_relation ≡ relationships.Conflicts)
    × (kind_of_value (values.Relation a_relation) ≡ kinds.Relation relationships.Conflicts)
    × (value_meaning (values.Relation a_relation)
    ≡ RelationMeans ((alternative_with (codes "aa") None None None [] ∷ []) ∷ []))
unfolding a_relation steps relation_in group_text
relations = (refl, refl, refl)

-- ---- kinds and meanings

kinds_of_values : (kind_of_value (values.Name a_name) ≡ kinds.Name)
    × (kind_of_value (values.Source a_source) ≡ kinds.Source)
    × (kind_of_value (values.Version a_version) ≡ kinds.Version)
    × (kind_of_value (values.Architecture an_architecture) ≡ kinds.Architecture)
    × (kind_of_value (values.ArchitectureWords architectures) ≡ kinds.ArchitectureWords)
    × (kind_of_value (values.Flag flags.No) ≡ kinds.Flag)
    × (kind_of_value (values.MultiArch multi_archs.No) ≡ kinds.MultiArch)
    × (kind_of_value (values.Number a_number) ≡ kinds.Number)
    × (kind_of_value (values.Line a_line) ≡ kinds.Line)
    × (kind_of_value (values.Folded some_words) ≡ kinds.Folded)
    × (kind_of_value (values.Text a_text) ≡ kinds.Text)
kinds_of_values = (refl, refl, refl, refl, refl, refl, refl, refl, refl, refl, refl)

meanings : (value_meaning (values.Name a_name) ≡ NameMeans (codes "g++"))
    × (value_meaning (values.Source a_versioned_source)
    ≡ SourceMeans (record { name = codes "aa"; version = Some its_meaning }))
    × (value_meaning (values.Version a_version) ≡ VersionMeans its_meaning)
    × (value_meaning (values.Architecture an_architecture) ≡ ArchitectureMeans (codes "linux-any"))
    × (value_meaning (values.ArchitectureWords architectures)
    ≡ ArchitecturesMean (codes "any" ∷ codes "all" ∷ []))
    × (value_meaning (values.Flag flags.No) ≡ FlagMeans flags.No)
    × (value_meaning (values.MultiArch multi_archs.No) ≡ MultiArchMeans multi_archs.No)
    × (value_meaning (values.Number a_number) ≡ NumberMeans 120)
    × (value_meaning (values.Line a_line) ≡ LineMeans (codes "Aa <a@b>"))
    × (value_meaning (values.Folded some_words)
    ≡ FoldedMeans (codes "aa," ∷ codes "bb" ∷ codes "cc" ∷ []))
    × (value_meaning (values.Text a_text) ≡ TextMeans (codes "aa\n bb\n ."))
meanings = (refl, refl, refl, refl, refl, refl, refl, refl, refl, refl, refl)
