-- What values of all kinds mean, which bodies spell them, and what is refused. Debian Policy 5.6
-- and 7.
use Rattle.std.specs.Prelude.{ℕ, List, Option}
use Rattle.deb_base.specs.declared.code.Code.{Code}
use Rattle.deb_base.specs.declared.doc.Doc.{Doc}
use Rattle.deb_version.specs.Parts.{Meaning as VersionMeaning}
use Rattle.deb_version.specs.Grammar.{SpellsVersion}
use Rattle.deb_version.specs.Canonical.{version_text, digits_of}
use Rattle.deb_relation.specs.Meaning.{Relation as RelationMeaning}
use Rattle.deb_relation.specs.Texts.{relation_text}
use Rattle.deb_field.specs.CanonLaw.{Through}
use Rattle.deb_field.specs.Flags.{flag_text, SpellsFlag, flag_refusal, multi_arch_text, SpellsMultiArch, multi_arch_refusal}
use Rattle.deb_base.specs.Kinds.{kind_of}
use Rattle.deb_field.specs.Numbers.{SpellsNumber, number_refusal}
use Rattle.deb_field.specs.RelationFields.{SpellsRelationship, relationship_refusal}
use Rattle.deb_field.specs.Sources.{SourceMeaning, SpellsSource, source_text, source_refusal}
use Rattle.deb_field.specs.Texts.{SpellsText, text_refusal, SpellsLine, one_line_refusal, SpellsName, name_refusal, SpellsArchitecture, architecture_refusal}
use Rattle.deb_field.specs.Versions.{version_refusal}
use Rattle.deb_field.specs.Words.{words_text, SpellsFolded, folded_refusal, SpellsArchitectures, architectures_refusal}
use Rattle.deb_field.specs.declared.flag.Flag.{Flag as FlagWord}
use Rattle.deb_field.specs.declared.flag.MultiArch.{MultiArch as MultiArchWord}
use Rattle.deb_base.specs.declared.kind.Kind.{Kind as FieldKind}
use Rattle.deb_base.specs.declared.kind.Kind.TheVariants.{Name, Source, Version, Architecture, ArchitectureWords, Flag, MultiArch, Number, Line, Folded, Relation, Text}

-- what a value means: nothing that only its spelling has
pub data ValueMeaning : Type 0 where
  NameMeans : List ℕ → ValueMeaning
  SourceMeans : SourceMeaning → ValueMeaning
  VersionMeans : VersionMeaning → ValueMeaning
  ArchitectureMeans : List ℕ → ValueMeaning
  ArchitecturesMean : List (List ℕ) → ValueMeaning
  FlagMeans : FlagWord → ValueMeaning
  MultiArchMeans : MultiArchWord → ValueMeaning
  NumberMeans : ℕ → ValueMeaning
  LineMeans : List ℕ → ValueMeaning
  FoldedMeans : List (List ℕ) → ValueMeaning
  RelationMeans : RelationMeaning → ValueMeaning
  TextMeans : List ℕ → ValueMeaning

-- the canonical text of a value
abbrev pub value_text : ValueMeaning → List ℕ
value_text (NameMeans name) = name
value_text (SourceMeans source) = source_text source
value_text (VersionMeans version) = version_text version
value_text (ArchitectureMeans name) = name
value_text (ArchitecturesMean names) = words_text names
value_text (FlagMeans flag) = flag_text flag
value_text (MultiArchMeans word) = multi_arch_text word
value_text (NumberMeans n) = digits_of n
value_text (LineMeans line) = line
value_text (FoldedMeans words) = words_text words
value_text (RelationMeans relation) = relation_text relation
value_text (TextMeans text) = text

-- The body spells the value, as one of the kind.
abbrev pub SpellsKind : FieldKind → List ℕ → ValueMeaning → Type 0
SpellsKind Name = Through NameMeans SpellsName
SpellsKind Source = Through SourceMeans SpellsSource
SpellsKind Version = Through VersionMeans SpellsVersion
SpellsKind Architecture = Through ArchitectureMeans SpellsArchitecture
SpellsKind ArchitectureWords = Through ArchitecturesMean SpellsArchitectures
SpellsKind Flag = Through FlagMeans SpellsFlag
SpellsKind MultiArch = Through MultiArchMeans SpellsMultiArch
SpellsKind Number = Through NumberMeans SpellsNumber
SpellsKind Line = Through LineMeans SpellsLine
SpellsKind Folded = Through FoldedMeans SpellsFolded
SpellsKind (Relation sort) = Through RelationMeans (SpellsRelationship sort)
SpellsKind Text = Through TextMeans SpellsText

-- why a body is refused as one of the kind, or none
abbrev pub kind_refusal : FieldKind → List ℕ → Option Code
kind_refusal Name = name_refusal
kind_refusal Source = source_refusal
kind_refusal Version = version_refusal
kind_refusal Architecture = architecture_refusal
kind_refusal ArchitectureWords = architectures_refusal
kind_refusal Flag = flag_refusal
kind_refusal MultiArch = multi_arch_refusal
kind_refusal Number = number_refusal
kind_refusal Line = one_line_refusal
kind_refusal Folded = folded_refusal
kind_refusal (Relation sort) = relationship_refusal sort
kind_refusal Text = text_refusal

-- The body spells the value in the field of this name, in a document of this kind.
abbrev pub SpellsValue : Doc → List ℕ → List ℕ → ValueMeaning → Type 0
SpellsValue doc name = SpellsKind (kind_of doc name)

-- why a body is refused in that field, or none
abbrev pub value_refusal : Doc → List ℕ → List ℕ → Option Code
value_refusal doc name = kind_refusal (kind_of doc name)
