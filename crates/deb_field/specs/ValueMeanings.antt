-- What a `Value` means, and its kind.
use Rattle.std.proofs.Common.{ℕ, List, refl}
use Rattle.deb_version.specs.Parts.{value_of}
use Rattle.deb_version.specs.Version.{meaning_of, components_of}
use Rattle.deb_version.specs.Grammar.{spelling}
use Rattle.deb_field.specs.Flags.{flag_text, multi_arch_text}
use Rattle.deb_field.specs.NumberLaw.{number_spelled}
use Rattle.deb_relation.specs.RelationTexts.{body_of}
use Rattle.deb_field.specs.RelationSpelled.{relation_meaning, relation_spelled}
use Rattle.deb_field.specs.SourceNames.{source_meaning}
use Rattle.deb_field.specs.SourceSpelled.{source_spelled}
use Rattle.deb_field.specs.VersionLaw.{version_spelled}
use Rattle.deb_field.specs.Words.{words_of}
use Rattle.deb_field.specs.Values.{ValueMeaning, NameMeans, SourceMeans, VersionMeans, ArchitectureMeans, ArchitecturesMean, FlagMeans, MultiArchMeans, NumberMeans, LineMeans, FoldedMeans, RelationMeans, TextMeans, SpellsKind}
use Rattle.deb_base.specs.declared.kind.Kind.{Kind}
use Rattle.deb_base.specs.declared.kind.Kind.TheVariants as kinds
use Rattle.deb_field.specs.declared.value.Value.{Value}
use Rattle.deb_field.specs.declared.value.Value.TheVariants.{Name, Source, Version, Architecture, ArchitectureWords, Flag, MultiArch, Number, Line, Folded, Relation, Text}

-- the kind of a value
abbrev pub kind_of_value : Value → Kind
kind_of_value (Name name) = kinds.Name
kind_of_value (Source source) = kinds.Source
kind_of_value (Version version) = kinds.Version
kind_of_value (Architecture name) = kinds.Architecture
kind_of_value (ArchitectureWords names) = kinds.ArchitectureWords
kind_of_value (Flag flag) = kinds.Flag
kind_of_value (MultiArch word) = kinds.MultiArch
kind_of_value (Number number) = kinds.Number
kind_of_value (Line line) = kinds.Line
kind_of_value (Folded folded) = kinds.Folded
kind_of_value (Relation field) = kinds.Relation field.relationship
kind_of_value (Text text) = kinds.Text

-- what it means
abbrev pub value_meaning : Value → ValueMeaning
value_meaning (Name name) = NameMeans name.bytes.now
value_meaning (Source source) = SourceMeans (source_meaning source)
value_meaning (Version version) = VersionMeans (meaning_of version)
value_meaning (Architecture name) = ArchitectureMeans name.bytes.now
value_meaning (ArchitectureWords names) = ArchitecturesMean (words_of names.body.now)
value_meaning (Flag flag) = FlagMeans flag
value_meaning (MultiArch word) = MultiArchMeans word
value_meaning (Number number) = NumberMeans (value_of number.digits.now)
value_meaning (Line line) = LineMeans line.bytes.now
value_meaning (Folded folded) = FoldedMeans (words_of folded.body.now)
value_meaning (Relation field) = RelationMeans (relation_meaning field)
value_meaning (Text text) = TextMeans text.bytes.now

-- each value is spelled by a body
pub value_spelled : (v : Value)
    → (body : List ℕ) × SpellsKind (kind_of_value v) body (value_meaning v)
value_spelled (Name name) = (name.bytes.now, (name.bytes.now, refl, (refl, name.well_formed)))
value_spelled (Source source) =
    let s = source_spelled source in (s.0, (source_meaning source, refl, s.1))
value_spelled (Version version) =
    (spelling (components_of version), (meaning_of version, refl, version_spelled version))
value_spelled (Architecture name) =
    (name.bytes.now, (name.bytes.now, refl, (refl, name.well_formed)))
value_spelled (ArchitectureWords names) =
    (names.body.now, (words_of names.body.now, refl, (refl, names.well_formed)))
value_spelled (Flag flag) = (flag_text flag, (flag, refl, refl))
value_spelled (MultiArch word) = (multi_arch_text word, (word, refl, refl))
value_spelled (Number number) = (
  number.digits.now,
  (
    value_of number.digits.now,
    refl,
    number_spelled number.digits.now number.well_formed,
  ),
)
value_spelled (Line line) = (line.bytes.now, (line.bytes.now, refl, (refl, line.one_line)))
value_spelled (Folded folded) = (folded.body.now, (words_of folded.body.now, refl, refl))
value_spelled (Relation field) = (
  body_of field.relation,
  (
    relation_meaning field,
    refl,
    relation_spelled field,
  ),
)
value_spelled (Text text) = (text.bytes.now, (text.bytes.now, refl, (refl, refl)))
