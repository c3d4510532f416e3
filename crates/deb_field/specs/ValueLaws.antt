-- Lemmas that the prover checks: nothing in this file needs to be believed.
--
-- The laws for values of all kinds.
use Rattle.std.proofs.Common.{ℕ, List, refl, ap}
use Rattle.std.specs.List.{position_or_len}
use Rattle.std.specs.Str.{bytes_eq}
use Rattle.deb_base.specs.Names.{folded, canonical_name}
use Rattle.deb_base.proofs.CanonicalNames.{folded-canonical_name}
use Rattle.deb_version.specs.Parts.{Meaning as VersionMeaning}
use Rattle.deb_version.specs.Grammar.{SpellsVersion}
use Rattle.deb_version.specs.Canonical.{version_text, digits_of}
use Rattle.deb_relation.specs.Meaning.{Relation as RelationMeaning}
use Rattle.deb_relation.specs.Texts.{relation_text}
use Rattle.deb_field.specs.CanonLaw.{CanonLaw, RefusalLaw}
use Rattle.deb_field.specs.CanonLaws.{law-through, refusals-through}
use Rattle.deb_field.specs.FlagLaws.{flag_law, flag_refusals, multi_arch_law, multi_arch_refusals}
use Rattle.deb_field.specs.Flags.{flag_text, SpellsFlag, flag_refusal, multi_arch_text, SpellsMultiArch, multi_arch_refusal}
use Rattle.deb_base.specs.Kinds.{kind_at, kind_in, kind_of, known_fields, known_row, FieldsOfAnyAreTexts, KindGoesByName, KindOfCanonicalName}
use Rattle.deb_field.specs.NumberLaw.{number_law, number_refusals}
use Rattle.deb_field.specs.Numbers.{SpellsNumber, number_refusal}
use Rattle.deb_field.specs.RelationFields.{SpellsRelationship, relationship_refusal}
use Rattle.deb_field.specs.RelationLaw.{relation_law, relation_refusals}
use Rattle.deb_field.specs.SourceLaws.{source_law, source_refusals}
use Rattle.deb_field.specs.Sources.{SourceMeaning, SpellsSource, source_text, source_refusal}
use Rattle.deb_field.specs.TextLaws.{itself_law, text_refusals, line_refusals, name_refusals, architecture_refusals}
use Rattle.deb_field.specs.Texts.{text_itself, is_any_text, is_one_line, SpellsText, text_refusal, SpellsLine, one_line_refusal, SpellsName, name_refusal, SpellsArchitecture, architecture_refusal}
use Rattle.deb_base.specs.PackageNames.{is_package_name, is_arch_name}
use Rattle.deb_base.specs.declared.doc.Doc.{Doc}
use Rattle.deb_field.specs.Values.{ValueMeaning, NameMeans, SourceMeans, VersionMeans, ArchitectureMeans, ArchitecturesMean, FlagMeans, MultiArchMeans, NumberMeans, LineMeans, FoldedMeans, RelationMeans, TextMeans, value_text, SpellsKind, kind_refusal, SpellsValue, value_refusal}
use Rattle.deb_field.specs.VersionLaw.{version_law, version_refusals}
use Rattle.deb_field.specs.Versions.{version_refusal}
use Rattle.deb_field.specs.WordLaws.{folded_law, folded_refusals, architectures_law, architectures_refusals}
use Rattle.deb_field.specs.Words.{words_text, SpellsFolded, folded_refusal, SpellsArchitectures, architectures_refusal}
use Rattle.deb_field.specs.declared.flag.Flag.{Flag as FlagWord}
use Rattle.deb_field.specs.declared.flag.MultiArch.{MultiArch as MultiArchWord}
use Rattle.deb_base.specs.declared.kind.Kind.{Kind as FieldKind}
use Rattle.deb_base.specs.declared.kind.Kind.TheVariants.{Name, Source, Version, Architecture, ArchitectureWords, Flag, MultiArch, Number, Line, Folded, Relation, Text}

pub kind_law : (kind : FieldKind) → CanonLaw ValueMeaning (SpellsKind kind) value_text
kind_law Name =
    law-through (List ℕ) ValueMeaning NameMeans SpellsName text_itself value_text (λ m. refl)
    (itself_law is_package_name)
kind_law Source =
    law-through SourceMeaning ValueMeaning SourceMeans SpellsSource source_text value_text
    (λ m. refl) source_law
kind_law Version =
    law-through VersionMeaning ValueMeaning VersionMeans SpellsVersion version_text value_text
    (λ m. refl) version_law
kind_law Architecture =
    law-through (List ℕ) ValueMeaning ArchitectureMeans SpellsArchitecture text_itself value_text
    (λ m. refl) (itself_law is_arch_name)
kind_law ArchitectureWords =
    law-through (List (List ℕ)) ValueMeaning ArchitecturesMean SpellsArchitectures words_text
    value_text (λ m. refl) architectures_law
kind_law Flag =
    law-through FlagWord ValueMeaning FlagMeans SpellsFlag flag_text value_text (λ m. refl) flag_law
kind_law MultiArch =
    law-through MultiArchWord ValueMeaning MultiArchMeans SpellsMultiArch multi_arch_text value_text
    (λ m. refl) multi_arch_law
kind_law Number =
    law-through ℕ ValueMeaning NumberMeans SpellsNumber digits_of value_text (λ m. refl) number_law
kind_law Line =
    law-through (List ℕ) ValueMeaning LineMeans SpellsLine text_itself value_text (λ m. refl)
    (itself_law is_one_line)
kind_law Folded =
    law-through (List (List ℕ)) ValueMeaning FoldedMeans SpellsFolded words_text value_text
    (λ m. refl) folded_law
kind_law (Relation sort) =
    law-through RelationMeaning ValueMeaning RelationMeans (SpellsRelationship sort) relation_text
    value_text (λ m. refl) (relation_law sort)
kind_law Text =
    law-through (List ℕ) ValueMeaning TextMeans SpellsText text_itself value_text (λ m. refl)
    (itself_law is_any_text)

pub kind_refusals : (kind : FieldKind)
    → RefusalLaw ValueMeaning (SpellsKind kind) (kind_refusal kind)
kind_refusals Name =
    refusals-through (List ℕ) ValueMeaning NameMeans SpellsName name_refusal name_refusals
kind_refusals Source =
    refusals-through SourceMeaning ValueMeaning SourceMeans SpellsSource source_refusal
    source_refusals
kind_refusals Version =
    refusals-through VersionMeaning ValueMeaning VersionMeans SpellsVersion version_refusal
    version_refusals
kind_refusals Architecture =
    refusals-through (List ℕ) ValueMeaning ArchitectureMeans SpellsArchitecture architecture_refusal
    architecture_refusals
kind_refusals ArchitectureWords =
    refusals-through (List (List ℕ)) ValueMeaning ArchitecturesMean SpellsArchitectures
    architectures_refusal architectures_refusals
kind_refusals Flag =
    refusals-through FlagWord ValueMeaning FlagMeans SpellsFlag flag_refusal flag_refusals
kind_refusals MultiArch =
    refusals-through MultiArchWord ValueMeaning MultiArchMeans SpellsMultiArch multi_arch_refusal
    multi_arch_refusals
kind_refusals Number =
    refusals-through ℕ ValueMeaning NumberMeans SpellsNumber number_refusal number_refusals
kind_refusals Line =
    refusals-through (List ℕ) ValueMeaning LineMeans SpellsLine one_line_refusal line_refusals
kind_refusals Folded =
    refusals-through (List (List ℕ)) ValueMeaning FoldedMeans SpellsFolded folded_refusal
    folded_refusals
kind_refusals (Relation sort) =
    refusals-through RelationMeaning ValueMeaning RelationMeans (SpellsRelationship sort)
    (relationship_refusal sort) (relation_refusals sort)
kind_refusals Text =
    refusals-through (List ℕ) ValueMeaning TextMeans SpellsText text_refusal text_refusals

-- the same of the field of a name
pub value_law : (doc : Doc) (name : List ℕ)
    → CanonLaw ValueMeaning (SpellsValue doc name) value_text
value_law doc name = kind_law (kind_of doc name)

pub value_refusals : (doc : Doc) (name : List ℕ)
    → RefusalLaw ValueMeaning (SpellsValue doc name) (value_refusal doc name)
value_refusals doc name = kind_refusals (kind_of doc name)

-- the kind goes by the name without case, and so do what spells a value and what is refused
pub kind_goes_by_name : KindGoesByName
unfolding kind_of known_row
kind_goes_by_name doc a b same =
    ap
    (λ name. kind_in doc
    (kind_at (position_or_len (λ row. bytes_eq (folded row.0) name) known_fields)))
    same

pub fields_of_any_are_texts : FieldsOfAnyAreTexts
unfolding kind_of
fields_of_any_are_texts name = refl

pub kind_of_canonical_name : KindOfCanonicalName
kind_of_canonical_name doc name =
    kind_goes_by_name doc (canonical_name name) name (folded-canonical_name name)
