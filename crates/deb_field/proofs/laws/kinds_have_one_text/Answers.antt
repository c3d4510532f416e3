use Rattle.std.proofs.Common.{ℕ, List}
use Rattle.deb_base.specs.PackageNames.{is_arch_name, is_package_name}
use Rattle.deb_version.specs.Canonical.{digits_of, version_text}
use Rattle.deb_version.specs.Grammar.{SpellsVersion}
use Rattle.deb_version.specs.Parts.{Meaning as VersionMeaning}
use Rattle.deb_relation.specs.Meaning.{Relation as RelationMeaning}
use Rattle.deb_relation.specs.Texts.{relation_text}
use Rattle.deb_field.specs.CanonLaws.{one_text}
use Rattle.deb_field.specs.FlagLaws.{flag_law, multi_arch_law}
use Rattle.deb_field.specs.Flags.{SpellsFlag, SpellsMultiArch, flag_text, multi_arch_text}
use Rattle.deb_field.specs.NumberLaw.{number_law}
use Rattle.deb_field.specs.Numbers.{SpellsNumber}
use Rattle.deb_field.specs.RelationFields.{SpellsRelationship}
use Rattle.deb_field.specs.RelationLaw.{relation_law}
use Rattle.deb_field.specs.SourceLaws.{source_law}
use Rattle.deb_field.specs.Sources.{SourceMeaning, SpellsSource, source_text}
use Rattle.deb_field.specs.TextLaws.{itself_law}
use Rattle.deb_field.specs.Texts.{SpellsArchitecture, SpellsLine, SpellsName, SpellsText, is_any_text, is_one_line, text_itself}
use Rattle.deb_field.specs.VersionLaw.{version_law}
use Rattle.deb_field.specs.WordLaws.{architectures_law, folded_law}
use Rattle.deb_field.specs.Words.{SpellsArchitectures, SpellsFolded, words_text}
use Rattle.deb_field.specs.declared.flag.Flag.{Flag as FlagWord}
use Rattle.deb_field.specs.declared.flag.MultiArch.{MultiArch as MultiArchWord}
use Rattle.deb_field.proofs.laws.kinds_have_one_text.Goals as goal

pub returns : goal.returns
returns c = record {
  names = one_text (List ℕ) SpellsName text_itself (itself_law is_package_name);
  sources = one_text SourceMeaning SpellsSource source_text source_law;
  versions = one_text VersionMeaning SpellsVersion version_text version_law;
  architectures = one_text (List ℕ) SpellsArchitecture text_itself (itself_law is_arch_name);
  architecture_words = one_text (List (List ℕ)) SpellsArchitectures words_text architectures_law;
  flags = one_text FlagWord SpellsFlag flag_text flag_law;
  multi_archs = one_text MultiArchWord SpellsMultiArch multi_arch_text multi_arch_law;
  numbers = one_text ℕ SpellsNumber digits_of number_law;
  lines = one_text (List ℕ) SpellsLine text_itself (itself_law is_one_line);
  folded = one_text (List (List ℕ)) SpellsFolded words_text folded_law;
  relations = λ sort. one_text RelationMeaning (SpellsRelationship sort) relation_text (relation_law sort);
  texts = one_text (List ℕ) SpellsText text_itself (itself_law is_any_text);
}
