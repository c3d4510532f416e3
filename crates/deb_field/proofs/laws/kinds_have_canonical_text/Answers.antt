use Rattle.deb_base.specs.PackageNames.{is_arch_name, is_package_name}
use Rattle.deb_field.specs.FlagLaws.{flag_law, multi_arch_law}
use Rattle.deb_field.specs.NumberLaw.{number_law}
use Rattle.deb_field.specs.RelationLaw.{relation_law}
use Rattle.deb_field.specs.SourceLaws.{source_law}
use Rattle.deb_field.specs.TextLaws.{itself_law}
use Rattle.deb_field.specs.Texts.{is_any_text, is_one_line}
use Rattle.deb_field.specs.VersionLaw.{version_law}
use Rattle.deb_field.specs.WordLaws.{architectures_law, folded_law}
use Rattle.deb_field.proofs.laws.kinds_have_canonical_text.Goals as goal

pub returns : goal.returns
returns c = record {
  names = itself_law is_package_name;
  sources = source_law;
  versions = version_law;
  architectures = itself_law is_arch_name;
  architecture_words = architectures_law;
  flags = flag_law;
  multi_archs = multi_arch_law;
  numbers = number_law;
  lines = itself_law is_one_line;
  folded = folded_law;
  relations = relation_law;
  texts = itself_law is_any_text;
}
