use Rattle.std.proofs.Common.{codes, ap, ◌∙◌}
use Rattle.deb_base.specs.Kinds.{known_row}
use Rattle.deb_control.specs.FieldTexts.{word_at}
use Rattle.deb_install.specs.SourceKinds.{name_field}
use Rattle.deb_install.proofs.kept_source.KeptSource.of.Goals as goal

pub returns : goal.returns
returns c = λ values has. record {
  name = c.in_ok-name.ensures ∙ ap (λ name. word_at c.args.texts.now (known_row name)) c.name_field.ensures ∙ has.word (name_field c.args.kind);
  version = c.in_ok-version.ensures ∙ has.word (codes "Version");
  build = c.in_ok-build.ensures values has;
}
