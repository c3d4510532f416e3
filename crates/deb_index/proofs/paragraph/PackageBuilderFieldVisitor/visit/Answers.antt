use Rattle.std.proofs.Common.{◌∙◌}
use Rattle.deb_control.specs.Visiting.{visit_of}
use Rattle.deb_index.proofs.PackageBuilder.{word-next}
use Rattle.deb_index.proofs.paragraph.PackageBuilderFieldVisitor.visit.Goals as goal

pub returns : goal.returns
returns c = λ visited keeps. record {
  texts = c.in_ok-visit.ensures visited keeps.texts;
  multi_arch = c.with_multi_arch-self.ensures ∙ word-next visited (visit_of c.args.field.now c.args.value.now) _ _ c.args.field.now.named keeps.multi_arch;
}
