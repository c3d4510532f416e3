use Rattle.std.proofs.Common.{refl, sym, ap, ◌∙◌}
use Rattle.deb_base.specs.Trimming.{trimmed}
use Rattle.deb_base.proofs.Trims.{trimmed-after_blank}
use Rattle.deb_base.proofs.blank.trimmed.Goals as goal

pub returns-in-Some : goal.returns-in-Some
returns-in-Some c =
    sym (ap trimmed c.in-Some.ensures ∙ trimmed-after_blank 32 c.in-Some.body.now refl (sym c.begins_with_blank.ensures ∙ c.if-not-begins_with_blank.true) (sym c.ends_with_blank.ensures ∙ c.if-not-ends_with_blank.true))
