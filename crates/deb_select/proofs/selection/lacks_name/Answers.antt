use Rattle.std.proofs.Common.{subst}
use Rattle.deb_field.specs.Values.{SpellsKind}
use Rattle.deb_select.specs.Kept.{passes_kept, test_shown, value_kept}
use Rattle.deb_select.proofs.NamesInTexts.{first-fails}
use Rattle.deb_select.proofs.selection.lacks_name.Goals as goal

pub returns-in-len1-up : goal.returns-in-len1-up
returns-in-len1-up c = λ lacks value spells.
    first-fails (λ test. passes_kept (test_shown test) (value_kept value)) c.args.tests.now _ c.first-item.result c.in-len1-up.len_at_least c.first-item.is
    (c.lacks_name.ensures lacks c.in-Relation.field-0 value (subst (λ k. SpellsKind k c.args.body.now value) c.in-Relation.is spells))
