-- The first field is cut where its length and that of its name say.
use Rattle.std.proofs.Common.{sym, ◌∙◌}
use Rattle.deb_diff.proofs.Cutting.{first_cut}
use Rattle.deb_diff.proofs.cut.first_field.Goals as goal

pub returns-clause-first : goal.returns-clause-first
returns-clause-first c = λ entries each is.
    first_cut c.args.text.now c.split_at.result.0.now c.field_len.result c.name_len.result entries _ each is (sym c.is_empty.ensures ∙ c.if-is_empty.false)
    c.field_len.ensures.value c.split_at.ensures.front c.split_at.ensures.back c.name_len.ensures.value c.split_at-2.ensures.front c.split_at-2.ensures.back
