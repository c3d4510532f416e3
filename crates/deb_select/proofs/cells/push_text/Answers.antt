use Rattle.std.proofs.Common.{◌++◌, sym, ap, ◌∙◌}
use Rattle.deb_select.proofs.PlainBytes.{plain_text}
use Rattle.deb_select.proofs.cells.push_text.Goals as goal

pub returns-then-is_all_plain : goal.returns-then-is_all_plain
returns-then-is_all_plain c =
    c.in_ok-extend_from_slice.ensures.items ∙ ap (λ l. c.args.out.now.items ++ l) (sym (plain_text c.args.text.now (sym c.is_all_plain.ensures ∙ c.if-is_all_plain.true)))
