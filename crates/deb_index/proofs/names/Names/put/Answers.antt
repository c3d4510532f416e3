-- The last number under the name is the number, and the list under it has it.
use Rattle.std.proofs.Common.{refl, ap, ◌∙◌}
use Rattle.std.specs.Option.{unwrap_or}
use Rattle.deb_index.proofs.PutLast.{puts_again, puts_more}
use Rattle.deb_index.proofs.names.Names.put.Goals as goal

pub returns-then-before-number : goal.returns-then-before-number
returns-then-before-number c =
    puts_again c.in_ok-key.key c.args.name.now c.args.number c.unwrap_or-before.result c.args.self.now _ c.requires c.in_ok-key.ensures.items c.in_ok-insert.ensures.updates
    (c.unwrap_or-before.ensures ∙ ap (λ o. unwrap_or o c.args.number) c.in_ok-insert.ensures.old) refl c.if-before-number.true

pub returns : goal.returns
returns c =
    puts_more c.in_ok-key.key c.args.name.now c.args.number c.unwrap_or-before.result c.args.self.now _ c.requires c.in_ok-key.ensures.items c.in_ok-insert.ensures.updates
    (c.unwrap_or-before.ensures ∙ ap (λ o. unwrap_or o c.args.number) c.in_ok-insert.ensures.old) c.append_number.result c.if-before-number.false c.append_number.ensures
