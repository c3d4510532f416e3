use Rattle.std.proofs.Common.{rules}
use Rattle.deb_select.proofs.PlainBytes.{all_plain, one_escaped}
use Rattle.deb_select.proofs.cells.push_escaped.Goals as goal

pub returns-then-plain-rest : goal.returns-then-plain-rest
returns-then-plain-rest c =
    all_plain c.args.out.now.items c.loop-rest.out.items c.args.text.now c.loop-rest.rest.now c.plain_len-plain.result c.extend_from_slice.new.self.items c.loop-rest.invariant c.plain_len-plain.ensures.value
    c.in_ok-extend_from_slice.ensures.items c.if-plain-rest.true

pub loop-rest-preserved : goal.loop-rest-preserved
loop-rest-preserved c =
    one_escaped c.args.out.now.items c.loop-rest.out.items c.args.text.now c.loop-rest.rest.now c.plain_len-plain.result c.extend_from_slice.new.self.items c.loop-rest.invariant c.plain_len-plain.ensures.value
    c.in_ok-extend_from_slice.ensures.items c.push_byte.new.out.items (search rules) c.in_ok-push_byte.ensures
