use Rattle.deb_syntax.proofs.Common.{◌≡◌, ◌≤◌, ◌==◌, ◌∙◌, length, take, ap, subst, arith, length-take, list_all, newline, IsTrue, cursor_state, room_of}
use Rattle.std.proofs.lemmas.List.{take-take}
use Rattle.deb_syntax.proofs.CursorLemmas.{cursor_small}
use Rattle.deb_syntax.proofs.first.pass_newlines.Goals as goal

pub visible-requires : goal.visible-requires
visible-requires c = omega (arith, cursor_small c.args.cursor.now)

pub consume-requires-clause-skip : goal.consume-requires-clause-skip
consume-requires-clause-skip c =
    let before = cursor_state c.args.cursor.now in
    omega (arith, c.newlines-count.ensures.within, ap length c.visible.ensures.seen, length-take (room_of before 0) before.unread)

pub consume-requires-clause-bytes : goal.consume-requires-clause-bytes
consume-requires-clause-bytes c =
    let before = cursor_state c.args.cursor.now in
    omega (arith, cursor_small c.args.cursor.now, c.newlines-count.ensures.within, ap length c.visible.ensures.seen, length-take (room_of before 0) before.unread)

pub returns : goal.returns
returns c =
    let before = cursor_state c.args.cursor.now in
    let count = c.newlines-count.result in
    let short : count ≤ room_of before 0 = omega (arith, c.newlines-count.ensures.within, ap length c.visible.ensures.seen, length-take (room_of before 0) before.unread) in
    let within : count ≤ length before.unread = omega (arith, c.newlines-count.ensures.within, ap length c.visible.ensures.seen, length-take (room_of before 0) before.unread) in
    let front : take count c.visible.result.bytes.now ≡ take count before.unread = ap (take count) c.visible.ensures.seen ∙ take-take count (room_of before 0) before.unread short in
    (count, within, subst (λ zs. IsTrue (list_all (λ b. b == newline) zs)) front c.newlines-count.ensures.all, c.consume.ensures.passes)
