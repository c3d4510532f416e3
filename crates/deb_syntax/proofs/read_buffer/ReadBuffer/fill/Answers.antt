use Rattle.deb_syntax.proofs.Common.{◌∙◌, ◌+◌, ◌++◌, take, drop, slice_range, ap, arith, rules, length-drop, length-take-le, with_items_is, places}
use Rattle.deb_syntax.proofs.CursorLemmas.{slice_range-same_front, slice_range-grown}
use Rattle.deb_syntax.proofs.read_buffer.ReadBuffer.fill.Goals as goal

pub returns-in-Ok-clause-fills : goal.returns-in-Ok-clause-fills
returns-in-Ok-clause-fills g c =
    let mid = c.make_room.new.self in
    let new = c.read_behind.new.buffer in
    let same = with_items_is mid.buffer new (search (rules, places)) in
    let within = c.in-Ok.ensures.within in
    let left = length-drop mid.filled new in
    record {
      piece = take c.in-Ok.count (drop mid.filled new);
      counted = length-take-le c.in-Ok.count (drop mid.filled new) (omega (arith, within, left));
      short = c.in-Ok.ensures.short;
      unread = ap (λ zs. slice_range zs mid.start (mid.filled + c.in-Ok.count)) same
          ∙ slice_range-grown mid.buffer.items new mid.start mid.filled c.in-Ok.count mid.ordered (c.read_behind.ensures.kept ∙ ap (take mid.filled) c.as_mut_slice.ensures.value)
          ∙ ap (λ zs. zs ++ take c.in-Ok.count (drop mid.filled new)) c.in_ok-make_room.ensures.unread;
      consumed = c.in-Ok.ensures.bytes.0;
      at_end = λ e. c.in-Ok.ensures.bytes.1 e (let room = c.in_ok-make_room.ensures.room in search (rules, places));
    }

pub returns-in-Err-clause-unread : goal.returns-in-Err-clause-unread
returns-in-Err-clause-unread g c =
    let mid = c.make_room.new.self in
    let new = c.read_behind.new.buffer in
    let same = with_items_is mid.buffer new (search (rules, places)) in
    ap (λ zs. slice_range zs mid.start mid.filled) same
    ∙ slice_range-same_front mid.buffer.items new mid.start mid.filled mid.ordered (c.read_behind.ensures.kept ∙ ap (take mid.filled) c.as_mut_slice.ensures.value)
    ∙ c.in_ok-make_room.ensures.unread
