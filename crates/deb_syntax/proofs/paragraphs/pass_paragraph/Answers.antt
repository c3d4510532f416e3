use Rattle.deb_base.specs.Bodies.{file_limit}
use Rattle.deb_syntax.specs.LineEnds.{piece_ends}
use Rattle.deb_syntax.proofs.Advancing.{standing_bytes}
use Rattle.deb_syntax.proofs.Common.{[], ap, sym, ◌∙◌, ◌+◌, arith, cursor_state, buffer_of}
use Rattle.deb_syntax.proofs.CursorLemmas.{cursor_few, cursor_small}
use Rattle.deb_syntax.proofs.JudgedLines.{lines_stand, standing_judgeable, standing_passed}
use Rattle.deb_syntax.proofs.paragraphs.pass_paragraph.Goals as goal

pub returns-clause-stands : goal.returns-clause-stands
returns-clause-stands g c = lines_stand c.paragraph_extent.new.cursor (buffer_of c.consume.new.self) c.in_ok-extent.extent c.start-from.result (c.lines.result + 1) c.consume.ensures.buffer c.start-from.ensures c.in_ok-extent.ensures.found (omega arith)

pub returns-clause-judgeable : goal.returns-clause-judgeable
unfolding file_limit
returns-clause-judgeable g c =
    let after = c.paragraph_extent.new.cursor in
    let x = c.in_ok-extent.ensures.found in
    standing_judgeable after (buffer_of c.consume.new.self) c.in_ok-extent.extent c.start-from.result (c.lines.result + 1) c.consume.ensures.buffer c.start-from.ensures x (omega arith) (omega (arith, x.counted, x.few, x.within, cursor_few after, cursor_small after, c.lines.ensures))

pub returns-clause-passes : goal.returns-clause-passes
returns-clause-passes g c = λ text a.
    standing_passed c.paragraph_extent.new.cursor (buffer_of c.consume.new.self) c.in_ok-extent.extent c.start-from.result (c.lines.result + 1) c.consume.ensures.buffer c.start-from.ensures c.in_ok-extent.ensures.found text _ _ _ ((cursor_state c.args.cursor.now).lines + 1) (omega (arith, c.lines.ensures, c.in_ok-extent.ensures.same.lines)) (c.in_ok-extent.ensures.ahead text a (cursor_state c.consume.new.self) c.consume.ensures.passes)

pub returns-clause-ends : goal.returns-clause-ends
returns-clause-ends g c =
    c.in_ok-extent.ensures.ends
    ∙ ap piece_ends (sym (standing_bytes c.paragraph_extent.new.cursor (buffer_of c.consume.new.self) c.in_ok-extent.extent c.start-from.result [] c.consume.ensures.buffer c.start-from.ensures c.in_ok-extent.ensures.found))
