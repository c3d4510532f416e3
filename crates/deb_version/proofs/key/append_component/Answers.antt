-- One part more is written, and the end after the last one.
use Rattle.deb_version.proofs.Common.{◌≡◌, ◌==◌, ◌++◌, ◌∙◌, ap, sym, false, length, append_assoc, cut_of, part_of, parts_of}
use Rattle.deb_version.specs.Keys.{component_key, part_key}
use Rattle.deb_version.proofs.KeyWritten.{AreAscii-after, AreAscii-text, one_part_written, rest_key-some}
use Rattle.deb_version.proofs.key.append_component.Goals as goal

pub append_part-requires : goal.append_part-requires
append_part-requires c =
    AreAscii-text c.loop-out.rest.now c.first.result.1.now (cut_of c.first.result.0) c.first.ensures.cuts c.loop-out.invariant.ascii

pub loop-out-preserved : goal.loop-out-preserved
loop-out-preserved c =
    let rest = c.loop-out.rest.now in
    let after = c.first.result.1.now in
    let cut = cut_of c.first.result.0 in
    let new = c.append_part.new.out.items in
    let whole = c.args.out.now.items ++ component_key (parts_of c.args.component.now) in
    let some : (length after == 0) ≡ false = sym c.is_empty.ensures ∙ c.if-is_empty.false in
    let first = c.loop-out.invariant.begun in
    let part = part_key (part_of cut) in
    record {
      written = ap (λ l. new ++ l) (sym (rest_key-some after some)) ∙ one_part_written c.loop-out.out.items new rest after whole cut c.first.ensures.cuts c.loop-out.invariant.written c.in_ok-append_part.ensures.ok;
      begun = (first.0 ++ part, c.in_ok-append_part.ensures.ok ∙ ap (λ l. l ++ part) first.1 ∙ append_assoc c.args.out.now.items first.0 part);
      ascii = AreAscii-after rest after cut c.first.ensures.cuts c.loop-out.invariant.ascii;
    }
