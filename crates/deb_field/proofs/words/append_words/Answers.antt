use Rattle.std.proofs.Common.{ap}
use Rattle.deb_field.specs.WordTexts.{begin-text}
use Rattle.deb_field.proofs.words.append_words.Goals as goal

pub loop-word-init : goal.loop-word-init
loop-word-init c = record {
  can = tt;
  finite = tt;
  written = begin-text c.args.text.now c.in-Some.first.now c.of-words.result.rest.now c.next.new.self.rest.now c.into_iter-word-iterator.result.rest.now c.of-words.ensures c.in-Some.ensures.steps (ap (λ w. w.rest.now) c.into_iter-word-iterator.ensures.into_iter_gives) c.args.out.now.items c.extend_from_slice.new.self.items c.in_ok-extend_from_slice.ensures.items;
  begun = (c.in-Some.first.now, c.in_ok-extend_from_slice.ensures.items);
}
