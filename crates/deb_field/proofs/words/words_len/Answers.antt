use Rattle.std.proofs.Common.{length, length-append, ap, arith}
use Rattle.deb_field.specs.Words.{words_of}
use Rattle.deb_field.specs.WordTexts.{begin-len, words_text-short, more_text}
use Rattle.deb_field.proofs.words.words_len.Goals as goal

pub loop-word-init : goal.loop-word-init
loop-word-init c = record {
  can = tt;
  finite = tt;
  value = begin-len c.args.text.now c.in-Some.first.now c.of-words.result.rest.now c.next.new.self.rest.now c.into_iter-word-iterator.result.rest.now c.of-words.ensures c.in-Some.ensures.steps (ap (λ w. w.rest.now) c.into_iter-word-iterator.ensures.into_iter_gives);
}

pub overflow_add-len-in-loop-word : goal.overflow_add-len-in-loop-word
overflow_add-len-in-loop-word c =
    let more = ap (λ ws. length (more_text ws)) c.in-Some-word.ensures.steps in
    omega (arith, more, length-append c.in-Some-word.word.now (more_text (words_of c.next-in-loop-word.new.self.rest.now)), words_text-short c.args.text.now, c.loop-word.invariant.value)
