use Rattle.deb_field.specs.WordCuts.{behind_white-slice, cut-none, cut-some}
use Rattle.deb_field.proofs.words.cut_word.Goals as goal

pub returns-then-len-eq0 : goal.returns-then-len-eq0
returns-then-len-eq0 c = cut-none c.args.text.now _ c.word_len-len.result (behind_white-slice c.args.text.now c.leading_white.result c.leading_white.ensures.value) c.word_len-len.ensures.value c.if-len-eq0.true

pub returns-else-len-eq0 : goal.returns-else-len-eq0
returns-else-len-eq0 c = cut-some c.args.text.now _ c.word_len-len.result (behind_white-slice c.args.text.now c.leading_white.result c.leading_white.ensures.value) c.word_len-len.ensures.value c.if-len-eq0.false
