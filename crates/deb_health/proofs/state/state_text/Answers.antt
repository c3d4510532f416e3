use Rattle.std.proofs.Common.{◌≡◌, [], ◌∷◌, ◌++◌, codes, sym, ap, ◌∙◌}
use Rattle.deb_base.specs.Kinds.{known_row}
use Rattle.deb_control.specs.FieldWords.{word_under}
use Rattle.deb_health.specs.States.{or_hyphen}
use Rattle.deb_health.proofs.Unsettled.{status_read, text_removed, text_written, texts_read}
use Rattle.deb_health.proofs.state.state_text.Goals as goal

pub returns-then-is_removed : goal.returns-then-is_removed
returns-then-is_removed c = λ values gives.
    let status = c.status_word-status.result.now in
    let is = c.status_word-status.ensures ∙ status_read c.args.paragraph.now c.args.texts.now values gives in
    c.new-text.ensures.items ∙ text_removed values status is (sym c.is_removed.ensures ∙ c.if-is_removed.true)

pub returns : goal.returns
unfolding known_row
returns c = λ values gives.
    let status = c.status_word-status.result.now in
    let is = c.status_word-status.ensures ∙ status_read c.args.paragraph.now c.args.texts.now values gives in
    let texts = texts_read c.args.paragraph.now c.args.texts.now values gives in
    let name : c.word.result.now ≡ word_under (codes "Package") values = c.word.ensures ∙ texts.word (codes "Package") in
    let version : c.or_hyphen.result.now ≡ or_hyphen (word_under (codes "Version") values) = c.or_hyphen.ensures ∙ ap or_hyphen (c.word-2.ensures ∙ texts.word (codes "Version")) in
    let architecture : c.or_hyphen-2.result.now ≡ or_hyphen (word_under (codes "Architecture") values) = c.or_hyphen-2.ensures ∙ ap or_hyphen (c.word-3.ensures ∙ texts.word (codes "Architecture")) in
    let one : c.append_spaced.new.out.items ≡ 32 ∷ c.word.result.now = c.in_ok-append_spaced.ensures ∙ ap (λ l. l ++ 32 ∷ c.word.result.now) c.new-text.ensures.items in
    let two : c.append_spaced-2.new.out.items ≡ (32 ∷ c.word.result.now) ++ 32 ∷ c.or_hyphen.result.now = c.in_ok-append_spaced-2.ensures ∙ ap (λ l. l ++ 32 ∷ c.or_hyphen.result.now) one in
    let three : c.append_spaced-3.new.out.items ≡ ((32 ∷ c.word.result.now) ++ 32 ∷ c.or_hyphen.result.now) ++ 32 ∷ c.or_hyphen-2.result.now = c.in_ok-append_spaced-3.ensures ∙ ap (λ l. l ++ 32 ∷ c.or_hyphen-2.result.now) two in
    let four : c.append_spaced-4.new.out.items ≡ (((32 ∷ c.word.result.now) ++ 32 ∷ c.or_hyphen.result.now) ++ 32 ∷ c.or_hyphen-2.result.now) ++ 32 ∷ status = c.in_ok-append_spaced-4.ensures ∙ ap (λ l. l ++ 32 ∷ status) three in
    c.in_ok-push.ensures.items ∙ ap (λ l. l ++ 10 ∷ []) four
    ∙ text_written values status is (sym c.is_removed.ensures ∙ c.if-is_removed.false) c.word.result.now c.or_hyphen.result.now c.or_hyphen-2.result.now name version architecture
