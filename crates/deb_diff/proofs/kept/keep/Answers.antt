-- The words are those of the paragraph, one after another.
use Rattle.std.proofs.Common.{◌≡◌, length, refl, sym, ap, ◌∙◌, rules}
use Rattle.deb_control.specs.FieldWords.{word_under}
use Rattle.deb_diff.specs.Items.{item_of}
use Rattle.deb_diff.specs.Kepts.{fields_in, marked}
use Rattle.deb_diff.specs.Spelled.{spelled_in}
use Rattle.deb_diff.proofs.KeptValues.{text_kept, words_kept}
use Rattle.deb_diff.proofs.kept.keep.Goals as goal

pub returns : goal.returns
returns c = λ values has.
    let version : c.deref.result.now ≡ c.in_ok-version.version.items = search rules in
    let first : c.deref-2.result.now ≡ c.in_ok-name.name.items = search rules in
    let second : c.deref-3.result.now ≡ c.in_ok-version.version.items = search rules in
    let mark : c.deref-4.result.now ≡ c.in_ok-marked.marked.items = search rules in
    let architecture : c.deref-5.result.now ≡ c.in_ok-architecture.architecture.items = search rules in
    let first_again : c.deref-6.result.now ≡ c.in_ok-name.name.items = search rules in
    let mark_again : c.deref-7.result.now ≡ c.in_ok-marked.marked.items = search rules in
    let version_len : c.len.result ≡ length c.in_ok-version.version.items = search rules in
    words_kept _ (item_of c.args.kind c.args.number (fields_in c.args.paragraph.now) values) c.deref-2.result.now c.deref-3.result.now c.deref-4.result.now c.deref-5.result.now
    c.in_ok-words.ensures (c.in_ok-name_len.ensures ∙ ap length (first_again ∙ sym first)) (version_len ∙ ap length (sym second)) (c.in_ok-spelled_len.ensures ∙ ap length (mark_again ∙ sym mark))
    (first ∙ c.in_ok-name.ensures values has ∙ ap (λ n. word_under n values) c.name_field.ensures) (second ∙ c.in_ok-version.ensures values has)
    (mark ∙ c.in_ok-marked.ensures ∙ ap (λ v. marked v (spelled_in (fields_in c.args.paragraph.now))) (version ∙ sym second)) (architecture ∙ c.in_ok-architecture.ensures values has)
    refl (c.in_ok-text.ensures.items ∙ c.canonical_text.ensures ∙ text_kept c.args.paragraph.now values has)
