use Rattle.std.proofs.Common.{◌≡◌, ℕ, Option, Some, None, true, false, is_none, subst, sym, ◌∙◌, rules, ◌++◌, ◌∷◌, [], refl}
use Rattle.deb_diff.specs.Items.{item_of, whole}
use Rattle.deb_diff.specs.Kepts.{fields_in}
use Rattle.deb_diff.specs.Pools.{Takes}
use Rattle.deb_diff.specs.Sifting.{Sifts}
use Rattle.deb_diff.proofs.KeptValues.{text_kept}
use Rattle.deb_diff.proofs.Sifted.{sifts-kept, sifts-some}
use Rattle.deb_diff.proofs.reading.sift.Goals as goal

none_is : (o : Option ℕ) → is_none o ≡ true → o ≡ None
none_is None e = refl
none_is (Some x) e = cc e

pub returns-in_ok-push-clause-sifts : goal.returns-in_ok-push-clause-sifts
returns-in_ok-push-clause-sifts c = λ values others has pool.
    let text = c.canonical_text.ensures ∙ text_kept c.args.paragraph.now values has in
    let takes = c.take.ensures.takes others whole pool in
    let is : is_none c.take.result ≡ true = search rules in
    let none : c.take.result ≡ None = none_is c.take.result is in
    let items : c.push.new.self.items ≡ c.args.kept.now.items ++ c.in_ok-keep.field-0 ∷ [] = search rules in
    subst (Sifts (item_of c.args.kind c.args.number (fields_in c.args.paragraph.now) values) others c.args.pool.now c.take.new.self c.args.kept.now.items) (sym items)
    (sifts-kept (item_of c.args.kind c.args.number (fields_in c.args.paragraph.now) values) others c.args.pool.now c.take.new.self c.canonical_text.result.now c.args.kept.now.items c.in_ok-keep.field-0 text (subst (λ o. Takes others whole c.canonical_text.result.now c.args.pool.now o c.take.new.self) none takes) (c.in_ok-keep.ensures values has))

pub returns-else-is_none-clause-sifts : goal.returns-else-is_none-clause-sifts
returns-else-is_none-clause-sifts c = λ values others has pool.
    let text = c.canonical_text.ensures ∙ text_kept c.args.paragraph.now values has in
    let is : is_none c.take.result ≡ false = search rules in
    sifts-some (item_of c.args.kind c.args.number (fields_in c.args.paragraph.now) values) others c.args.pool.now c.take.new.self c.canonical_text.result.now c.take.result c.args.kept.now.items text is (c.take.ensures.takes others whole pool)
