use Rattle.deb_control.proofs.Common.{IfSome, sym, subst, ◌≡◌, ◌∙◌, seen_of, rules_of, built, text_built}
use Rattle.deb_control.proofs.WrittenTexts.{passing-text}
use Rattle.deb_control.proofs.checked.Checked.accepted.Goals as goal

pub new-requires : goal.new-requires
new-requires c =
    let judged = c.in_ok-judged.judged in
    let text = subst (λ o. IfSome o (λ seen. c.args.self.now.canon.text.items ≡ text_built (built (rules_of c.args.self.now.doc) seen))) (sym c.in_ok-judged.ensures.seen) c.requires.text in
    passing-text judged.doc (seen_of judged.raw) _ judged.passes (c.as_slice.ensures.value ∙ (rw (sym c.in_ok-judged.ensures.doc) at text))
