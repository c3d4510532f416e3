use Rattle.deb_control.proofs.Common.{IsTrue, subst, seen_of, is_passing}
use Rattle.deb_control.proofs.SpelledAlike.{alike-passes}
use Rattle.deb_control.proofs.checked_text.CheckedText.text_beside.Goals as goal

pub returns-then-is_like : goal.returns-then-is_like
returns-then-is_like c =
    let own = c.args.self.now in
    let like = c.is_like.ensures c.if-is_like.true in
    alike-passes c.args.doc (seen_of c.args.paragraph.now) (seen_of own.view.raw) own.canonical.now like.1 (subst (λ doc. IsTrue (is_passing doc (seen_of own.view.raw) own.canonical.now)) like.0 own.passes)
