use Rattle.deb_control.proofs.Common.{Ok, sym, ap, ◌∙◌, arith, length, seen_of}
use Rattle.deb_control.proofs.WrittenTexts.{built-written}
use Rattle.deb_control.proofs.canon_text.CanonTextParagraphChecker.check.Goals as goal

pub returns-then-len-le-PARAGRAPH_LIMIT-clause-passes : goal.returns-then-len-le-PARAGRAPH_LIMIT-clause-passes
returns-then-len-le-PARAGRAPH_LIMIT-clause-passes c =
    let good = c.in_ok-write.was ∙ ap Ok c.if-branch.true in
    (built-written c.args.doc (seen_of c.args.paragraph.now) c.write.new.self.text.items (c.write.ensures.good good) (c.write.ensures.text good) (sym c.has_required.ensures ∙ c.if-has_required.true) (omega (arith, c.len.ensures, c.if-len-le-PARAGRAPH_LIMIT.true))).0

pub returns-then-len-le-PARAGRAPH_LIMIT-clause-keeps : goal.returns-then-len-le-PARAGRAPH_LIMIT-clause-keeps
returns-then-len-le-PARAGRAPH_LIMIT-clause-keeps c =
    let good = c.in_ok-write.was ∙ ap Ok c.if-branch.true in
    (built-written c.args.doc (seen_of c.args.paragraph.now) c.write.new.self.text.items (c.write.ensures.good good) (c.write.ensures.text good) (sym c.has_required.ensures ∙ c.if-has_required.true) (omega (arith, c.len.ensures, c.if-len-le-PARAGRAPH_LIMIT.true))).1

pub returns-then-len-le-PARAGRAPH_LIMIT-clause-length : goal.returns-then-len-le-PARAGRAPH_LIMIT-clause-length
returns-then-len-le-PARAGRAPH_LIMIT-clause-length c = omega (arith, c.len-then-len-le-PARAGRAPH_LIMIT.ensures, c.write.new.self.text.ok.0, ap length (returns-then-len-le-PARAGRAPH_LIMIT-clause-keeps c))
