use Rattle.std.proofs.Common.{sym, ap, ◌∙◌}
use Rattle.std.specs.Str.{bytes_eq}
use Rattle.deb_base.specs.Docs.{documents}
use Rattle.deb_base.proofs.DocLookups.{word-passed}
use Rattle.deb_base.proofs.doc.Doc.named.Goals as goal

pub loop-doc-preserved : goal.loop-doc-preserved
loop-doc-preserved c =
    sym (word-passed documents c.args.word.now c.loop-doc.doc-index _ c.loop-doc-test.true
    (ap (λ w. bytes_eq w c.args.word.now) (sym c.word.ensures) ∙ sym c.eq.ensures ∙ c.if-eq.false))
    ∙ c.loop-doc.invariant
