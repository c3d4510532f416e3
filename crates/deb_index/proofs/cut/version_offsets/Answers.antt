use Rattle.std.proofs.Common.{length, sym, ap, ◌==◌, ◌∙◌, arith}
use Rattle.std.proofs.lemmas.Bool.{false≢true}
use Rattle.deb_relation.proofs.Joining.{nil_of}
use Rattle.deb_index.proofs.VersionPlaces.{place-nothing, fault-nothing, place-short, place-other, placed, placed-none, placed-order, placed-fault}
use Rattle.deb_index.proofs.cut.version_offsets.Goals as goal

pub returns-then-is_empty-clause-offsets : goal.returns-then-is_empty-clause-offsets
returns-then-is_empty-clause-offsets c = λ a others regular behind. place-nothing a others c.args.after.now regular behind (nil_of c.args.after.now (sym c.is_empty.ensures ∙ c.if-is_empty.true))

pub returns-then-is_empty-clause-faultless : goal.returns-then-is_empty-clause-faultless
returns-then-is_empty-clause-faultless c = λ a others regular behind. fault-nothing a others c.args.after.now regular behind (nil_of c.args.after.now (sym c.is_empty.ensures ∙ c.if-is_empty.true))

pub returns-then-after-lt2-clause-offsets : goal.returns-then-after-lt2-clause-offsets
returns-then-after-lt2-clause-offsets c = λ a others regular behind.
    place-short a others c.args.after.now regular behind (λ nil. false≢true (sym c.if-is_empty.false ∙ c.is_empty.ensures ∙ ap (λ t. length t == 0) nil)) c.if-after-lt2.true

pub returns-then-open-ne1-clause-offsets : goal.returns-then-open-ne1-clause-offsets
returns-then-open-ne1-clause-offsets c = λ a others regular behind.
    place-other a others c.args.after.now regular behind (λ nil. false≢true (sym c.if-is_empty.false ∙ c.is_empty.ensures ∙ ap (λ t. length t == 0) nil)) (λ e. c.if-open-ne1.true (c.before-open.ensures.value ∙ e))

pub returns-then-close-rest-clause-offsets : goal.returns-then-close-rest-clause-offsets
returns-then-close-rest-clause-offsets c = λ a others regular behind.
    placed-none a others c.args.after.now regular behind (sym c.before-open.ensures.value ∙ c.if-open-ne1.false) c.if-after-lt2.false c.before-close.result c.before-close.ensures.value c.if-close-rest.true

pub returns-then-space-close-clause-offsets : goal.returns-then-space-close-clause-offsets
returns-then-space-close-clause-offsets c = λ a others regular behind.
    placed a others c.args.after.now regular behind (sym c.before-open.ensures.value ∙ c.if-open-ne1.false) c.if-after-lt2.false c.before-close.result c.before-close.ensures.value c.before-space.result c.before-space.ensures.value c.if-close-rest.false

pub returns-then-space-close-clause-faultless : goal.returns-then-space-close-clause-faultless
returns-then-space-close-clause-faultless c = λ a others regular behind.
    placed-fault a others c.args.after.now regular behind (sym c.before-open.ensures.value ∙ c.if-open-ne1.false) c.if-after-lt2.false c.before-close.result c.before-close.ensures.value c.before-space.result c.before-space.ensures.value

pub returns-else-space-close-clause-offsets : goal.returns-else-space-close-clause-offsets
returns-else-space-close-clause-offsets c = λ a others regular behind.
    absurd (omega (arith, c.if-space-close.false, placed-order a others c.args.after.now regular behind (sym c.before-open.ensures.value ∙ c.if-open-ne1.false) c.if-after-lt2.false c.before-close.result c.before-close.ensures.value c.before-space.result c.before-space.ensures.value))
