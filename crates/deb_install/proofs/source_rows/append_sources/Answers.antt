use Rattle.std.proofs.Common.{take, sym, subst}
use Rattle.deb_install.specs.KeptSources.{HoldsBuild, HoldsSource}
use Rattle.deb_install.specs.SourceRows.{AppendsSources}
use Rattle.deb_install.specs.declared.kept_source.KeptSource.{KeptSource}
use Rattle.deb_install.proofs.NextOf.{all-of, next-of}
use Rattle.deb_install.proofs.UniverseRows.{no-sources, source-more}
use Rattle.deb_install.specs.Universes.{setting_of}
use Rattle.deb_install.proofs.source_rows.append_sources.Goals as goal

pub loop-count-init : goal.loop-count-init
loop-count-init c = λ kind meaning others are known. no-sources (setting_of c.args.listing.now meaning) c.args.building.now known

pub loop-count-preserved : goal.loop-count-preserved
loop-count-preserved c = λ kind meaning others are known.
    let so_far = c.loop-count.invariant kind meaning others are known in
    let s = setting_of c.args.listing.now meaning in
    let n = c.loop-count.count in
    let next = next-of (HoldsSource kind) others c.args.sources.now n c.index-sources-count.result c.loop-count-test.true c.index-sources-count.is are in
    subst (λ done. AppendsSources s done c.args.building.now c.append_source.new.building) (sym next.taken)
    (source-more s (take n others) next.x c.args.building.now c.loop-count.building c.append_source.new.building so_far (c.in_ok-append_source.ensures meaning next.x (subst (λ (source : KeptSource). HoldsBuild next.x source.build) c.index-sources-count.is next.related.build) so_far.known))

pub returns : goal.returns
returns c = λ kind meaning others are known.
    subst (λ done. AppendsSources (setting_of c.args.listing.now meaning) done c.args.building.now c.loop-count.building) (all-of (HoldsSource kind) others c.args.sources.now c.loop-count.count c.loop-count-test.false are) (c.loop-count.invariant kind meaning others are known)
