use Rattle.std.proofs.Common.{refl, sym, subst}
use Rattle.deb_control.specs.Pairs.{Pairwise}
use Rattle.deb_relation.specs.Environments.{environment_of}
use Rattle.deb_index.specs.Indexes.{packages_of}
use Rattle.deb_install.specs.BuildFiles.{build_terms}
use Rattle.deb_install.specs.Keeping.{HoldsValues}
use Rattle.deb_install.specs.SourceExplaining.{HasSourceReasons}
use Rattle.deb_install.proofs.FileAnswers.{if-value}
use Rattle.deb_install.proofs.ReasonedSources.{has-source-answers}
use Rattle.deb_install.proofs.builds.text_of_sources.Goals as goal

pub returns : goal.returns
returns c = λ meaning others holds lists sources.
    let request = c.args.request in
    let kind = request.kind in
    let t = build_terms request in
    let environment = environment_of c.args.environment.now in
    let packages = packages_of c.args.packages.now.index in
    let every = c.in_ok-every.every.items in
    if-value _ _
    (λ text has. has-source-answers kind t environment packages meaning others every text.items request.reasons
    (c.in_ok-every.ensures kind meaning others (subst (Pairwise HoldsValues meaning) (sym c.deref.ensures.value) holds) lists sources)
    (subst (λ v. HasSourceReasons request.reasons kind t environment packages meaning others v text.items) c.deref-3.ensures.value has))
    c.source_lines_by.result (c.source_lines_by.ensures kind meaning others (subst (Pairwise HoldsValues meaning) (sym c.deref-2.ensures.value) holds) lists sources refl)
