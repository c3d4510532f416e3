use Rattle.std.proofs.Common.{sym, ap, ◌∙◌, subst}
use Rattle.std.proofs.lemmas.Result.{err_from_is_err_and}
use Rattle.std.specs.Io.KnownBytes.{Appends}
use Rattle.deb_base.specs.Devices.{AppendsFront}
use Rattle.deb_control.proofs.GivenValues.{pairwise-length}
use Rattle.deb_relation.specs.Environments.{environment_of}
use Rattle.deb_unmet.specs.Files.{is_nothing}
use Rattle.deb_install.specs.BuildFiles.{asks_buildable}
use Rattle.deb_install.specs.KeptSources.{HoldsSource}
use Rattle.deb_install.proofs.BuildFiles.{begins-buildable, file-held, stopped-building, writes-buildable}
use Rattle.deb_install.proofs.builds.write_sources.Goals as goal

pub returns-in_err-put_all-clause-stopped : goal.returns-in_err-put_all-clause-stopped
returns-in_err-put_all-clause-stopped g c = λ members index text holds sources.
    let asks = asks_buildable members index c.args.request (environment_of c.args.environment.now) in
    let file = file-held asks c.args.packages.now holds in
    let has = c.in_ok-text.ensures _ sources.meaning file.holds file.listed sources.holds in
    let p = err_from_is_err_and c.from_residual-in_err-put_all.result c.from_residual-in_err-put_all.ensures.1 in
    rw (p.1, p.2)
    (stopped-building c.in_err-put_all.field-0.0 asks text _ _ c.in_err-put_all.ensures.fault
    (begins-buildable asks text c.args.packages.now c.args.sources.now holds sources c.in_ok-text.text.items has _ _ (subst (AppendsFront _ _) c.deref.ensures.value c.in_err-put_all.ensures.written)))

pub returns-clause-ok : goal.returns-clause-ok
returns-clause-ok g c = λ members index text holds sources.
    let asks = asks_buildable members index c.args.request (environment_of c.args.environment.now) in
    let file = file-held asks c.args.packages.now holds in
    let has = c.in_ok-text.ensures _ sources.meaning file.holds file.listed sources.holds in
    writes-buildable asks text c.args.packages.now c.args.sources.now holds sources c.in_ok-text.text.items has _ _ _ (sym (pairwise-length (HoldsSource c.args.request.kind) sources.meaning c.args.sources.now sources.holds)) (subst (Appends _ _) c.deref.ensures.value c.in_ok-put_all.ensures.written)
    (c.is_nothing.ensures ∙ ap is_nothing c.deref-2.ensures.value)
