use Rattle.std.proofs.Common.{sym, ap, ◌∙◌, subst}
use Rattle.std.proofs.lemmas.Result.{err_from_is_err_and}
use Rattle.std.specs.Io.KnownBytes.{Appends}
use Rattle.deb_base.specs.Devices.{AppendsFront}
use Rattle.deb_relation.specs.Environments.{environment_of}
use Rattle.deb_index.specs.Indexes.{packages_of}
use Rattle.deb_unmet.specs.Files.{is_nothing}
use Rattle.deb_install.specs.Installing.{asks_by}
use Rattle.deb_install.proofs.FileAnswers.{begins-answers, held-file, stopped-writing, writes-answers}
use Rattle.deb_install.proofs.verdicts.write_answers.Goals as goal

pub returns-in_err-put_all-clause-stopped : goal.returns-in_err-put_all-clause-stopped
returns-in_err-put_all-clause-stopped g c = λ text lists keeps.
    let request = c.args.request.now in
    let asks = asks_by request (environment_of c.args.environment.now) in
    let packages = packages_of c.args.index.now in
    let file = held-file request.members text packages c.args.kept.now lists keeps in
    let has = c.in_ok-text.ensures _ file.holds file.listed in
    let p = err_from_is_err_and c.from_residual-in_err-put_all.result c.from_residual-in_err-put_all.ensures.1 in
    rw (p.1, p.2)
    (stopped-writing c.in_err-put_all.field-0.0 asks text _ _ c.in_err-put_all.ensures.fault
    (begins-answers asks text packages c.args.kept.now lists file c.in_ok-text.text.items has _ _ (subst (AppendsFront _ _) c.deref.ensures.value c.in_err-put_all.ensures.written)))

pub returns-clause-ok : goal.returns-clause-ok
returns-clause-ok g c = λ text lists keeps.
    let request = c.args.request.now in
    let asks = asks_by request (environment_of c.args.environment.now) in
    let packages = packages_of c.args.index.now in
    let file = held-file request.members text packages c.args.kept.now lists keeps in
    let has = c.in_ok-text.ensures _ file.holds file.listed in
    writes-answers asks text packages c.args.kept.now lists file c.in_ok-text.text.items has _ _ _ (sym c.len.ensures) (subst (Appends _ _) c.deref.ensures.value c.in_ok-put_all.ensures.written)
    (c.is_nothing.ensures ∙ ap is_nothing c.deref-2.ensures.value)
