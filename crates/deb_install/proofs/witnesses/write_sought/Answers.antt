use Rattle.std.proofs.Common.{sym, subst}
use Rattle.std.proofs.lemmas.Result.{err_from_is_err_and}
use Rattle.std.specs.Io.KnownBytes.{Appends}
use Rattle.deb_base.specs.Devices.{AppendsFront}
use Rattle.deb_relation.specs.Environments.{environment_of}
use Rattle.deb_index.specs.Indexes.{packages_of}
use Rattle.deb_install.specs.Installing.{asks_by}
use Rattle.deb_install.proofs.FileAnswers.{held-file}
use Rattle.deb_install.proofs.FilesSought.{begins-witness, stopped-writing, writes-witness}
use Rattle.deb_install.proofs.witnesses.write_sought.Goals as goal

pub returns-in_err-put_all-clause-stopped : goal.returns-in_err-put_all-clause-stopped
returns-in_err-put_all-clause-stopped g c = λ text lists keeps.
    let request = c.args.request.now in
    let asks = asks_by request (environment_of c.args.environment.now) in
    let packages = packages_of c.args.index.now in
    let found = c.in_ok-found.found in
    let file = held-file request.members text packages c.args.kept.now lists keeps in
    let has = c.in_ok-found.ensures _ file.holds file.listed in
    let p = err_from_is_err_and c.from_residual-in_err-put_all.result c.from_residual-in_err-put_all.ensures.1 in
    rw (p.1, p.2)
    (stopped-writing c.in_err-put_all.field-0.0 asks text _ _ c.in_err-put_all.ensures.fault
    (begins-witness asks text packages c.args.kept.now lists file found.is_found found.lines.items has _ _ (subst (AppendsFront _ _) c.deref.ensures.value c.in_err-put_all.ensures.written)))

pub returns-clause-ok : goal.returns-clause-ok
returns-clause-ok g c = λ text lists keeps.
    let request = c.args.request.now in
    let asks = asks_by request (environment_of c.args.environment.now) in
    let packages = packages_of c.args.index.now in
    let found = c.in_ok-found.found in
    let file = held-file request.members text packages c.args.kept.now lists keeps in
    let has = c.in_ok-found.ensures _ file.holds file.listed in
    writes-witness asks text packages c.args.kept.now lists file found.is_found found.lines.items has _ _ _ (sym c.len.ensures) (subst (Appends _ _) c.deref.ensures.value c.in_ok-put_all.ensures.written)
