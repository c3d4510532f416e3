use Rattle.std.proofs.Common.{[], map, string_bytes, subst}
use Rattle.std.proofs.lemmas.List.{take_all}
use Rattle.std.proofs.lemmas.Result.{err_from_is_err_and}
use Rattle.debctl_commands.proofs.KeyLines.{KeysSoFar, keys_fault, keys_push}
use Rattle.debctl_commands.proofs.version_jobs.key_lines.Goals as goal

pub loop-version-init : goal.loop-version-init
loop-version-init c = ([], tt, c.new-lines.ensures.items)

pub returns-in_err-line : goal.returns-in_err-line
returns-in_err-line c =
    let p = err_from_is_err_and c.from_residual.result c.from_residual.ensures.1 in
    rw (p.1, p.2) (keys_fault c.args.versions.now c.loop-version.version-index c.version-item.result c.as_str.result.now _ c.loop-version-test.true c.version-item.is c.as_str.ensures.value c.in_err-line.ensures)

pub loop-version-preserved : goal.loop-version-preserved
loop-version-preserved c =
    keys_push c.args.versions.now c.loop-version.version-index c.version-item.result c.as_str.result.now c.loop-version.lines.items c.as_bytes.result.now c.extend_from_slice.new.self.items
    c.loop-version-test.true c.version-item.is c.as_str.ensures.value c.loop-version.invariant (rw c.as_bytes.ensures.value c.in_ok-line.ensures) c.in_ok-extend_from_slice.ensures.items

pub returns : goal.returns
returns c =
    subst (λ texts. KeysSoFar (map string_bytes texts) c.loop-version.lines.items) (take_all c.loop-version.version-index c.args.versions.now c.loop-version-test.false) c.loop-version.invariant
