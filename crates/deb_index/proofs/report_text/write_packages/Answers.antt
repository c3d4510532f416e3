use Rattle.std.proofs.Common.{◌∙◌}
use Rattle.std.proofs.lemmas.Result.{err_from_is_err_and}
use Rattle.deb_index.specs.ReportText.{package_line}
use Rattle.deb_index.specs.Reported.{found_left, found_of}
use Rattle.deb_index.specs.ShownVersions.{shown_by}
use Rattle.deb_index.proofs.WrittenParts.{front_written, one_written}
use Rattle.deb_index.proofs.report_text.write_packages.Goals as goal

pub loop-found-preserved : goal.loop-found-preserved
loop-found-preserved g c =
    record {
      can = tt;
      finite = tt;
      bytes = one_written (package_line (shown_by c.args.versions)) _ _ _ (found_left c.loop-found.found-iterator) (found_of c.in-Some.found) (found_left c.next.new.self) _ c.loop-found.invariant.bytes c.in-Some.ensures.steps c.in_ok-write_package.ensures.written;
      counted = c.in_ok-write_package.ensures.counts_failure ∙ c.loop-found.invariant.counted;
    }

pub returns-in_err-write_package-clause-written : goal.returns-in_err-write_package-clause-written
returns-in_err-write_package-clause-written g c =
    let p = err_from_is_err_and c.from_residual.result c.from_residual.ensures.1 in
    rw p.1 (front_written (package_line (shown_by c.args.versions)) _ _ _ (found_left c.loop-found.found-iterator) (found_of c.in-Some.found) (found_left c.next.new.self) _ c.loop-found.invariant.bytes c.in-Some.ensures.steps c.in_err-write_package.ensures.written)
