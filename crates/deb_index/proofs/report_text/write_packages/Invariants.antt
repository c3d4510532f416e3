use Rattle.std.proofs.Common.{◌≡◌}
use Rattle.deb_index.specs.ReportText.{package_line}
use Rattle.deb_index.specs.Reported.{found_left}
use Rattle.deb_index.specs.ShownVersions.{shown_by}
use Rattle.deb_index.proofs.WrittenParts.{WrittenBefore}
use Rattle.deb_index.proofs.report_text.write_packages.Given as goal

abbrev pub invariant-loop-found : goal.invariant-loop-found
invariant-loop-found g l = record {
  can : (goal.iterator-loop-found g).can_next l.found-iterator;
  finite : (goal.iterator-loop-found g).is_finite l.found-iterator;
  bytes : WrittenBefore (package_line (shown_by l.fn.versions)) (found_left l.fn.packages) (found_left l.found-iterator) (g.W.Sink.held l.initial.out) (g.W.Sink.held l.out);
  counted : g.W.Sink.failures l.out ≡ g.W.Sink.failures l.initial.out;
}
