use Rattle.std.proofs.Common.{length}
use Rattle.debctl_ffi.proofs.run_scan.RunScan.count.Given as goal

abbrev pub decreases-loop-length : goal.decreases-loop-length
decreases-loop-length l = length l.rest
