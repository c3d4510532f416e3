-- Devices in memory (this project's own). No read of bytes in memory fails, so the count of failed
-- calls stays 0.
use Rattle.std.specs.Prelude.{◌≤◌}
use Rattle.std.proofs.Math.Dec.{lit≤}
use Rattle.deb_base.specs.Devices.{last_count}

pub none_counts_to_last : 0 ≤ last_count
none_counts_to_last = lit≤ tt
