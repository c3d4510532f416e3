use Rattle.deb_version.proofs.BadBytes.{upstream_bytes_stop, revision_bytes_stop}
use Rattle.deb_version.proofs.laws.bad_bytes_stop.Goals as goal

pub returns : goal.returns
returns c = record { upstream = upstream_bytes_stop; revision = revision_bytes_stop }
