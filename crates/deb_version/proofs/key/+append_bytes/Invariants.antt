use Rattle.deb_version.proofs.key.+append_bytes.Given as goal

abbrev pub decreases-append_bytes : goal.decreases-append_bytes
decreases-append_bytes l = l.count
