use Rattle.deb_version.proofs.key.+byte_count.Given as goal

abbrev pub decreases-byte_count : goal.decreases-byte_count
decreases-byte_count l = l.count
