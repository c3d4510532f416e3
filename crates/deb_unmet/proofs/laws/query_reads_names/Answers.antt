use Rattle.deb_unmet.proofs.Meanings.{query_reads_names}
use Rattle.deb_unmet.proofs.laws.query_reads_names.Goals as goal

pub returns : goal.returns
returns c = query_reads_names
