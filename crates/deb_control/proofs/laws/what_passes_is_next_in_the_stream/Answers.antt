use Rattle.deb_control.proofs.StreamLaws.{passed_is_next}
use Rattle.deb_control.proofs.laws.what_passes_is_next_in_the_stream.Goals as goal

pub returns : goal.returns
returns c = passed_is_next
