use Rattle.deb_control.proofs.StreamLaws.{end_ends_stream}
use Rattle.deb_control.proofs.laws.the_end_ends_the_stream.Goals as goal

pub returns : goal.returns
returns c = end_ends_stream
