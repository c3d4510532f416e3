use Rattle.deb_version.proofs.KeyOrder.{keys_sort, keys_sort_spelled}
use Rattle.deb_version.proofs.laws.keys_sort_as_versions.Goals as goal

pub returns : goal.returns
returns c = record { parts_of_texts = keys_sort; spelled = keys_sort_spelled }
