use Rattle.deb_control.proofs.Common.{rules_of}
use Rattle.deb_control.proofs.CheckedSoFar.{is_all_of}
use Rattle.deb_control.proofs.FollowedParagraphs.{outcome-from_end}
use Rattle.deb_control.proofs.laws.an_end_behind_paragraphs_is_of_the_file.Goals as goal

pub returns : goal.returns
returns c = λ doc text before follow answer. is_all_of doc text before (outcome-from_end (rules_of doc) text before follow answer)
