use Rattle.deb_index.specs.Indexes.{packages_of}
use Rattle.deb_install.specs.Answers.{names_in}
use Rattle.deb_install.specs.Seeking.{AreAsked}
use Rattle.deb_install.proofs.witnesses.numbers_asked.Given as goal

abbrev pub invariant-loop-count : goal.invariant-loop-count
invariant-loop-count l = AreAsked (names_in l.names) (packages_of l.index) l.wanted.items
