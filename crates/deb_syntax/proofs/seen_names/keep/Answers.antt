use Rattle.deb_syntax.proofs.NameSets.{is_kept-insert}
use Rattle.deb_syntax.proofs.seen_names.keep.Goals as goal

pub returns-clause-kept : goal.returns-clause-kept
returns-clause-kept c = λ other. is_kept-insert c.args.all.now.keys c.insert.new.self.keys _ other c.in_ok-added.ensures.keys
