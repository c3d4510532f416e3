use Rattle.deb_install.proofs.known.Known.new.Goals as goal

pub returns : goal.returns
returns c = c.new.ensures.empty
