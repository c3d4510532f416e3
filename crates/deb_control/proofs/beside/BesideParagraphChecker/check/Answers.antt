use Rattle.deb_control.proofs.Common.{seen_of}
use Rattle.deb_control.proofs.SpelledAlike.{passing-has}
use Rattle.deb_control.proofs.beside.BesideParagraphChecker.check.Goals as goal

pub returns-in-Some-text_beside-clause-short : goal.returns-in-Some-text_beside-clause-short
returns-in-Some-text_beside-clause-short c = (passing-has c.args.doc (seen_of c.args.paragraph.now) c.in-Some-text_beside.text.now c.in-Some-text_beside.ensures).2
