use Rattle.std.proofs.Common.{sym, ap, ◌∙◌}
use Rattle.deb_index.specs.Indexes.{packages_of}
use Rattle.deb_index.specs.Kept.{listed_of}
use Rattle.deb_install.specs.Answers.{is_asked, names_in}
use Rattle.deb_install.proofs.FilesSought.{one-more-asked}
use Rattle.deb_install.proofs.witnesses.append_if_asked.Goals as goal

pub returns-in-Some : goal.returns-in-Some
returns-in-Some c = λ asked.
    one-more-asked (names_in c.args.names.now) (packages_of c.args.index.now) c.args.out.now.items c.push_number.new.out.items c.args.number (listed_of c.in-Some.«package») c.push_number.result c.push_number.ensures asked
    (sym c.in-Some.ensures.listed)
    (ap (is_asked (names_in c.args.names.now)) (sym c.name.ensures) ∙ sym c.is_asked.ensures ∙ c.if-is_asked.true)
