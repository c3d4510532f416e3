use Rattle.deb_version.proofs.Common.{◌≡◌, ap, sym, ◌∙◌, components_of}
use Rattle.std.specs.Option.{option_copied}
use Rattle.deb_version.proofs.LeadingZeros.{without_zeros}
use Rattle.deb_version.proofs.CanonicalTexts.{unwritten_epoch}
use Rattle.deb_version.proofs.CanonicalWritten.{or_zero, epoch_written, epoch_for_colon, epoch_left_out}
use Rattle.deb_version.proofs.version.Version.written_epoch.Goals as goal
use Rattle.deb_version.proofs.version.Version.written_epoch.Goals.{After-is_empty}

pub returns-in_default : goal.returns-in_default
returns-in_default c = sym (unwritten_epoch (components_of c.args.self.now) c.args.self.now.well_formed (ap option_copied c.in_default.is))

digits_left : (c : After-is_empty) → c.without_zeros-digits.result.now ≡ without_zeros (or_zero (components_of c.args.self.now).epoch)
digits_left c = c.without_zeros-digits.ensures ∙ ap (λ o. without_zeros (or_zero (option_copied o))) (sym c.in-Some.is)

pub returns-then-not-is_empty : goal.returns-then-not-is_empty
returns-then-not-is_empty c =
    let place = (goal.at.returns-then-not-is_empty c).After-is_empty in
    epoch_written (components_of c.args.self.now) c.without_zeros-digits.result.now (digits_left place) c.args.self.now.well_formed (sym c.is_empty.ensures ∙ c.if-not-is_empty.true)

pub returns-then-contains : goal.returns-then-contains
returns-then-contains c =
    let place = (goal.at.returns-then-contains c).After-is_empty in
    epoch_for_colon (components_of c.args.self.now) c.without_zeros-digits.result.now (digits_left place) (sym c.is_empty.ensures ∙ c.if-not-is_empty.false) (sym c.contains.ensures.value ∙ c.if-contains.true)

pub returns-else-contains : goal.returns-else-contains
returns-else-contains c =
    let place = (goal.at.returns-else-contains c).After-is_empty in
    epoch_left_out (components_of c.args.self.now) c.without_zeros-digits.result.now (digits_left place) (sym c.is_empty.ensures ∙ c.if-not-is_empty.false) (sym c.contains.ensures.value ∙ c.if-contains.false)
