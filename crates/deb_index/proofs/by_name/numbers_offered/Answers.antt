-- The sort moves the numbers, and `dedup` keeps one of each.
use Rattle.std.proofs.Common.{◌≡◌, map, rules, subst, sym, ◌∙◌}
use Rattle.std.proofs.lemmas.List.Filters.{dedup_is}
use Rattle.deb_index.specs.Crowds.{AreMeeting}
use Rattle.deb_index.specs.Indexes.{number_in, packages_of}
use Rattle.deb_index.specs.Meeting.{meets_by_name}
use Rattle.deb_index.proofs.ByName.{meeting-among}
use Rattle.deb_index.proofs.Merged.{merged}
use Rattle.deb_index.proofs.by_name.numbers_offered.Goals as goal

pub returns : goal.returns
returns c = λ a meeting.
    let packages = packages_of c.args.index.now in
    let joined = c.in_ok-numbers.numbers.items in
    let are : joined ≡ map (number_in c.args.index.now) c.args.offers.now = search rules in
    dedup_is _ _ _ c.dedup.ensures.filtered
    ∙ merged joined c.sort_unstable.new.self.items (meets_by_name a) packages c.sort_unstable.ensures.permutation c.sort_unstable.ensures.sorted
    (meeting-among a packages joined (subst (AreMeeting a packages) (sym are) meeting))
