-- What is found by version or one after another is what meets the alternative.
use Rattle.std.proofs.Common.{option_copied}
use Rattle.deb_relation.specs.Environments.{environment_of}
use Rattle.deb_relation.specs.Views.{alternative_of}
use Rattle.deb_index.specs.Indexes.{number_in, packages_of}
use Rattle.deb_index.specs.Named.{has_name, provides}
use Rattle.deb_index.proofs.Joined.{asked-among}
use Rattle.deb_index.proofs.Offered.{offered-among, on_ok}
use Rattle.deb_index.proofs.Picked.{numbers-listed}
use Rattle.deb_index.proofs.candidates.append_meeting.Goals as goal

pub returns-in-Some : goal.returns-in-Some
returns-in-Some c =
    on_ok (λ is k. offered-among (environment_of c.args.environment.now) (alternative_of c.args.alternative.now) (packages_of c.args.index.now) (number_in c.args.index.now) c.in-Some.offers.now c.in-Some.ensures (option_copied c.qualifier.result) c.qualifier.ensures c.args.numbers.now.items c.append_offering.new.numbers.items k (is k))
    c.append_offering.result c.append_offering.ensures

pub append_asked-requires : goal.append_asked-requires
append_asked-requires c = rw c.packages.ensures (numbers-listed (has_name c.name-name.result.now) (packages_of c.args.index.now))

pub append_asked-requires-2 : goal.append_asked-requires-2
append_asked-requires-2 c = rw c.providers.ensures (numbers-listed (provides c.name-name.result.now) (packages_of c.args.index.now))

pub returns : goal.returns
returns c =
    on_ok (λ is k. asked-among (environment_of c.args.environment.now) (packages_of c.args.index.now) k (alternative_of c.args.alternative.now) c.name-name.result.now c.args.numbers.now.items c.append_asked.new.numbers.items c.append_asked-2.new.numbers.items c.packages.result.now c.providers.result.now c.name-name.ensures c.packages.ensures c.providers.ensures c.in_ok-append_asked.ensures is)
    c.append_asked-2.result c.append_asked-2.ensures
