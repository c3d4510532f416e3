use Rattle.std.proofs.Common.{◌||◌, option_copied, refl, sym, ap, ◌∙◌}
use Rattle.std.specs.List.{list_any}
use Rattle.deb_relation.specs.Environments.{environment_of}
use Rattle.deb_relation.specs.Views.{alternative_of}
use Rattle.deb_index.specs.Indexes.{number_in, packages_of}
use Rattle.deb_index.specs.Meeting.{meets}
use Rattle.deb_index.specs.Named.{has_name, numbers_of, passes_at, provides}
use Rattle.deb_index.proofs.Offered.{some-offered}
use Rattle.deb_index.proofs.Picked.{numbers-listed}
use Rattle.deb_index.proofs.SomeMeets.{meets_found}
use Rattle.deb_index.proofs.index.Index.meets.Goals as goal

pub returns-in-Some : goal.returns-in-Some
returns-in-Some c = c.some_is_of.ensures ∙ some-offered (environment_of c.args.environment.now) (alternative_of c.args.alternative.now) (packages_of c.args.self.now) (number_in c.args.self.now) c.in-Some.offers.now c.in-Some.ensures (option_copied c.qualifier.result) c.qualifier.ensures

pub some_meets-requires : goal.some_meets-requires
some_meets-requires c = rw c.packages.ensures (numbers-listed (has_name c.name-name.result.now) (packages_of c.args.self.now))

pub some_meets-requires-else-some_meets : goal.some_meets-requires-else-some_meets
some_meets-requires-else-some_meets c = rw c.providers.ensures (numbers-listed (provides c.name-name.result.now) (packages_of c.args.self.now))

pub returns-then-some_meets : goal.returns-then-some_meets
returns-then-some_meets c =
    let environment = environment_of c.args.environment.now in
    let packages = packages_of c.args.self.now in
    let a = alternative_of c.args.alternative.now in
    let given = numbers_of (provides c.name-name.result.now) packages in
    c.if-some_meets.true
    ∙ ap (λ b. b || list_any (passes_at (meets environment a) packages) given) (sym c.if-some_meets.true ∙ c.some_meets.ensures)
    ∙ meets_found environment packages a c.name-name.result.now c.packages.result.now given c.name-name.ensures c.packages.ensures refl

pub returns-else-some_meets : goal.returns-else-some_meets
returns-else-some_meets c =
    let environment = environment_of c.args.environment.now in
    let packages = packages_of c.args.self.now in
    let a = alternative_of c.args.alternative.now in
    ap (λ b. b || c.some_meets-else-some_meets.result) (sym c.if-some_meets.false ∙ c.some_meets.ensures)
    ∙ ap (λ b. list_any (passes_at (meets environment a) packages) c.packages.result.now || b) c.some_meets-else-some_meets.ensures
    ∙ meets_found environment packages a c.name-name.result.now c.packages.result.now c.providers.result.now c.name-name.ensures c.packages.ensures c.providers.ensures
