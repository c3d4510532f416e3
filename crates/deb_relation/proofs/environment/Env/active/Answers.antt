use Rattle.std.proofs.Common.{ap, ◌∙◌}
use Rattle.std.specs.List.{list_any}
use Rattle.std.specs.Str.{bytes_eq}
use Rattle.deb_relation.specs.Targets.{bytes_of}
use Rattle.deb_relation.proofs.Mapped.{any-map}
use Rattle.deb_relation.proofs.environment.Env.active.Goals as goal

pub returns : goal.returns
returns c =
    c.some_is.ensures ∙ ap (λ ns. list_any (λ other. bytes_eq (bytes_of other) c.args.profile.now) ns) c.deref.ensures.value ∙ any-map bytes_of (λ other. bytes_eq other c.args.profile.now) c.args.self.now.profiles.items
