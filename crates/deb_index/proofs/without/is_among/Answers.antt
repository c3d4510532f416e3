use Rattle.std.proofs.Common.{◌∙◌}
use Rattle.std.specs.Str.{bytes_eq}
use Rattle.deb_relation.specs.Views.{name_key}
use Rattle.deb_relation.proofs.Mapped.{any-map}
use Rattle.deb_index.proofs.without.is_among.Goals as goal

pub returns : goal.returns
returns c = c.some_is.ensures ∙ any-map name_key (λ other. bytes_eq other c.args.name.now) c.args.names.now
