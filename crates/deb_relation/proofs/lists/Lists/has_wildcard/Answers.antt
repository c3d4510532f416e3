use Rattle.std.proofs.Common.{ap, sym, ◌∙◌}
use Rattle.std.specs.List.{list_any}
use Rattle.std.specs.Option.{option_map}
use Rattle.deb_base.specs.PackageNames.{is_wildcard}
use Rattle.deb_relation.specs.Tests.{list_has_wildcard}
use Rattle.deb_relation.specs.Views.{list_of, name_key}
use Rattle.deb_relation.proofs.Mapped.{any-map}
use Rattle.deb_relation.proofs.lists.Lists.has_wildcard.Goals as goal

pub returns-in-Some : goal.returns-in-Some
returns-in-Some c =
    c.some_is_wildcard.ensures ∙ ap (λ ns. list_any (λ name. is_wildcard (name_key name)) ns) c.deref.ensures.value ∙ any-map name_key is_wildcard c.in-Some.names.items ∙ ap (λ o. list_has_wildcard (option_map list_of o)) (sym c.in-Some.is)
