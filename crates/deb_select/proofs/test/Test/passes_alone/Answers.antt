use Rattle.std.proofs.Common.{sym, ap, ◌∙◌}
use Rattle.std.specs.List.{list_any}
use Rattle.std.specs.Str.{bytes_eq}
use Rattle.deb_select.proofs.Contained.{any_map}
use Rattle.deb_select.proofs.test.Test.passes_alone.Goals as goal

pub returns-in_ok-names-in-Names : goal.returns-in_ok-names-in-Names
returns-in_ok-names-in-Names c =
    rw c.in-Names.is
    (c.is_among.ensures
    ∙ ap (λ name. list_any (λ one. bytes_eq name one.now) c.as_slice-in-Names-2.result.now) c.as_slice-in-Names.ensures.value
    ∙ ap (list_any (λ one. bytes_eq c.in-Names.name.items one.now)) c.as_slice-in-Names-2.ensures.value
    ∙ sym (any_map (λ one. one.now) (bytes_eq c.in-Names.name.items) c.in_ok-names-in-Names.names.items)
    ∙ ap (list_any (bytes_eq c.in-Names.name.items)) c.in_ok-names-in-Names.ensures)
