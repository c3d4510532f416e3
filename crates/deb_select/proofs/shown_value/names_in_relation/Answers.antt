use Rattle.std.proofs.Common.{map, ap, ◌∙◌}
use Rattle.std.proofs.lemmas.List.{take_all}
use Rattle.deb_relation.specs.Groups.{group_of}
use Rattle.deb_select.specs.Conditions.{names_asked}
use Rattle.deb_select.proofs.Collected.{group_collected}
use Rattle.deb_select.proofs.shown_value.names_in_relation.Goals as goal

pub loop-group-preserved : goal.loop-group-preserved
loop-group-preserved c =
    group_collected (λ name. name.now) group_of c.loop-group.names.items c.push_names.new.names.items c.groups-group-items.result.now c.loop-group.group-index c.group-item.result
    c.in_ok-push_names.ensures c.loop-group-test.true c.group-item.is c.loop-group.invariant

pub returns : goal.returns
returns c =
    c.loop-group.invariant
    ∙ ap names_asked (ap (map group_of) (take_all c.loop-group.group-index c.groups-group-items.result.now c.loop-group-test.false) ∙ c.groups-group-items.ensures.value ∙ c.in-Ok.ensures)
