use Rattle.std.proofs.Common.{◌++◌, map, sym, ap, ◌∙◌, append-nil}
use Rattle.std.proofs.lemmas.List.{take_all}
use Rattle.deb_relation.specs.Views.{alternative_of}
use Rattle.deb_select.proofs.Collected.{one_collected}
use Rattle.deb_select.proofs.shown_value.push_names.Goals as goal

pub loop-alternative-init : goal.loop-alternative-init
loop-alternative-init c = sym (append-nil (map (λ name. name.now) c.args.names.now.items))

pub loop-alternative-preserved : goal.loop-alternative-preserved
loop-alternative-preserved c =
    one_collected (λ name. name.now) (λ alternative. alternative.name) alternative_of c.args.names.now.items c.loop-alternative.names.items c.push.new.self.items c.name.result c.alternatives-alternative-items.result.now c.loop-alternative.alternative-index c.alternative-item.result
    c.in_ok-push.ensures.items c.name.ensures c.loop-alternative-test.true c.alternative-item.is c.loop-alternative.invariant

pub returns : goal.returns
returns c =
    c.loop-alternative.invariant
    ∙ ap (λ l. map (λ name. name.now) c.args.names.now.items ++ map (λ alternative. alternative.name) l)
    (ap (map alternative_of) (take_all c.loop-alternative.alternative-index c.alternatives-alternative-items.result.now c.loop-alternative-test.false) ∙ c.alternatives-alternative-items.ensures)
