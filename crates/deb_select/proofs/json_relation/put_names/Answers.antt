use Rattle.std.proofs.Common.{◌++◌, map, ap, ◌∙◌}
use Rattle.std.proofs.lemmas.List.{take_all}
use Rattle.std.specs.List.{flat_map}
use Rattle.deb_relation.specs.Texts.{signed_text}
use Rattle.deb_select.specs.JsonTokens.{text_tokens}
use Rattle.deb_select.proofs.Pushed.{map-fused}
use Rattle.deb_select.proofs.json_relation.put_names.Goals as goal

pub returns-clause-tokens : goal.returns-clause-tokens
returns-clause-tokens c =
    c.loop-name.invariant.0
    ∙ ap (λ l. c.args.out.now.tokens ++ flat_map text_tokens l)
    (ap (map (λ name. signed_text c.args.negated name.now)) (take_all c.loop-name.name-index c.args.names.now c.loop-name-test.false) ∙ map-fused (signed_text c.args.negated) (λ name. name.now) c.args.names.now)
