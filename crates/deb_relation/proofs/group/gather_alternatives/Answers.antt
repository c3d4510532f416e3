use Rattle.std.proofs.Common.{rules, ◌∷◌, map, [], Ok, ap, ◌∙◌}
use Rattle.std.proofs.lemmas.List.{map-append}
use Rattle.std.proofs.lemmas.Result.{err_from_is_err_and}
use Rattle.deb_relation.specs.Reading.{append, next_alternative}
use Rattle.deb_relation.specs.Stops.{next_of}
use Rattle.deb_relation.specs.Views.{alternative_of}
use Rattle.deb_relation.proofs.Gathering.{read-more, read-last, loop-stop}
use Rattle.deb_relation.proofs.ReadRelation.{step-next_alternative}
use Rattle.deb_relation.proofs.group.gather_alternatives.Goals as goal

pub returns-in_err-alternative : goal.returns-in_err-alternative
returns-in_err-alternative c =
    let p = err_from_is_err_and c.from_residual.result c.from_residual.ensures.1 in
    loop-stop next_alternative append step-next_alternative (map alternative_of c.args.alternatives.items) c.args.text.now (map alternative_of c.loop-alternatives.alternatives.items) c.loop-alternatives.rest.now c.loop-alternatives.invariant (next_of (λ p. (alternative_of p.0, p.1.now))) _ c.from_residual.result p.0 _ p.1 p.2 c.in_err-alternative.ensures.value

pub loop-alternatives-smaller : goal.loop-alternatives-smaller
loop-alternatives-smaller c = step-next_alternative.shrinks c.loop-alternatives.rest.now (alternative_of c.in-Some.alternative) c.in-Some.behind.now (c.in_ok-alternative.ensures.value ∙ ap (λ o. Ok (next_of (λ p. (alternative_of p.0, p.1.now)) o)) c.in-Some.is)

pub loop-alternatives-preserved : goal.loop-alternatives-preserved
loop-alternatives-preserved c =
    read-more next_alternative append step-next_alternative (map alternative_of c.args.alternatives.items) c.args.text.now (map alternative_of c.loop-alternatives.alternatives.items) c.loop-alternatives.rest.now c.loop-alternatives.invariant (alternative_of c.in-Some.alternative) (map alternative_of c.push.new.self.items) c.in-Some.behind.now (c.in_ok-alternative.ensures.value ∙ ap (λ o. Ok (next_of (λ p. (alternative_of p.0, p.1.now)) o)) c.in-Some.is) (ap (map alternative_of) (search rules) ∙ map-append alternative_of c.loop-alternatives.alternatives.items (c.in-Some.alternative ∷ []))

pub returns : goal.returns
returns c = read-last next_alternative append step-next_alternative (map alternative_of c.args.alternatives.items) c.args.text.now (map alternative_of c.loop-alternatives.alternatives.items) c.loop-alternatives.rest.now c.loop-alternatives.invariant (search rules)
