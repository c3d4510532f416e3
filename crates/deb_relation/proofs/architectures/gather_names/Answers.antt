use Rattle.std.proofs.Common.{rules, ◌∷◌, [], Ok, ap, ◌∙◌}
use Rattle.std.proofs.lemmas.List.{map-append}
use Rattle.std.proofs.lemmas.Result.{err_from_is_err_and}
use Rattle.deb_relation.specs.Reading.{append, next_architecture}
use Rattle.deb_relation.specs.Stops.{next_of}
use Rattle.deb_relation.specs.Views.{names_of, text_behind, name_key}
use Rattle.deb_relation.proofs.Gathering.{read-more, read-last, loop-stop}
use Rattle.deb_relation.proofs.ReadLists.{step-next_architecture}
use Rattle.deb_relation.proofs.architectures.gather_names.Goals as goal

pub returns-in_err-name : goal.returns-in_err-name
returns-in_err-name c =
    let p = err_from_is_err_and c.from_residual.result c.from_residual.ensures.1 in
    loop-stop (next_architecture c.args.negated) append (step-next_architecture c.args.negated) [] c.args.text.now (names_of c.loop-names.names.items) c.loop-names.rest.now c.loop-names.invariant (next_of text_behind) _ c.from_residual.result p.0 _ p.1 p.2 c.in_err-name.ensures.value

pub loop-names-smaller : goal.loop-names-smaller
loop-names-smaller c = (step-next_architecture c.args.negated).shrinks c.loop-names.rest.now c.in-Some.name.now c.in-Some.behind.now (c.in_ok-name.ensures.value ∙ ap (λ o. Ok (next_of text_behind o)) c.in-Some.is)

pub loop-names-preserved : goal.loop-names-preserved
loop-names-preserved c =
    read-more (next_architecture c.args.negated) append (step-next_architecture c.args.negated) [] c.args.text.now (names_of c.loop-names.names.items) c.loop-names.rest.now c.loop-names.invariant c.in-Some.name.now (names_of c.push.new.self.items) c.in-Some.behind.now (c.in_ok-name.ensures.value ∙ ap (λ o. Ok (next_of text_behind o)) c.in-Some.is) (ap names_of (search rules) ∙ map-append name_key c.loop-names.names.items (c.in-Some.name ∷ []))

pub returns : goal.returns
returns c = read-last (next_architecture c.args.negated) append (step-next_architecture c.args.negated) [] c.args.text.now (names_of c.loop-names.names.items) c.loop-names.rest.now c.loop-names.invariant (search rules)
