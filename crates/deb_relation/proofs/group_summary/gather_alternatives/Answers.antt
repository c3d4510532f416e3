use Rattle.std.proofs.Common.{rules, Ok, ap, ◌∙◌}
use Rattle.std.proofs.lemmas.Result.{err_from_is_err_and}
use Rattle.deb_relation.specs.Stops.{next_of}
use Rattle.deb_relation.specs.Summaries.{summary_with}
use Rattle.deb_relation.specs.SummaryViews.{told_of}
use Rattle.deb_relation.specs.Views.{alternative_of}
use Rattle.deb_relation.proofs.ReadRelation.{step-next_alternative}
use Rattle.deb_relation.proofs.SummedGroups.{summed-first, summed-more, summed-last, summed-stop}
use Rattle.deb_relation.proofs.group_summary.gather_alternatives.Goals as goal

pub loop-joined-init : goal.loop-joined-init
loop-joined-init c = rw (c.in_ok-joined.ensures, c.has_equal_bound-only_equals.ensures) (summed-first (alternative_of c.args.first.now) c.args.text.now)

pub returns-in_err-alternative : goal.returns-in_err-alternative
returns-in_err-alternative c =
    let l = c.loop-joined in
    let p = err_from_is_err_and c.from_residual-in_err-alternative.result c.from_residual-in_err-alternative.ensures.1 in
    summed-stop (alternative_of c.args.first.now) c.args.text.now (summary_with l.joined.items l.has_two l.only_equals) l.rest.now l.invariant (next_of (λ p. (alternative_of p.0, p.1.now))) (λ p. (told_of p.0, p.1.now)) c.from_residual-in_err-alternative.result p.0 _ p.1 p.2 c.in_err-alternative.ensures.value

pub loop-joined-smaller : goal.loop-joined-smaller
loop-joined-smaller c = step-next_alternative.shrinks c.loop-joined.rest.now (alternative_of c.in-Some.alternative) c.in-Some.behind.now (c.in_ok-alternative.ensures.value ∙ ap (λ o. Ok (next_of (λ p. (alternative_of p.0, p.1.now)) o)) c.in-Some.is)

pub loop-joined-preserved : goal.loop-joined-preserved
loop-joined-preserved c =
    let l = c.loop-joined in
    let a = alternative_of c.in-Some.alternative in
    let read = c.in_ok-alternative.ensures.value ∙ ap (λ o. Ok (next_of (λ p. (alternative_of p.0, p.1.now)) o)) c.in-Some.is in
    rw (c.in_ok-append_next.ensures, c.has_equal_bound-only_equals-in-Some.ensures) (summed-more (alternative_of c.args.first.now) c.args.text.now (summary_with l.joined.items l.has_two l.only_equals) l.rest.now l.invariant a c.in-Some.behind.now read)

pub loop-joined-smaller-in_ok-append_next : goal.loop-joined-smaller-in_ok-append_next
loop-joined-smaller-in_ok-append_next c = step-next_alternative.shrinks c.loop-joined.rest.now (alternative_of c.in-Some.alternative) c.in-Some.behind.now (c.in_ok-alternative.ensures.value ∙ ap (λ o. Ok (next_of (λ p. (alternative_of p.0, p.1.now)) o)) c.in-Some.is)

pub loop-joined-preserved-in_ok-append_next : goal.loop-joined-preserved-in_ok-append_next
loop-joined-preserved-in_ok-append_next c =
    let l = c.loop-joined in
    let a = alternative_of c.in-Some.alternative in
    let read = c.in_ok-alternative.ensures.value ∙ ap (λ o. Ok (next_of (λ p. (alternative_of p.0, p.1.now)) o)) c.in-Some.is in
    rw (c.in_ok-append_next.ensures, c.has_equal_bound-only_equals-in-Some.ensures) (summed-more (alternative_of c.args.first.now) c.args.text.now (summary_with l.joined.items l.has_two l.only_equals) l.rest.now l.invariant a c.in-Some.behind.now read)

pub returns : goal.returns
returns c =
    let l = c.loop-joined in
    summed-last (alternative_of c.args.first.now) c.args.text.now (summary_with l.joined.items l.has_two l.only_equals) l.rest.now l.invariant (search rules)
