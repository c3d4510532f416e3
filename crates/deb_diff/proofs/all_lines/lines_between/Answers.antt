-- The lines are those of what became of old paragraphs, then those of added ones.
use Rattle.std.proofs.Common.{◌≡◌, ◌++◌, map, sym, ap, ◌∙◌, subst, rules}
use Rattle.std.specs.List.{flat_map}
use Rattle.deb_diff.specs.Fates.{AreFated}
use Rattle.deb_diff.specs.Kepts.{AreKept}
use Rattle.deb_diff.specs.Lines.{fate_text}
use Rattle.deb_diff.specs.Pairings.{PairsByPlace}
use Rattle.deb_diff.specs.Pools.{pick}
use Rattle.deb_diff.proofs.Assembled.{all_text, kept-whole}
use Rattle.deb_diff.proofs.all_lines.lines_between.Goals as goal

pub returns : goal.returns
returns c = λ items others are are_new.
    let old = map (λ k. k.now) c.args.old.now in
    let found : c.deref.result.now ≡ c.in_ok-found.field-0.found.items = search rules in
    let left : c.deref-2.result.now ≡ c.in_ok-outcome.outcome.waits.items = search rules in
    let became : c.deref-3.result.now ≡ c.in_ok-outcome.outcome.became.items = search rules in
    let added : c.deref-4.result.now ≡ c.in_ok-added.added.items = search rules in
    let kept = kept-whole old items are in
    let kept_new = subst (λ l. AreKept l others) (sym c.requires) (kept-whole c.args.new.now others are_new) in
    let by_place = subst (λ f. PairsByPlace items others f c.in_ok-found.field-0.waits.items c.in_ok-outcome.outcome) found (c.in_ok-outcome.ensures.pairs items others kept kept_new) in
    all_text c.args.form c.args.new.now old (map (λ k. k.now) c.in_ok-added.added.items) items others c.in_ok-found.field-0 c.in_ok-outcome.outcome c.append_fates.new.out.items c.append_added.new.out.items are are_new
    (c.in_ok-found.ensures.pairs items others kept kept_new) by_place
    (c.in_ok-added.ensures ∙ ap (λ w. map (λ e. e.1) (pick 0 c.args.new.now w)) left)
    (λ all fated. c.in_ok-append_fates.ensures all (subst (λ b. AreFated old b c.args.new.now all) (sym became) fated) ∙ ap (λ l. l ++ flat_map (fate_text c.args.form) all) c.new-lines.ensures.items)
    (λ all are. c.in_ok-append_added.ensures all (subst (λ l. AreKept (map (λ k. k.now) l) all) (sym added) are))
