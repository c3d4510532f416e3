use Rattle.deb_syntax.proofs.Common.{row_count, not, refl, sym, ap, subst, ◌∙◌, ◌<◌, ltb-true, ◌==◌, ◌||◌, false, get_or, known_row}
use Rattle.deb_syntax.proofs.NameIds.{KeepsNext-known, has_stood-row}
use Rattle.deb_syntax.proofs.seen_names.add.Goals as goal

pub returns-then-is_known-clause-new : goal.returns-then-is_known-clause-new
returns-then-is_known-clause-new c =
    let text = c.args.text.now in
    let spans = c.args.spans.now in
    let row = c.row.ensures ∙ c.requires.id in
    let within = subst (λ n. n < row_count) c.requires.id (ltb-true _ _ (sym c.is_known.ensures ∙ c.if-is_known.true)) in
    c.add_known.ensures.new
    ∙ ap not (ap (λ n. get_or c.args.names.now.known n false) row ∙ c.requires.keeps.known (known_row c.args.name.now) within ∙ sym (has_stood-row text c.args.name.now spans c.requires.within within))

pub returns-then-is_known-clause-keeps : goal.returns-then-is_known-clause-keeps
returns-then-is_known-clause-keeps c = λ new.
    let row = c.row.ensures ∙ c.requires.id in
    let within = subst (λ n. n < row_count) c.requires.id (ltb-true _ _ (sym c.is_known.ensures ∙ c.if-is_known.true)) in
    KeepsNext-known c.args.text.now c.args.name.now c.args.spans.now c.args.names.now (record { known = c.add_known.new.known; all = c.args.names.now.all }) c.requires.keeps within refl
    (λ k. c.add_known.ensures.known k ∙ ap (λ n. get_or c.args.names.now.known k false || (k == n)) row)
