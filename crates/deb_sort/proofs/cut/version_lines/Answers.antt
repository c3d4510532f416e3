-- A text that isn't too long is judged by its lines.
use Rattle.std.proofs.Common.{◌≡◌, ◌≤◌, ℕ, List, Bor, Some, None, map, length, sym, ap, ◌∙◌, subst, IfOk, IfErr, arith, length-take-le}
use Rattle.deb_base.specs.Bodies.{file_limit}
use Rattle.deb_base.specs.Faults.{RefusedOrMemory}
use Rattle.deb_base.specs.declared.code.Code.TheVariants.{FileTooLong}
use Rattle.deb_sort.specs.Refusals.{first_refusal, refusal_of}
use Rattle.deb_sort.proofs.Refusals.{beyond, within}
use Rattle.deb_syntax.specs.Lines.{lines_of}
use Rattle.deb_sort.proofs.cut.version_lines.Goals as goal

pub slice_bounds-count_pieces-end : goal.slice_bounds-count_pieces-end
slice_bounds-count_pieces-end c = sym (length-take-le 4294967295 c.args.text.now (omega (arith, c.if-text-gt-FILE_LIMIT.true)))

pub returns-then-text-gt-FILE_LIMIT-clause-fault : goal.returns-then-text-gt-FILE_LIMIT-clause-fault
unfolding file_limit
returns-then-text-gt-FILE_LIMIT-clause-fault c =
    beyond c.args.text.now c.if-text-gt-FILE_LIMIT.true ∙ ap (λ n. Some (record { code = FileTooLong; line = n })) (sym c.count_pieces.ensures)

judged_by_lines : (text : List ℕ) (texts items : List (Bor (List ℕ))) → length text ≤ 4294967295 → texts ≡ items → map (λ (l : Bor (List ℕ)). l.now) items ≡ lines_of text
    → first_refusal 1 (map (λ (l : Bor (List ℕ)). l.now) texts) ≡ refusal_of text
unfolding file_limit
judged_by_lines text texts items short same cut = ap (λ ts. first_refusal 1 (map (λ (l : Bor (List ℕ)). l.now) ts)) same ∙ ap (first_refusal 1) cut ∙ sym (within text short)

pub returns-clause-accepted : goal.returns-clause-accepted
returns-clause-accepted c =
    subst (λ told. IfOk c.parse_lines.result (λ _. told ≡ None))
    (judged_by_lines c.args.text.now c.as_slice.result.now c.in_ok-texts.texts.items c.if-text-gt-FILE_LIMIT.false c.as_slice.ensures.value c.in_ok-texts.ensures) c.parse_lines.ensures.accepted

pub returns-clause-fault : goal.returns-clause-fault
returns-clause-fault c =
    subst (λ told. IfErr c.parse_lines.result (λ fault. RefusedOrMemory fault (λ refusal. told ≡ Some refusal)))
    (judged_by_lines c.args.text.now c.as_slice.result.now c.in_ok-texts.texts.items c.if-text-gt-FILE_LIMIT.false c.as_slice.ensures.value c.in_ok-texts.ensures) c.parse_lines.ensures.fault
