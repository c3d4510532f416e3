use Rattle.deb_syntax.proofs.Common.{◌≡◌, ◌∙◌, [], ◌++◌, length, refl, sym, ap, arith, is_blank}
use Rattle.deb_base.specs.Bodies.{paragraph_limit}
use Rattle.deb_syntax.proofs.KeptLines.{no_elements, not_blank-begins}
use Rattle.deb_syntax.proofs.line.ended_line.Goals as goal

pub returns-then-end-lt-PARAGRAPH_LIMIT : goal.returns-then-end-lt-PARAGRAPH_LIMIT
unfolding paragraph_limit
returns-then-end-lt-PARAGRAPH_LIMIT c = λ bytes d.
    let part = c.args.part.now in
    let none : bytes ≡ [] = no_elements bytes (omega (arith, d.len, c.if-dropped-eq0.true)) in
    let solid = not_blank-begins part (sym c.is_empty.ensures ∙ c.if-not-is_empty.true) (sym c.begins_with_blank.ensures ∙ c.if-not-begins_with_blank.true) in
    (ap (λ zs. is_blank (zs ++ part)) none ∙ solid, omega (arith, ap (λ zs. length (zs ++ part)) none, c.if-end-lt-PARAGRAPH_LIMIT.true), refl, refl)

pub overflow_add-kept : goal.overflow_add-kept
overflow_add-kept c = omega (arith, c.requires.len, c.with-line.ensures.len)

pub returns-then-bytes-eq0 : goal.returns-then-bytes-eq0
returns-then-bytes-eq0 c = λ bytes d.
    let w = c.with-line.ensures.describes bytes d in
    (no_elements (bytes ++ c.args.part.now) (omega (arith, w.len, c.if-bytes-eq0.true)), omega (arith, c.if-bytes-eq0.true))

pub returns-then-is_blank : goal.returns-then-is_blank
returns-then-is_blank c = λ bytes d.
    let w = c.with-line.ensures.describes bytes d in
    (sym (c.is_blank.ensures _ w) ∙ c.if-is_blank.true, omega (arith, c.if-bytes-eq0.false), omega (arith, w.len), omega arith)

pub returns-then-kept-line : goal.returns-then-kept-line
unfolding paragraph_limit
returns-then-kept-line c = λ bytes d.
    let w = c.with-line.ensures.describes bytes d in
    (sym (c.is_blank.ensures _ w) ∙ c.if-is_blank.false, omega (arith, w.len, c.if-kept-line.true), omega arith, omega arith)

pub returns-else-kept-line : goal.returns-else-kept-line
unfolding paragraph_limit
returns-else-kept-line c = λ bytes d.
    let w = c.with-line.ensures.describes bytes d in
    (sym (c.is_blank.ensures _ w) ∙ c.if-is_blank.false, omega (arith, w.len, c.if-kept-line.false), w.len, omega arith)
