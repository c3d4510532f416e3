use Rattle.std.proofs.Common.{[], refl, ap, sym, ◌∙◌, subst}
use Rattle.std.specs.Ordering.{is_lt}
use Rattle.deb_relation.proofs.InPlace.{less_is}
use Rattle.deb_relation.proofs.Joining.{nil_of}
use Rattle.deb_select.proofs.RelationPieces.{WrittenSoFar, written_none, written_more, written_all, piece_shorter}
use Rattle.deb_select.proofs.json_relation.put_pieces.Goals as goal

pub loop-piece-init : goal.loop-piece-init
loop-piece-init c = (written_none c.args.text.now [] c.args.out.now.tokens, refl)

pub loop-piece-smaller : goal.loop-piece-smaller
loop-piece-smaller c = piece_shorter c.loop-piece.rest.now c.in-Some.piece.now c.in-Some.behind.now c.in-Some.ensures.pieces

pub loop-piece-preserved : goal.loop-piece-preserved
loop-piece-preserved c =
    let l = c.loop-piece in
    let less = less_is _ (ap is_lt (sym c.cmp.ensures) ∙ sym c.is_lt.ensures ∙ c.if-not-is_lt.false) in (
      written_more c.args.text.now l.rest.now l.last.now c.in-Some.piece.now c.in-Some.behind.now c.args.out.now.tokens l.out.tokens c.put_only_group.new.out.tokens l.invariant.0 c.in-Some.ensures.pieces less c.in_ok-put_only_group.ensures.tokens,
      c.in_ok-put_only_group.ensures.before ∙ l.invariant.1,
    )

pub returns-then-is_empty-clause-tokens : goal.returns-then-is_empty-clause-tokens
returns-then-is_empty-clause-tokens c =
    let l = c.loop-piece in
    let none = nil_of l.rest.now (sym c.is_empty.ensures ∙ c.if-is_empty.true) in
    written_all c.args.text.now l.last.now c.args.out.now.tokens l.out.tokens (subst (λ t. WrittenSoFar c.args.text.now t l.last.now c.args.out.now.tokens l.out.tokens) none l.invariant.0)

pub returns-then-is_empty-clause-before : goal.returns-then-is_empty-clause-before
returns-then-is_empty-clause-before c = c.loop-piece.invariant.1
