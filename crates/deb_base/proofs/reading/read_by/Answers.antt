-- The pieces that came make up what was read.
use Rattle.std.proofs.Common.{rules, arith, subst, sym}
use Rattle.std.proofs.KnownBytes.{Consumes-trans}
use Rattle.std.specs.Io.KnownBytes.{Consumes}
use Rattle.deb_base.proofs.ReadTexts.{piece_takes, read_too_much}
use Rattle.deb_base.proofs.reading.read_by.Goals as goal

pub returns-clause-ok : goal.returns-clause-ok
returns-clause-ok g c =
    read_too_much c.args.most (g.R.Source.left c.args.source.now) (g.R.Source.left c.loop-piece.source) c.loop-piece.text.items c.loop-piece.invariant.bytes
    (omega (arith, c.loop-piece-test.false, c.len.ensures, c.loop-piece.text.ok.0))

pub returns-in_err-read_piece-clause-reads_at_most : goal.returns-in_err-read_piece-clause-reads_at_most
returns-in_err-read_piece-clause-reads_at_most g c =
    piece_takes c.args.most (g.R.Source.left c.args.source.now) (g.R.Source.left c.loop-piece.source) (g.R.Source.left c.read_piece.new.source) c.loop-piece.text.items c.loop-piece.invariant.bytes
    (omega (arith, c.loop-piece-test.true, c.len.ensures, c.loop-piece.text.ok.0)) c.in_err-read_piece.ensures.reads_at_most

pub loop-piece-preserved : goal.loop-piece-preserved
loop-piece-preserved g c = let t = c.in_ok-read_piece.ensures.ok in record {
  room = search rules;
  small = search rules;
  bytes =
      subst (λ read. Consumes (g.R.Source.left c.args.source.now) (g.R.Source.left c.read_piece.new.source) read) (sym t.behind)
      (Consumes-trans (g.R.Source.left c.args.source.now) (g.R.Source.left c.loop-piece.source) (g.R.Source.left c.read_piece.new.source) c.loop-piece.text.items t.piece c.loop-piece.invariant.bytes t.consumed);
  taken =
      piece_takes c.args.most (g.R.Source.left c.args.source.now) (g.R.Source.left c.loop-piece.source) (g.R.Source.left c.read_piece.new.source) c.loop-piece.text.items c.loop-piece.invariant.bytes
      (omega (arith, c.loop-piece-test.true, c.len.ensures, c.loop-piece.text.ok.0)) c.in_ok-read_piece.ensures.reads_at_most;
  counted = search rules;
}
