use Rattle.std.proofs.Common.{refl, ◌∙◌}
use Rattle.std.proofs.lemmas.Result.{on_ok_weaker}
use Rattle.deb_select.proofs.GroupChunks.{chunks_none, chunks_more, chunks_all, chunk_shorter}
use Rattle.deb_select.proofs.json_relation.put_chunks.Goals as goal

pub loop-chunk-init : goal.loop-chunk-init
loop-chunk-init c = (chunks_none c.args.piece.now c.args.out.now.tokens, refl)

pub loop-chunk-smaller : goal.loop-chunk-smaller
loop-chunk-smaller c = chunk_shorter c.loop-chunk.rest.now c.in-Some.chunk.now c.in-Some.behind.now c.in-Some.ensures

pub loop-chunk-preserved : goal.loop-chunk-preserved
loop-chunk-preserved c =
    let l = c.loop-chunk in (
      chunks_more c.args.piece.now l.rest.now c.in-Some.chunk.now c.in-Some.behind.now c.args.out.now.tokens l.out.tokens c.put_chunk.new.out.tokens l.invariant.0 c.in-Some.ensures c.in_ok-put_chunk.ensures.tokens,
      c.in_ok-put_chunk.ensures.before ∙ l.invariant.1,
    )

pub returns-clause-tokens : goal.returns-clause-tokens
returns-clause-tokens c =
    let l = c.loop-chunk in
    on_ok_weaker c.put_chunk-2.result
    (chunks_all c.args.piece.now l.rest.now c.args.out.now.tokens l.out.tokens c.put_chunk-2.new.out.tokens l.invariant.0)
    c.put_chunk-2.ensures.tokens
