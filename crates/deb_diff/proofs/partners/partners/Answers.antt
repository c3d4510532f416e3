use Rattle.std.proofs.Common.{◌≡◌, ◌++◌, ◌+◌, ◌∷◌, [], length, ap, ◌∙◌, rules}
use Rattle.std.proofs.lemmas.List.{length-append}
use Rattle.deb_diff.proofs.Partnered.{keys-more, pairs-push}
use Rattle.deb_diff.proofs.partners.partners.Goals as goal

pub loop-key-preserved : goal.loop-key-preserved
loop-key-preserved c =
    let more : c.push.new.self.items ≡ c.loop-key.found.items ++ c.take.result ∷ [] = search rules in
    record {
      pairs = λ items key pool.
          let so_far = c.loop-key.invariant.pairs items key pool in
          pairs-push items key _ _ _ c.args.pool.now c.loop-key.pool c.take.new.self c.loop-key.found.items c.push.new.self.items c.take.result (keys-more c.args.keys.now c.loop-key.key-index _ c.loop-key-test.true) more so_far (c.take.ensures.takes items key so_far.is_pool);
      found = ap length more ∙ length-append c.loop-key.found.items (c.take.result ∷ []) ∙ ap (λ n. n + 1) c.loop-key.invariant.found;
      waits = c.take.ensures.count ∙ c.loop-key.invariant.waits;
    }
