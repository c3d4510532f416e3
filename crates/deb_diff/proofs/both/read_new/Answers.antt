use Rattle.std.proofs.Common.{◌≡◌, length, map, ap, ◌∙◌, subst, rules}
use Rattle.std.specs.List.{list_all}
use Rattle.deb_diff.specs.Pools.{IsPoolOf}
use Rattle.deb_diff.proofs.Boths.{length-kept, reads_new, texts-kept}
use Rattle.deb_diff.proofs.both.read_new.Goals as goal

pub returns-in-Ok-clause-ok : goal.returns-in-Ok-clause-ok
returns-in-Ok-clause-ok g c = λ text items left are.
    let texts = c.in_ok-texts.ensures ∙ texts-kept c.args.old.now items are in
    let lent : c.deref.result.now ≡ c.in_ok-texts.texts.items = search rules in
    let pool = subst (λ keys. IsPoolOf keys c.in_ok-pool.pool) (ap (map (λ k. k.now)) lent ∙ texts) c.in_ok-pool.ensures.pool in
    reads_new c.args.kind text items c.in_ok-pool.pool c.read_others.new.pool _ (ap length c.in_ok-pool.ensures.waits ∙ c.in_ok-waits.ensures.count ∙ length-kept c.args.old.now items are) (ap (list_all (λ wait. wait)) c.in_ok-pool.ensures.waits ∙ c.in_ok-waits.ensures.all) c.into_waits.ensures (c.in-Ok.ensures.ok text items left pool)
