use Rattle.std.proofs.Common.{◌≡◌, ◌+◌, ◌∷◌, [], false, true, option_map, sym, ap, ◌∙◌, length-append}
use Rattle.deb_latest.specs.Bests.{is_before_kept}
use Rattle.deb_latest.specs.Entries.{key_of_words}
use Rattle.deb_latest.specs.Reads.{IsSpelled}
use Rattle.deb_latest.specs.Winning.{is_considered}
use Rattle.deb_latest.proofs.KeptBests.{all-push, before-same, bests-more, on_ok, same-more}
use Rattle.deb_latest.proofs.latest.Latest.add.Goals as goal

pub returns-then-not-is_before-clause-entries : goal.returns-then-not-is_before-clause-entries
returns-then-not-is_before-clause-entries c = λ asked entries e has is.
    let self = c.args.self.now in
    let apart : is_considered asked.limit e ≡ false =
    sym (before-same self.limit asked.limit e has.limit is.spelled)
    ∙ sym (ap (is_before_kept (option_map (λ l. l.items) self.limit)) (c.deref.ensures.value ∙ is.version))
    ∙ sym c.is_before.ensures ∙ c.if-not-is_before.true in
    record {
      kind = has.kind;
      by = has.by;
      limit = has.limit;
      counted = ap (λ n. n + 1) has.counted ∙ sym (length-append entries (e ∷ []));
      spelled = all-push IsSpelled entries e has.spelled is.spelled;
      bests = λ key. has.bests key ∙ same-more asked.limit entries e has.spelled is.spelled key apart;
    }

pub returns-clause-entries : goal.returns-clause-entries
returns-clause-entries c = λ asked entries e has is.
    let self = c.args.self.now in
    let words = c.args.words.now in
    let considered : is_considered asked.limit e ≡ true =
    sym (before-same self.limit asked.limit e has.limit is.spelled)
    ∙ sym (ap (is_before_kept (option_map (λ l. l.items) self.limit)) (c.deref.ensures.value ∙ is.version))
    ∙ sym c.is_before.ensures ∙ c.if-not-is_before.false in
    on_ok
    (λ put. record {
      kind = has.kind;
      by = has.by;
      limit = has.limit;
      counted = ap (λ n. n + 1) has.counted ∙ sym (length-append entries (e ∷ []));
      spelled = all-push IsSpelled entries e has.spelled is.spelled;
      bests = bests-more asked.limit entries e self.bests c.put.new.bests c.deref-2.result.now c.deref-3.result.now (self.count + 1) has.spelled is.spelled has.bests considered
          (c.deref-2.ensures.value ∙ c.in_ok-key_into.ensures ∙ ap (λ by. key_of_words by words.name.items words.architecture.items) has.by ∙ is.key)
          (c.deref-3.ensures.value ∙ is.version)
          (ap (λ n. n + 1) has.counted ∙ sym is.number)
          put;
    })
    c.put.result c.put.ensures
