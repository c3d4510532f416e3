use Rattle.deb_version.proofs.Common.{◌++◌, ◌/◌, ◌%◌, [], ◌∷◌, ◌∙◌, ap, sym, arith, append_assoc}
use Rattle.std.specs.Int.Digits.{digits_of}
use Rattle.std.proofs.lemmas.Int.Digits.{digits_of_step}
use Rattle.deb_version.proofs.key.+append_bytes.Goals as goal

pub returns-clause-ok : goal.returns-clause-ok
returns-clause-ok t c =
    let n = c.args.count in
    c.in_ok-push.ensures.items ∙ ap (λ l. l ++ (n % 256 ∷ [])) c.in_ok-append_bytes.ensures.ok
    ∙ append_assoc c.args.out.now.items (digits_of 256 (n / 256)) (n % 256 ∷ [])
    ∙ ap (λ l. c.args.out.now.items ++ l) (sym (digits_of_step 256 n (omega arith) (omega (arith, c.if-count-eq0.false))))
