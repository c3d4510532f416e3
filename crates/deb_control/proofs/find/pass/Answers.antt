use Rattle.deb_control.proofs.Common.{◌<◌, inr, length, refl, sym, ap, ◌∙◌, subst, arith, RefusedOrMemory, FileTooLong, file_limit, seen_of, fields_of, text_built, rules_of, RefusesSeen, bytes_with, canonical_entries}
use Rattle.deb_control.proofs.Building.{built-canonical}
use Rattle.deb_control.proofs.Checks.{file_limit_is}
use Rattle.deb_control.proofs.find.pass.Goals as goal

pub returns-in_default-clause-fault : goal.returns-in_default-clause-fault
returns-in_default-clause-fault g c =
    let totals = c.args.totals.now in
    let built = built-canonical c.args.doc (seen_of c.args.raw.now) c.in_ok-length.ensures.passes in
    let measured = c.in_ok-length.ensures.length ∙ ap (λ r. length (text_built r)) built in
    let long = subst (λ n. file_limit < bytes_with totals.paragraphs totals.bytes n) measured (subst (λ n. n < bytes_with totals.paragraphs totals.bytes c.in_ok-length.length) (sym file_limit_is) c.in_default.ensures.none) in
    subst (λ fault. RefusedOrMemory fault (RefusesSeen c.args.doc (seen_of c.args.raw.now) totals)) (sym c.refused.ensures)
    (inr (record { entries = canonical_entries (rules_of c.args.doc) (fields_of c.args.raw.now); built = built; long = long; is = ap (λ line. record { code = FileTooLong; line = line }) c.first_line.ensures.value }))

pub returns-clause-ok : goal.returns-clause-ok
returns-clause-ok g c =
    let totals = c.args.totals.now in
    let built = built-canonical c.args.doc (seen_of c.args.raw.now) c.in_ok-length.ensures.passes in (
      refl,
      record {
        entries = canonical_entries (rules_of c.args.doc) (fields_of c.args.raw.now);
        built = built;
        paragraphs = c.in-Some.ensures.some.0;
        bytes = c.in-Some.ensures.some.1 ∙ ap (bytes_with totals.paragraphs totals.bytes) (c.in_ok-length.ensures.length ∙ ap (λ r. length (text_built r)) built);
        within = omega (arith, c.in-Some.more.within, file_limit_is);
      },
    )
