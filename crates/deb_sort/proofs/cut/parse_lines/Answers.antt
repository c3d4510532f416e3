-- The first line that is no version, or none.
use Rattle.std.proofs.Common.{◌+◌, map, drop, List, ℕ, Bor, ap, ◌∙◌, refl, drop_of_length-le}
use Rattle.std.specs.Option.{is_some}
use Rattle.std.proofs.lemmas.List.{drop_more}
use Rattle.deb_sort.specs.Refusals.{first_refusal}
use Rattle.deb_sort.specs.VersionLines.{texts_of}
use Rattle.deb_sort.proofs.Refusals.{first_passes, first_refused, texts_push}
use Rattle.deb_sort.proofs.cut.parse_lines.Goals as goal

abbrev names_of : List (Bor (List ℕ)) → List (List ℕ)
names_of texts = map (λ t. t.now) texts

pub returns-in_default-clause-fault : goal.returns-in_default-clause-fault
returns-in_default-clause-fault c =
    let texts = c.args.texts.now in
    let i = c.loop-i.i in
    c.loop-i.invariant.left ∙ ap (λ l. first_refusal (i + 1) (names_of l)) (drop_more texts i _ c.loop-i-test.true)
    ∙ first_refused (i + 1) _ (names_of (drop (i + 1) texts)) (ap is_some c.in_default.ensures.refused)

pub loop-i-preserved : goal.loop-i-preserved
loop-i-preserved c =
    let texts = c.args.texts.now in
    let i = c.loop-i.i in
    record {
      texts = ap texts_of c.in_ok-push.ensures.items ∙ texts_push c.loop-i.lines.items _ texts i _ c.loop-i-test.true c.loop-i.invariant.texts c.in-Ok.ensures.ok;
      left = c.loop-i.invariant.left ∙ ap (λ l. first_refusal (i + 1) (names_of l)) (drop_more texts i _ c.loop-i-test.true)
          ∙ first_passes (i + 1) _ (names_of (drop (i + 1) texts)) (ap is_some (c.in-Ok.ensures.faultless.0 refl));
    }

pub returns-clause-accepted : goal.returns-clause-accepted
returns-clause-accepted c =
    let texts = c.args.texts.now in
    let i = c.loop-i.i in
    c.loop-i.invariant.left ∙ ap (λ l. first_refusal (i + 1) (names_of l)) (drop_of_length-le texts c.loop-i-test.false)
