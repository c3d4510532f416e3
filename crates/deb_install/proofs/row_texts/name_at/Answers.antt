use Rattle.std.proofs.Common.{length, refl, sym, subst}
use Rattle.std.proofs.lemmas.Option.{slice_get_past, slice_get_read}
use Rattle.deb_install.specs.Explaining.{HasWords}
use Rattle.deb_install.specs.declared.row_texts.RowText.TheVariants as texts
use Rattle.deb_install.proofs.RowTexts.{name-words, no-name}
use Rattle.deb_install.proofs.row_texts.name_at.Goals as goal

pub returns-in-Some : goal.returns-in-Some
returns-in-Some c =
    let names = c.args.names.now in
    let found = c.in-Some.ensures.lookup in
    name-words names c.args.at c.in-Some.name.now (slice_get_read names (length names) c.args.at c.in-Some.name.now refl found.3.0 found.1)

pub returns-in-None : goal.returns-in-None
returns-in-None c =
    let names = c.args.names.now in
    subst (λ r. HasWords r texts.LeftOut) (sym (no-name names c.args.at (slice_get_past names c.args.at c.in-None.ensures.lookup.3))) (λ candidates. refl)
