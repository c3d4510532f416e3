use Rattle.std.proofs.Common.{◌≡◌, ◌++◌, true, [], append-nil, refl, sym, ap, ◌∙◌}
use Rattle.deb_index.specs.Indexes.{packages_of}
use Rattle.deb_index.specs.Kept.{listed_of}
use Rattle.deb_index.proofs.Offered.{on_ok}
use Rattle.deb_install.specs.Answers.{is_asked, names_in}
use Rattle.deb_install.specs.Explaining.{fact_lines}
use Rattle.deb_install.specs.Universes.{setting_of}
use Rattle.deb_install.proofs.ExplainedLines.{asked-lines, none-lines}
use Rattle.deb_install.proofs.explaining.append_if_asked.Goals as goal

pub returns-in-Some : goal.returns-in-Some
returns-in-Some c = λ meaning holds.
    let explaining = c.args.explaining.now in
    let names = names_in explaining.names in
    let packages = packages_of explaining.listing.now.index.now in
    let p = listed_of c.in-Some.«package» in
    let lines = fact_lines (setting_of explaining.listing.now meaning) explaining.universe.now in
    let asked : is_asked names p.name ≡ true = ap (is_asked names) (sym c.name.ensures) ∙ sym c.is_asked.ensures ∙ c.if-is_asked.true in
    on_ok
    (λ more. record {
      found = more.found;
      explain = more.explain;
      appended = more.appended ∙ ap (λ l. c.args.out.now.items ++ l) (sym (asked-lines names packages c.args.number p (lines more.found) c.in-Some.ensures.listed asked));
    })
    c.append_reasons.result (c.append_reasons.ensures meaning holds)

pub returns-in_default : goal.returns-in_default
returns-in_default c = λ meaning holds.
    let explaining = c.args.explaining.now in
    let out = c.args.out.now.items in
    record {
      found = [];
      explain = λ some. absurd (some refl);
      appended = sym (append-nil out) ∙ ap (λ l. out ++ l) (sym (none-lines (names_in explaining.names) (packages_of explaining.listing.now.index.now) c.args.number));
    }
