use Rattle.std.proofs.Common.{◌++◌, [], cond, map, append-nil, refl, sym, ap, ◌∙◌}
use Rattle.deb_health.specs.Lines.{line_at}
use Rattle.deb_index.specs.Indexes.{packages_of}
use Rattle.deb_index.proofs.Offered.{on_ok}
use Rattle.deb_install.specs.Answers.{is_asked, names_in}
use Rattle.deb_install.specs.Explaining.{reason_of}
use Rattle.deb_install.specs.ReasonLines.{reason_lines}
use Rattle.deb_install.specs.Universes.{setting_of}
use Rattle.deb_install.proofs.ExplainedLines.{fact-reasons, no-lines}
use Rattle.deb_install.proofs.explaining.append_explained.Goals as goal

pub returns-in-Uninstallable : goal.returns-in-Uninstallable
returns-in-Uninstallable c = λ meaning holds.
    let explaining = c.args.explaining.now in
    let s = setting_of explaining.listing.now meaning in
    let u = explaining.universe.now in
    let packages = packages_of explaining.listing.now.index.now in
    on_ok
    (λ more. record {
      found = more.found;
      explain = more.explain;
      appended = more.appended
          ∙ ap (λ l. c.args.out.now.items ++ line_at (λ p. cond (is_asked (names_in explaining.names) p.1.name) l []) packages c.args.number)
          (sym (ap (λ a. reason_lines packages a (map (reason_of s u) more.found)) c.in-Uninstallable.is ∙ fact-reasons s u packages more.found));
    })
    c.append_if_asked.result (c.append_if_asked.ensures meaning holds)

pub returns-in_default : goal.returns-in_default
returns-in_default c = λ meaning holds.
    let explaining = c.args.explaining.now in
    let out = c.args.out.now.items in
    record {
      found = [];
      explain = λ some. absurd (some refl);
      appended = sym (append-nil out) ∙ ap (λ l. out ++ l) (sym (no-lines (names_in explaining.names) (packages_of explaining.listing.now.index.now) c.args.answer c.args.number));
    }
