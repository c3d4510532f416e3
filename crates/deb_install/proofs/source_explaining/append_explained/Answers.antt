use Rattle.std.proofs.Common.{◌++◌, [], map, append-nil, refl, sym, ap, ◌∙◌}
use Rattle.deb_index.specs.Indexes.{packages_of}
use Rattle.deb_index.proofs.Offered.{on_ok}
use Rattle.deb_install.specs.SourceExplaining.{setting_for, source_reason_of, universe_for}
use Rattle.deb_install.specs.SourceReasonLines.{source_reason_lines}
use Rattle.deb_install.proofs.ExplainedSources.{fact-lines, no-reasons}
use Rattle.deb_install.proofs.source_explaining.append_explained.Goals as goal

pub returns-in-Uninstallable : goal.returns-in-Uninstallable
returns-in-Uninstallable c = λ kind meaning others holds.
    let explaining = c.args.explaining.now in
    let s = setting_for explaining meaning in
    let u = universe_for explaining in
    on_ok
    (λ more. record {
      found = more.found;
      explain = more.explain;
      appended = more.appended
          ∙ ap (λ l. c.args.out.now.items ++ l)
          (sym (ap (λ a. source_reason_lines kind s.packages others a (map (source_reason_of s others u) more.found)) c.in-Uninstallable.is ∙ fact-lines kind s others u more.found));
    })
    c.append_reasons.result (c.append_reasons.ensures kind meaning others holds)

pub returns-in_default : goal.returns-in_default
returns-in_default c = λ kind meaning others holds.
    let explaining = c.args.explaining.now in
    let out = c.args.out.now.items in
    record {
      found = [];
      explain = λ some. absurd (some refl);
      appended = sym (append-nil out) ∙ ap (λ l. out ++ l) (sym (no-reasons kind (packages_of explaining.packages.now.listing.now.index.now) others c.args.answer));
    }
