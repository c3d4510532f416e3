use Rattle.std.proofs.Common.{◌≡◌, ◌++◌, Some, append-nil, codes, length, slice_get, refl, ap, sym, ◌∙◌}
use Rattle.std.proofs.lemmas.Option.{slice_get_past, slice_get_read}
use Rattle.deb_index.proofs.Offered.{on_ok}
use Rattle.deb_index.specs.Kept.{listed_of}
use Rattle.deb_index.specs.ReportText.{canonical_version, package_line}
use Rattle.deb_install.proofs.BuiltGroups.{no-source-at, no-source-line, source-at, source-line}
use Rattle.deb_install.proofs.source_reason_lines.append_with_package.Goals as goal

pub returns-in-Some : goal.returns-in-Some
returns-in-Some c = λ kind others holds.
    let out = c.args.out.now.items in
    let all = c.args.sources.now in
    let k = c.saturating_sub.result in
    let kept = c.in-Some.source.now in
    let found = c.in-Some.ensures.lookup in
    let at : slice_get all k ≡ Some kept = slice_get_read all (length all) k kept refl found.3.0 found.1 in
    let held = source-at kind others all k kept holds at in
    let words = codes " excludes" ++ package_line canonical_version (c.args.excluded, listed_of c.args.«package».now) in
    on_ok
    (λ is. is ∙ ap (λ l. out ++ l) (source-line kind others c.args.number k kept words held c.saturating_sub.ensures))
    c.append_source_exclusion.result c.append_source_exclusion.ensures

pub returns-in-None : goal.returns-in-None
returns-in-None c = λ kind others holds.
    let out = c.args.out.now.items in
    let all = c.args.sources.now in
    let k = c.saturating_sub.result in
    let none = no-source-at kind others all k holds (slice_get_past all k c.in-None.ensures.lookup.3) in
    sym (append-nil out) ∙ ap (λ l. out ++ l) (sym (no-source-line kind others c.args.number k _ none c.saturating_sub.ensures))
