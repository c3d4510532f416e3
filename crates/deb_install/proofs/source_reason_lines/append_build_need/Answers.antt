use Rattle.std.proofs.Common.{◌≡◌, ◌++◌, Some, append-nil, length, slice_get, refl, ap, sym, ◌∙◌}
use Rattle.std.proofs.lemmas.Option.{slice_get_past, slice_get_read}
use Rattle.deb_index.proofs.Offered.{on_ok}
use Rattle.deb_relation.specs.Texts.{group_text}
use Rattle.deb_solve.specs.Health.{row}
use Rattle.deb_solve.specs.Reasons.{needed}
use Rattle.deb_install.specs.ReasonLines.{need_words}
use Rattle.deb_install.specs.SourceExplaining.{built_group, setting_for, universe_for}
use Rattle.deb_install.specs.SourceReasonLines.{source_head}
use Rattle.deb_install.proofs.BuiltGroups.{no-source-at, no-source-line, source-at, source-line}
use Rattle.deb_install.proofs.SourceFactLines.{group-at}
use Rattle.deb_install.proofs.source_reason_lines.append_build_need.Goals as goal

pub returns-in_ok-text-in-Some : goal.returns-in_ok-text-in-Some
returns-in_ok-text-in-Some c = λ kind meaning others holds.
    let explaining = c.args.explaining.now in
    let u = universe_for explaining in
    let s = setting_for explaining meaning in
    let out = c.args.out.now.items in
    let number = c.args.number in
    let all = explaining.sources.now in
    let k = c.saturating_sub.result in
    let kept = c.in-Some.source.now in
    let found = c.in-Some.ensures.lookup in
    let at : slice_get all k ≡ Some kept = slice_get_read all (length all) k kept refl found.3.0 found.1 in
    let held = source-at kind others all k kept holds.sources at in
    let met = row u.groups (needed u c.args.member c.args.at) in
    let words = need_words (group_text (built_group s others number c.args.at)) met in
    on_ok
    (λ is. is
    ∙ ap (λ l. out ++ (source_head number kept.name.items kept.version.items ++ need_words c.in_ok-text-in-Some.text.now l)) c.candidates_at-candidates.ensures
    ∙ ap (λ t. out ++ (source_head number kept.name.items kept.version.items ++ need_words t met)) (c.in_ok-text-in-Some.ensures held.values held.holds.build ∙ ap group_text (group-at s others number k c.args.at held.values held.at c.saturating_sub.ensures))
    ∙ ap (λ l. out ++ l) (source-line kind others number k kept words held c.saturating_sub.ensures))
    c.append_source_need.result c.append_source_need.ensures

pub returns-in-None : goal.returns-in-None
returns-in-None c = λ kind meaning others holds.
    let explaining = c.args.explaining.now in
    let out = c.args.out.now.items in
    let all = explaining.sources.now in
    let k = c.saturating_sub.result in
    let none = no-source-at kind others all k holds.sources (slice_get_past all k c.in-None.ensures.lookup.3) in
    sym (append-nil out) ∙ ap (λ l. out ++ l) (sym (no-source-line kind others c.args.number k _ none c.saturating_sub.ensures))
