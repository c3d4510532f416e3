use Rattle.std.proofs.Common.{rules, ◌≡◌, ◌++◌, List, ℕ, [], append_assoc, append-nil, codes, sym, ap, ◌∙◌}
use Rattle.std.specs.List.{flat_map}
use Rattle.deb_relation.specs.Applying.{Environment}
use Rattle.deb_relation.specs.Environments.{environment_of}
use Rattle.deb_control.specs.FieldWords.{groups_of, value_under, word_under}
use Rattle.deb_index.specs.Indexes.{packages_of}
use Rattle.deb_index.proofs.Offered.{on_ok}
use Rattle.deb_unmet.specs.Asked.{name_field}
use Rattle.deb_unmet.specs.Fields.{architecture_of, environment_for, own_environment, own_or}
use Rattle.deb_unmet.specs.Paragraphs.{heading_in}
use Rattle.deb_unmet.specs.declared.asked.Asked.TheVariants.{Packages}
use Rattle.deb_health.specs.Lines.{group_lines}
use Rattle.deb_health.proofs.lines.append_negatives.Goals as goal

pub returns : goal.returns
returns c = λ fields values has holds asked.
    let paragraph = c.args.paragraph.now in
    let out = c.args.out.now.items in
    let environment = environment_of c.args.set.now.environment.now in
    let own0 : environment_of c.own_or-environment.result.now ≡ own_or (own_environment paragraph.asked environment paragraph.texts.now.architecture.now) environment = search rules in
    let own : environment_of c.own_or-environment.result.now ≡ environment_for (Packages c.args.set.now.strength) environment values =
    own0
    ∙ ap (λ a. own_or (own_environment paragraph.asked environment a) environment) has.architecture
    ∙ ap (λ k. own_or (own_environment k environment (architecture_of k values)) environment) asked in
    let name : paragraph.texts.now.name.now ≡ word_under (codes "Package") values = has.name ∙ ap (λ k. word_under (name_field k) values) asked in
    let one : Environment → List ℕ → List ℕ → List ℕ → List ℕ = λ e t n field. flat_map (group_lines e t (packages_of c.args.set.now.index.now) n (heading_in paragraph) field) (groups_of (value_under field values)) in
    let all : Environment → List ℕ → List ℕ → List ℕ = λ e t n. out ++ (one e t n (codes "Conflicts") ++ (one e t n (codes "Breaks") ++ [])) in
    let e = environment_of c.own_or-environment.result.now in
    let t = c.native.result.now in
    let n = paragraph.texts.now.name.now in
    let first = c.in_ok-append_exclusions.ensures (groups_of (value_under (codes "Conflicts") values)) holds.conflicts.regular (c.deref.ensures.value ∙ holds.conflicts.is) in
    on_ok
    (λ second.
    second
    ∙ ap (λ o. o ++ one e t n (codes "Breaks")) first
    ∙ append_assoc out (one e t n (codes "Conflicts")) (one e t n (codes "Breaks"))
    ∙ ap (λ l. out ++ (one e t n (codes "Conflicts") ++ l)) (sym (append-nil (one e t n (codes "Breaks"))))
    ∙ ap (λ x. all x t n) own
    ∙ ap (λ x. all (environment_for (Packages c.args.set.now.strength) environment values) x n) c.native.ensures
    ∙ ap (λ x. all (environment_for (Packages c.args.set.now.strength) environment values) environment.native x) name)
    c.append_exclusions-2.result
    (c.append_exclusions-2.ensures (groups_of (value_under (codes "Breaks") values)) holds.breaks.regular (c.deref-2.ensures.value ∙ holds.breaks.is))
