use Rattle.std.proofs.Common.{ℕ, List, codes, ◌∙◌, subst}
use Rattle.std.specs.List.{flat_map}
use Rattle.deb_relation.specs.Environments.{environment_of}
use Rattle.deb_relation.specs.Views.{names_of}
use Rattle.deb_control.specs.FieldWords.{groups_of, value_under}
use Rattle.deb_index.specs.Indexes.{packages_of}
use Rattle.deb_unmet.specs.Asked.{fields_with}
use Rattle.deb_unmet.specs.Paragraphs.{HaveRelations}
use Rattle.deb_install.specs.Known.{AppendsKnown}
use Rattle.deb_install.specs.Rows.{group_rows}
use Rattle.deb_install.proofs.NeededRows.{all-fields, first-text, none-regular, none-text, second-text, third-text}
use Rattle.deb_install.proofs.universe.needs_of.Goals as goal

pub returns : goal.returns
returns c = λ environment values has knows.
    let needing = c.args.needing.now in
    let texts = names_of c.args.texts.now.relations in
    let rows : List ℕ → List (List ℕ) = λ field. flat_map (group_rows needing.readings (environment_of needing.environment.now) (packages_of needing.index.now)) (groups_of (value_under field values)) in
    let first = first-text c.args.strength texts values has.relations in
    let second = second-text c.args.strength texts values has.relations in
    let groups = c.args.groups.now.rows in
    let one = c.append_groups.new in
    let two = c.append_groups-2.new in
    let three = c.append_groups-3.new in
    let is_one = subst (λ old. AppendsKnown needing environment groups one.groups.rows one.known old one.out.items (rows (codes "Pre-Depends"))) c.new-needs.ensures.items
    (c.in_ok-append_groups.ensures environment knows (groups_of (value_under (codes "Pre-Depends") values)) first.regular (c.relation.ensures ∙ first.is)) in
    let is_two = c.in_ok-append_groups-2.ensures environment is_one.knows (groups_of (value_under (codes "Depends") values)) second.regular (c.relation-2.ensures ∙ second.is) in
    all-fields needing environment c.args.strength rows groups one.groups.rows two.groups.rows three.groups.rows one.known two.known three.known one.out.items two.out.items three.out.items is_one is_two
    (λ e. c.in_ok-append_groups-3.ensures environment is_two.knows _ none-regular (c.recommended-recommended.ensures.none e ∙ none-text))
    (λ e.
    let third = third-text texts values (subst (λ s. HaveRelations (fields_with s) texts values) e has.relations) in
    c.in_ok-append_groups-3.ensures environment is_two.knows (groups_of (value_under (codes "Recommends") values)) third.regular (c.recommended-recommended.ensures.some e ∙ third.is))
