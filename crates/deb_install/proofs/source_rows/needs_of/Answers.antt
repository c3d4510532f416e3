use Rattle.std.proofs.Common.{codes, ◌∙◌, subst}
use Rattle.std.specs.List.{flat_map}
use Rattle.deb_relation.specs.Environments.{environment_of}
use Rattle.deb_control.specs.FieldWords.{groups_of, value_under}
use Rattle.deb_index.specs.Indexes.{packages_of}
use Rattle.deb_install.specs.Buildable.{implied_groups}
use Rattle.deb_install.specs.Known.{AppendsKnown}
use Rattle.deb_install.specs.Rows.{group_rows}
use Rattle.deb_install.proofs.BuiltRows.{built-rows, implied-regular, implied-text}
use Rattle.deb_install.proofs.source_rows.needs_of.Goals as goal

pub returns : goal.returns
returns c = λ environment values has knows.
    let needing = c.args.needing.now in
    let rows = flat_map (group_rows needing.readings (environment_of needing.environment.now) (packages_of needing.index.now)) in
    let groups = c.args.groups.now.rows in
    let one = c.append_groups.new in
    let two = c.append_groups-2.new in
    let three = c.append_groups-3.new in
    let four = c.append_groups-4.new in
    let is_one = subst (λ old. AppendsKnown needing environment groups one.groups.rows one.known old one.out.items (rows implied_groups)) c.new-needs.ensures.items
    (c.in_ok-append_groups.ensures environment knows implied_groups implied-regular implied-text) in
    let is_two = c.in_ok-append_groups-2.ensures environment is_one.knows (groups_of (value_under (codes "Build-Depends") values)) has.depends.regular (c.deref.ensures.value ∙ has.depends.is) in
    let is_three = c.in_ok-append_groups-3.ensures environment is_two.knows (groups_of (value_under (codes "Build-Depends-Arch") values)) has.depends_arch.regular (c.deref-2.ensures.value ∙ has.depends_arch.is) in
    built-rows needing environment groups one.groups.rows two.groups.rows three.groups.rows four.groups.rows one.known two.known three.known four.known one.out.items two.out.items three.out.items four.out.items _ _ _ _ is_one is_two is_three
    (c.in_ok-append_groups-4.ensures environment is_three.knows (groups_of (value_under (codes "Build-Depends-Indep") values)) has.depends_indep.regular (c.deref-3.ensures.value ∙ has.depends_indep.is))
