use Rattle.std.proofs.Common.{◌≡◌, ◌++◌, append-nil, sym, ◌∙◌}
use Rattle.std.specs.List.{flat_map}
use Rattle.deb_relation.specs.Environments.{environment_of}
use Rattle.deb_index.proofs.TextPieces.{groups_all, groups_more, groups_none, lines_more}
use Rattle.deb_unmet.specs.Paragraphs.{heading_in}
use Rattle.deb_unmet.specs.Scopes.{scope_of}
use Rattle.deb_unmet.specs.Troubles.{group_lines}
use Rattle.deb_unmet.proofs.group.append_groups.Goals as goal

pub loop-rest-init : goal.loop-rest-init
loop-rest-init c = λ m regular is.
    let lines = group_lines (environment_of c.args.question.now.environment.now) (scope_of c.args.question.now) c.args.tried.now.applies (heading_in c.args.tried.now.paragraph.now) c.args.field.now in
    groups_none (λ done. c.args.out.now.items ≡ c.args.out.now.items ++ flat_map lines done) m c.args.text.now regular is (sym (append-nil c.args.out.now.items))

pub loop-rest-preserved : goal.loop-rest-preserved
loop-rest-preserved c = λ m regular is.
    let lines = group_lines (environment_of c.args.question.now.environment.now) (scope_of c.args.question.now) c.args.tried.now.applies (heading_in c.args.tried.now.paragraph.now) c.args.field.now in
    groups_more (λ done. c.loop-rest.out.items ≡ c.args.out.now.items ++ flat_map lines done) (λ done. c.append_group.new.out.items ≡ c.args.out.now.items ++ flat_map lines done) m c.loop-rest.rest.now c.cut_group.result.1.now (c.loop-rest.invariant m regular is) (sym c.is_empty.ensures ∙ c.loop-rest-test.true) c.cut_group.ensures.others
    (λ g gs done good text so_far. lines_more lines done g c.args.out.now.items c.loop-rest.out.items c.append_group.new.out.items so_far (c.in_ok-append_group.ensures g good (c.cut_group.ensures.first g gs good text)))

pub returns : goal.returns
returns c = λ m regular is.
    let lines = group_lines (environment_of c.args.question.now.environment.now) (scope_of c.args.question.now) c.args.tried.now.applies (heading_in c.args.tried.now.paragraph.now) c.args.field.now in
    groups_all (λ done. c.loop-rest.out.items ≡ c.args.out.now.items ++ flat_map lines done) m c.loop-rest.rest.now (c.loop-rest.invariant m regular is) (sym c.is_empty.ensures ∙ c.loop-rest-test.false)
