use Rattle.std.proofs.Common.{ℕ, List, [], ◌++◌, Bor, get_or, append-nil, sym, ap, ◌∙◌, subst, arith, drop_of_length-le}
use Rattle.std.proofs.lemmas.List.{get_or-map, length-map}
use Rattle.deb_relation.specs.Environments.{environment_of}
use Rattle.deb_relation.specs.Views.{name_key, names_of}
use Rattle.deb_control.specs.FieldWords.{groups_of, value_under}
use Rattle.deb_unmet.specs.Fields.{field_lines, fields_lines}
use Rattle.deb_unmet.specs.Paragraphs.{HaveRelations, IsRelationText, heading_in}
use Rattle.deb_unmet.specs.Scopes.{scope_of}
use Rattle.deb_unmet.proofs.ParagraphLines.{lines-next, relation-at}
use Rattle.deb_unmet.proofs.lines.append_fields.Goals as goal

pub loop-row-init : goal.loop-row-init
loop-row-init c = λ values has.
    ap (λ fields. c.args.out.now.items ++ fields_lines (environment_of c.args.question.now.environment.now) (scope_of c.args.question.now) c.args.tried.now.applies (heading_in c.args.tried.now.paragraph.now) values fields) c.fields-fields.ensures

pub loop-row-preserved : goal.loop-row-preserved
loop-row-preserved c = λ values has.
    let none : Bor (List ℕ) = record { ref_ptr = (0, 0); now = [] } in
    let fields = c.fields-fields.result.now in
    let row = c.loop-row.row in
    let texts = names_of c.args.tried.now.paragraph.now.texts.now.relations in
    let field : List ℕ = (get_or fields row none).now in
    let line : List ℕ → List ℕ = λ name. field_lines (environment_of c.args.question.now.environment.now) (scope_of c.args.question.now) c.args.tried.now.applies (heading_in c.args.tried.now.paragraph.now) name (value_under name values) in
    let have = subst (λ names. HaveRelations names texts values) (sym c.fields-fields.ensures) has.relations in
    let relation = subst (λ name. IsRelationText (get_or texts row []) (value_under name values)) (get_or-map name_key fields row none [] c.loop-row-test.true)
    (relation-at (names_of fields) texts values row (omega (arith, length-map fields name_key, c.loop-row-test.true)) have) in
    lines-next line fields row none c.loop-row.out.items c.append_groups.new.out.items _ c.loop-row-test.true
    (c.in_ok-append_groups.ensures (groups_of (value_under field values)) relation.regular (c.relation-text.ensures ∙ relation.is)) (c.loop-row.invariant values has)

pub returns : goal.returns
returns c = λ values has.
    let lines = fields_lines (environment_of c.args.question.now.environment.now) (scope_of c.args.question.now) c.args.tried.now.applies (heading_in c.args.tried.now.paragraph.now) values in
    sym (append-nil c.loop-row.out.items) ∙ ap (λ fields. c.loop-row.out.items ++ lines (names_of fields)) (sym (drop_of_length-le c.fields-fields.result.now c.loop-row-test.false)) ∙ c.loop-row.invariant values has
