use Rattle.std.proofs.Common.{rules, ◌≡◌, ◌++◌, OnOk, append-nil, sym, ap, ◌∙◌, subst}
use Rattle.deb_relation.specs.Environments.{environment_of}
use Rattle.deb_unmet.specs.Asked.{fields_asked}
use Rattle.deb_unmet.specs.Fields.{environment_for, fields_lines, own_environment, own_or}
use Rattle.deb_unmet.specs.Paragraphs.{heading_in}
use Rattle.deb_unmet.specs.Scopes.{scope_of}
use Rattle.deb_unmet.proofs.ParagraphLines.{never-lines, not-may}
use Rattle.deb_unmet.proofs.lines.append_tried.Goals as goal

pub returns-then-not-may : goal.returns-then-not-may
returns-then-not-may c = λ values has.
    let paragraph = c.args.tried.now.paragraph.now in
    let environment = environment_of c.args.question.now.environment.now in
    let lines = fields_lines (environment_for paragraph.asked environment values) (scope_of c.args.question.now) in
    sym (append-nil c.args.out.now.items)
    ∙ ap (λ l. c.args.out.now.items ++ l) (sym (never-lines (environment_for paragraph.asked environment values) (scope_of c.args.question.now) (heading_in paragraph) values (fields_asked paragraph.asked)))
    ∙ ap (λ tried. c.args.out.now.items ++ lines tried (heading_in paragraph) values (fields_asked paragraph.asked)) (sym (not-may c.args.tried.now.applies (sym c.may.ensures ∙ c.if-not-may.true)))

pub returns : goal.returns
returns c = λ values has.
    let paragraph = c.args.tried.now.paragraph.now in
    let environment = environment_of c.args.question.now.environment.now in
    let own : environment_of c.own_or.result.now ≡ own_or (own_environment paragraph.asked environment paragraph.texts.now.architecture.now) environment = search rules in
    subst (λ e. OnOk c.append_fields.result (c.append_fields.new.out.items ≡ c.args.out.now.items ++ fields_lines e (scope_of c.args.question.now) c.args.tried.now.applies (heading_in paragraph) values (fields_asked paragraph.asked)))
    (own ∙ ap (λ a. own_or (own_environment paragraph.asked environment a) environment) has.architecture) (c.append_fields.ensures values has)
