use Rattle.std.proofs.Common.{◌≡◌, ◌++◌, drop}
use Rattle.deb_control.specs.ValueFiles.{ValueEntries}
use Rattle.deb_field.specs.Values.{ValueMeaning}
use Rattle.deb_relation.specs.Environments.{environment_of}
use Rattle.deb_relation.specs.Views.{names_of}
use Rattle.deb_unmet.specs.Asked.{fields_asked}
use Rattle.deb_unmet.specs.Fields.{fields_lines}
use Rattle.deb_unmet.specs.Paragraphs.{HasTextsOf, heading_in}
use Rattle.deb_unmet.specs.Scopes.{scope_of}
use Rattle.deb_unmet.proofs.lines.append_fields.Given as goal

abbrev pub invariant-loop-row : goal.invariant-loop-row
invariant-loop-row l =
    (values : ValueEntries ValueMeaning) → HasTextsOf l.tried.paragraph.now.asked l.tried.paragraph.now.texts.now values
    → l.out.items ++ fields_lines (environment_of l.question.environment.now) (scope_of l.question) l.tried.applies (heading_in l.tried.paragraph.now) values (names_of (drop l.row l.fields))
    ≡ l.initial.out.items ++ fields_lines (environment_of l.question.environment.now) (scope_of l.question) l.tried.applies (heading_in l.tried.paragraph.now) values (fields_asked l.tried.paragraph.now.asked)
