use Rattle.std.proofs.Common.{◌==◌, rules, tests}
use Rattle.std.proofs.lemmas.Iterator.Consumers.{YieldsList-from_first}
use Rattle.std.proofs.lemmas.Iterator.Search.{find_from_yields_List}
use Rattle.deb_syntax.specs.Raw.{field_of, fields_of, fields_left}
use Rattle.deb_explain.proofs.subject.field_at.Goals as goal

pub returns : goal.returns
returns c =
    find_from_yields_List (λ field. field.line == c.args.line) c.find.new.self _ c.find.result c.find.ensures.ran
    (YieldsList-from_first field_of fields_left {s = c.fields.result} (fields_of c.args.paragraph.now) c.fields.ensures) (λ x b q k. search (rules, tests))
