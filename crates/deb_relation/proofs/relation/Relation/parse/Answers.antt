use Rattle.std.proofs.Common.{map}
use Rattle.deb_relation.specs.Groups.{group_of}
use Rattle.deb_relation.proofs.Parsed.{parsed, parsed_same, not_parsed, read_back}
use Rattle.deb_relation.proofs.relation.Relation.parse.Goals as goal

pub returns-in-Ok-text_of-clause-ok : goal.returns-in-Ok-text_of-clause-ok
returns-in-Ok-text_of-clause-ok c = parsed c.args.text.now (map group_of c.in-Ok.groups.items) c.in-Ok.field-0-1.now c.in-Ok.ensures

pub returns-in-Ok-text_of-clause-accepted : goal.returns-in-Ok-text_of-clause-accepted
returns-in-Ok-text_of-clause-accepted c = parsed_same c.args.text.now (map group_of c.in-Ok.groups.items) c.in-Ok.field-0-1.now c.in-Ok.ensures

pub returns-clause-accepted : goal.returns-clause-accepted
returns-clause-accepted c = not_parsed c.args.text.now c.in-Err-Bad.reason c.in-Err-Bad.left (rw c.in-Err-Bad.field-0-is at c.in-Err-Bad.ensures)

pub invariant_of-result-clause-spelled : goal.invariant_of-result-clause-spelled
invariant_of-result-clause-spelled c = read_back c.args.text.now (map group_of c.in-Ok.groups.items) c.in-Ok.field-0-1.now c.in-Ok.ensures
