use Rattle.std.proofs.Common.{◌<◌, ◌≤◌, length, rules}
use Rattle.debctl_commands.proofs.RelationFiles.{is_long, is_read, no_more}
use Rattle.debctl_commands.proofs.query_from.read_relation.Goals as goal

pub returns-in_err-text-clause-reads_at_most : goal.returns-in_err-text-clause-reads_at_most
returns-in_err-text-clause-reads_at_most g c = λ text known.
    no_more text (g.R.Source.left c.read_text.new.source) (c.in_err-text.ensures.reads_at_most text known)

pub returns-then-len-gt-PARAGRAPH_LIMIT-clause-fault : goal.returns-then-len-gt-PARAGRAPH_LIMIT-clause-fault
returns-then-len-gt-PARAGRAPH_LIMIT-clause-fault g c =
    let long : 16777216 < length c.in_ok-text.text.items = search rules in
    is_long (g.R.Source.left c.args.first.now) c.in_ok-text.text.items long c.in_ok-text.ensures.ok

pub returns-then-len-gt-PARAGRAPH_LIMIT-clause-reads_at_most : goal.returns-then-len-gt-PARAGRAPH_LIMIT-clause-reads_at_most
returns-then-len-gt-PARAGRAPH_LIMIT-clause-reads_at_most g c = λ text known.
    no_more text (g.R.Source.left c.read_text.new.source) (c.in_ok-text.ensures.reads_at_most text known)

pub returns-clause-ok : goal.returns-clause-ok
returns-clause-ok g c =
    let short : length c.in_ok-text.text.items ≤ 16777216 = search rules in
    is_read (g.R.Source.left c.args.first.now) c.in_ok-text.text.items short c.in_ok-text.ensures.ok

pub returns-clause-reads_at_most : goal.returns-clause-reads_at_most
returns-clause-reads_at_most g c = λ text known.
    no_more text (g.R.Source.left c.read_text.new.source) (c.in_ok-text.ensures.reads_at_most text known)
