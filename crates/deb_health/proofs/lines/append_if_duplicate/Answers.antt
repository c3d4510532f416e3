use Rattle.std.proofs.Common.{rules, ◌++◌, ◌&&◌, [], cond, false, ltb, not, append-nil, sym, ap, ◌∙◌}
use Rattle.std.specs.Option.{option_map_or}
use Rattle.deb_relation.specs.Environments.{environment_of}
use Rattle.deb_index.specs.Indexes.{packages_of}
use Rattle.deb_index.specs.Kept.{listed_of}
use Rattle.deb_unmet.specs.Paragraphs.{heading_in}
use Rattle.deb_health.specs.Lines.{duplicate_line, line_at}
use Rattle.deb_health.specs.Together.{are_together}
use Rattle.deb_health.proofs.lines.append_if_duplicate.Goals as goal
use Rattle.deb_health.proofs.lines.append_if_duplicate.Goals.{else-not-are_together-via-then-not-are_together+else-paragraph-number, else-not-are_together-via-else-not-are_together}

pub returns-in_default : goal.returns-in_default
returns-in_default c =
    let line = line_at (duplicate_line (heading_in c.args.paragraph.now)) (packages_of c.args.set.now.index.now) c.args.number in
    sym (append-nil c.args.out.now.items)
    ∙ ap (λ o. c.args.out.now.items ++ cond (option_map_or (λ q. not (are_together (environment_of c.args.set.now.environment.now).native (listed_of c.args.own.now) q)) o false && ltb c.args.paragraph.now.number c.args.number) line []) c.in_default.ensures.listed

pub returns-else-not-are_together : goal.returns-else-not-are_together
returns-else-not-are_together c = rw (sym c.in-Some.ensures.listed) (search rules)
