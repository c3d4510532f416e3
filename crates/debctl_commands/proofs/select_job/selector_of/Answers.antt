use Rattle.std.proofs.Common.{false, refl}
use Rattle.debctl_commands.specs.SelectConditions.{is_negated}
use Rattle.debctl_commands.specs.SelectJob.{form_asked}
use Rattle.debctl_commands.proofs.select_job.selector_of.Goals as goal

pub returns-in-Ok-form_of-clause-ok : goal.returns-in-Ok-form_of-clause-ok
returns-in-Ok-form_of-clause-ok c =
    let has = rw c.deref.ensures.value at c.in-Ok.ensures.ok in
    record {
      asked =
          record {
            kind = c.args.select.now.kind;
            selection = record { conditions = has.conditions; negated = is_negated c.args.select.now.picks };
            form = form_asked c.args.select.now;
            begun = false;
          };
      asks = record { kind = refl; conditions = has.spelled; negated = refl; form = refl };
      is = record { has = has.has; form = c.in-Ok-form_of.ensures };
    }
