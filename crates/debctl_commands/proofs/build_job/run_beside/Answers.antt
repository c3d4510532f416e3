use Rattle.std.proofs.Common.{Err, inl, inr, refl}
use Rattle.deb_control.specs.declared.side.Side.TheVariants.{First, Second}
use Rattle.deb_index.specs.Indexes.{packages_of}
use Rattle.debctl_commands.specs.SideAnswers.{at_side}
use Rattle.debctl_commands.proofs.SideReports.{no_index}
use Rattle.debctl_commands.proofs.build_job.run_beside.Goals as goal

pub returns-in-Ok-clause-ends : goal.returns-in-Ok-clause-ends
returns-in-Ok-clause-ends g c =
    let e = c.run_with.ensures.ends in (
      at_side Second e.0,
      inr (record {
        packages = packages_of c.in-Ok.packages.index;
        lists = λ text is. (c.in-Ok.ensures.ok text is).lists;
        unfailed = c.in-Ok.ensures.counts_read_failure;
        tried = e.0;
        is = refl;
        answers = record {
          ok = λ index text is. e.1.ok index text (c.in-Ok.ensures.ok index is);
          refused = e.1.refused;
          stopped = λ index text is. e.1.stopped index text (c.in-Ok.ensures.ok index is);
          unwritten = e.1.unwritten;
          refusal = e.1.refusal;
          reads = e.1.reads;
          writes = e.1.writes;
        };
      }),
      e.2,
    )

pub returns-in-Err-clause-ends : goal.returns-in-Err-clause-ends
returns-in-Err-clause-ends g c = (
  at_side First (Err c.in-Err.fault),
  inl (record {
    fault = c.in-Err.fault;
    is = refl;
    fault_is = c.in-Err.ensures.fault;
    refused = c.in-Err.ensures.refused;
    counted = c.in-Err.ensures.counts_read_failure;
    second_untouched = refl;
    unwritten = refl;
  }),
  c.report_side.ensures,
)

pub returns-in-Ok-clause-second_untouched_if_refused : goal.returns-in-Ok-clause-second_untouched_if_refused
returns-in-Ok-clause-second_untouched_if_refused g c = λ bad.
    absurd (no_index c.args.asking.now.members bad.0 _ bad.1 (c.in-Ok.ensures.ok bad.0 bad.2).lists bad.3)
