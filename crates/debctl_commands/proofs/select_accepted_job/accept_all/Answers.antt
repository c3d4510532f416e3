use Rattle.std.proofs.Common.{Ok, Err, refl}
use Rattle.debctl_commands.proofs.select_accepted_job.accept_all.Goals as goal

pub returns-in-Ok : goal.returns-in-Ok
returns-in-Ok g c = λ asked is.
    let put = c.put_total.ensures in
    record {
      read = Ok c.in-Ok.total;
      between = c.accept_paths.new.out;
      in_order = rw c.deref.ensures.value at (c.in-Ok.ensures asked is);
      ends = record { put = c.put_total.result; is = c.at_role.ensures; same = put.ok; fault = put.fault; written = put.written; counted = put.counts_failure };
    }

pub returns-in-Err : goal.returns-in-Err
returns-in-Err g c = λ asked is. record {
  read = Err c.in-Err.fault;
  between = c.accept_paths.new.out;
  in_order = rw c.deref.ensures.value at (c.in-Err.ensures asked is);
  ends = (rw (c.among.ensures, c.files_in.ensures, c.deref-in-Err.ensures.value) refl, refl);
}
