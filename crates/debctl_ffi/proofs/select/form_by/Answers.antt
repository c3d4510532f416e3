use Rattle.std.proofs.Common.{inr, refl, rules}
use Rattle.deb_relation.specs.Views.{names_of}
use Rattle.deb_select.specs.Forms.{TableOf}
use Rattle.debctl_ffi.specs.Select.{fields_or_all}
use Rattle.debctl_ffi.proofs.select.form_by.Goals as goal
use Rattle.debctl_ffi.proofs.select.form_by.Goals.{in-0, in-1, in-2, in-3}

pub returns-in-Err-clause-fails : goal.returns-in-Err-clause-fails
returns-in-Err-clause-fails c =
    elim c.match-number.branch [
      | in-0 w ↦ inr (c.no_memory.ensures, (fields_or_all (names_of c.args.names.now), rw w.in-0.is refl))
      | in-1 w ↦ inr (c.no_memory.ensures, (TableOf (names_of c.args.names.now), rw w.in-1.is refl))
      | in-2 w ↦ search rules
      | in-3 w ↦ search rules
    ]
