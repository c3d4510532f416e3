use Rattle.std.proofs.Common.{◌+◌, ap, ◌∙◌, inr, string_bytes, sym}
use Rattle.std.proofs.lemmas.List.{length-map}
use Rattle.debctl_commands.specs.FileFaults.{at_role, role_among}
use Rattle.debctl_commands.specs.declared.file_fault.Role.TheVariants.{First}
use Rattle.debctl_commands.proofs.unmet_job.ask_last.Goals as goal

pub returns-in-Ok : goal.returns-in-Ok
returns-in-Ok g c = inr (record {
  index = c.in-Ok.index;
  between = c.read_indexes.new.files;
  read = c.in-Ok.ensures.answers;
  tried = c.try_last-tried.result;
  is = c.at_role.ensures ∙ ap (λ role. at_role role c.try_last-tried.result) (c.role_among.ensures ∙ ap (λ n. role_among First (n + 1) (n + 1)) (sym (length-map c.args.before.now string_bytes)));
  tries = c.try_last-tried.ensures;
})
