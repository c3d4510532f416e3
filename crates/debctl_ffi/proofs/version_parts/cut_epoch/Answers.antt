use Rattle.std.proofs.Common.{rules, sym, ◌∙◌, ◌+◌}
use Rattle.std.proofs.lemmas.List.{take_rest}
use Rattle.deb_version.proofs.ComponentsLemmas.{epoch_at_colon, epoch_at_none}
use Rattle.debctl_ffi.proofs.version_parts.cut_epoch.Goals as goal

pub returns-in-Some : goal.returns-in-Some
returns-in-Some c =
    let found = epoch_at_colon c.args.text.now c.in-Some.at (search rules) (search rules) (search rules) in
    record { epoch = sym found.0; rest = take_rest c.args.text.now (c.in-Some.at + 1) ∙ sym found.1 }

pub returns-in-None : goal.returns-in-None
returns-in-None c =
    let none = epoch_at_none c.args.text.now (search rules) in
    record { epoch = sym none.0; rest = sym none.1 }
