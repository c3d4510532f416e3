use Rattle.std.proofs.Common.{◌≡◌, rules, codes, None}
use Rattle.clap.specs.Walk.{all_of, first_of}
use Rattle.clap.specs.Words.{found_of, rows_of}
use Rattle.debctl_args.specs.Asked.{audit_asked, paths_or_list}
use Rattle.debctl_args.proofs.file_arguments.audit_task.Goals as goal

pub returns-in-None-None : goal.returns-in-None-None
returns-in-None-None c =
    let paths : all_of (codes "path") (rows_of (found_of c.args.found.now)) ≡ None = search rules in
    let list : first_of (codes "files0-from") (rows_of (found_of c.args.found.now)) ≡ None = search rules in
    let asked : audit_asked (rows_of (found_of c.args.found.now)) ≡ paths_or_list = search rules in
    search rules
