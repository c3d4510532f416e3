use Rattle.std.proofs.Common.{rules, sym, ◌∙◌, ap, ◌+◌, Some}
use Rattle.std.proofs.lemmas.List.{take_rest}
use Rattle.deb_version.proofs.ComponentsLemmas.{revision_at_hyphen, revision_at_none}
use Rattle.debctl_ffi.proofs.version_parts.cut_revision.Goals as goal

pub returns-in-Some : goal.returns-in-Some
returns-in-Some c =
    let found = revision_at_hyphen c.args.rest.now c.in-Some.at (search rules) (search rules) (search rules) in
    record { upstream = sym found.0; revision = ap Some (take_rest c.args.rest.now (c.in-Some.at + 1)) ∙ sym found.1 }

pub returns-in-None : goal.returns-in-None
returns-in-None c =
    let none = revision_at_none c.args.rest.now (search rules) in
    record { upstream = sym none.0; revision = sym none.1 }
