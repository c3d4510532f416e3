use Rattle.std.proofs.Common.{◌≡◌, false}
use Rattle.std.specs.List.{list_any}
use Rattle.deb_explain.specs.Paths.{is_hidden}
use Rattle.deb_explain.proofs.paths.has_hidden.Given as goal

abbrev pub invariant-loop-c : goal.invariant-loop-c
invariant-loop-c l = list_any is_hidden l.yielded ≡ false
