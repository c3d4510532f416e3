use Rattle.deb_version.proofs.Common.{◌≡◌, ◌++◌, length, parts_of, Extends}
use Rattle.deb_version.specs.Keys.{AreAscii, component_key}
use Rattle.deb_version.proofs.key.append_component.Given as goal

-- what is written so far, and then the key of what is left, is the key of the component
abbrev pub invariant-loop-out : goal.invariant-loop-out
invariant-loop-out l = record {
  written : l.out.items ++ component_key (parts_of l.rest) ≡ l.initial.out.items ++ component_key (parts_of l.component);
  begun : Extends l.initial.out.items l.out.items;
  ascii : AreAscii l.rest;
}

abbrev pub decreases-loop-out : goal.decreases-loop-out
decreases-loop-out l = length l.rest
