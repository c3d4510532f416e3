-- The lines of the facts so far.
use Rattle.std.proofs.Common.{◌≡◌, ◌++◌, take}
use Rattle.deb_control.specs.Documents.{Meaning}
use Rattle.deb_install.specs.Explaining.{HoldsFor, fact_lines}
use Rattle.deb_install.specs.Universes.{setting_of}
use Rattle.deb_install.proofs.reason_lines.append_facts.Given as goal

abbrev pub invariant-loop-fact : goal.invariant-loop-fact
invariant-loop-fact l =
    (meaning : Meaning) → HoldsFor meaning l.explaining
    → l.out.items ≡ l.initial.out.items ++ fact_lines (setting_of l.explaining.listing.now meaning) l.explaining.universe.now (take l.fact-index l.facts)
