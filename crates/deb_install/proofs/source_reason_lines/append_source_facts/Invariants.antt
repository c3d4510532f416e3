-- The lines of the facts so far.
use Rattle.std.proofs.Common.{◌≡◌, ◌++◌, take}
use Rattle.deb_control.specs.Documents.{Meaning}
use Rattle.deb_install.specs.SourceExplaining.{HoldsForSources, setting_for, source_fact_lines, universe_for}
use Rattle.deb_install.specs.declared.source_kind.SourceKind.{SourceKind}
use Rattle.deb_install.proofs.source_reason_lines.append_source_facts.Given as goal

abbrev pub invariant-loop-fact : goal.invariant-loop-fact
invariant-loop-fact l =
    (kind : SourceKind) (meaning others : Meaning) → HoldsForSources kind meaning others l.explaining
    → l.out.items ≡ l.initial.out.items ++ source_fact_lines kind (setting_for l.explaining meaning) others (universe_for l.explaining) (take l.fact-index l.facts)
