use Rattle.std.proofs.Common.{◌≡◌, ℕ, List, None, Some}
use Rattle.deb_base.specs.Bodies.{file_limit}
use Rattle.deb_base.specs.Reading.{TakesNoMore}
use Rattle.deb_control.specs.CheckedStates.{checked_state}
use Rattle.deb_select.specs.AcceptedWalks.{FitsWalk, Walked, sinks}
use Rattle.deb_select.specs.Forms.{form_shown}
use Rattle.deb_select.specs.Selecting.{Request}
use Rattle.deb_select.specs.Selections.{HasConditions}
use Rattle.deb_select.proofs.selection.Selection.write_accepted.Given as goal

abbrev pub invariant-loop : goal.invariant-loop
invariant-loop g l = record {
  sound : (checked_state l.walk.checked).fault ≡ None;
  reads : g.R.Source.failures l.reader ≡ g.R.Source.failures l.initial.reader;
  writes : g.W.Sink.failures l.writer ≡ g.W.Sink.failures l.initial.writer;
  reports : g.E.Sink.failures l.reports ≡ g.E.Sink.failures l.initial.reports;
  fits : (text : List ℕ) → g.R.Source.left l.initial.reader ≡ Some text → FitsWalk text l.walk (g.R.Source.left l.reader);
  taken : (text : List ℕ) → g.R.Source.left l.initial.reader ≡ Some text → TakesNoMore text file_limit (g.R.Source.left l.reader);
  walked : (asked : Request) (text : List ℕ) → asked.form ≡ form_shown l.form → asked.begun ≡ l.begun → HasConditions asked.kind asked.selection l.self → g.R.Source.left l.initial.reader ≡ Some text
      → Walked asked text l.walk (g.R.Source.left l.reader) (sinks (g.W.Sink.held l.initial.writer) (g.E.Sink.held l.initial.reports)) (sinks (g.W.Sink.held l.writer) (g.E.Sink.held l.reports));
}
