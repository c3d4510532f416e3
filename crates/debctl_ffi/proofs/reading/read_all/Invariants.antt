use Rattle.std.proofs.Common.{◌≡◌, ℕ, List, []}
use Rattle.deb_control.specs.CheckedStates.{checked_state, doc_read}
use Rattle.deb_syntax.specs.Answers.{Seen}
use Rattle.debctl_ffi.specs.Feeds.{Reading, ReadsOn}
use Rattle.debctl_ffi.proofs.reading.read_all.Given as goal

abbrev pub invariant-loop : goal.invariant-loop
invariant-loop g l = record {
  doc : doc_read l.checked ≡ doc_read l.initial.checked;
  reads : (text : List ℕ) (given : List Seen) → Reading (doc_read l.initial.checked) text given [] (checked_state l.initial.checked) (g.R.Source.left l.initial.reader) l.initial.tables l.initial.count
      → ReadsOn (doc_read l.initial.checked) text given (checked_state l.checked) (g.R.Source.left l.reader) l.tables l.count;
}
