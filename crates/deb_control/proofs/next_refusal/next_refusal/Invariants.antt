use Rattle.std.proofs.Common.{◌≡◌, ◌+◌, ℕ, List, None}
use Rattle.deb_base.specs.declared.doc.Doc.{Doc}
use Rattle.deb_control.specs.CheckedStates.{checked_state, doc_read}
use Rattle.deb_control.specs.SeenRefusals.{SeenRefusal}
use Rattle.deb_control.specs.GivenRefusals.{GoesOn}
use Rattle.deb_control.proofs.next_refusal.next_refusal.Given as goal

abbrev pub invariant-loop : goal.invariant-loop
invariant-loop g l = record {
  doc : doc_read l.checked ≡ doc_read l.initial.checked;
  fault : (checked_state l.checked).fault ≡ None;
  reads : g.R.Source.failures l.reader ≡ g.R.Source.failures l.initial.reader;
  count : (checked_state l.checked).count ≡ (checked_state l.initial.checked).count + l.counter;
  text : (doc : Doc) (text : List ℕ) (done : List SeenRefusal) → GoesOn doc text l.initial.checked l.initial.summary (g.R.Source.left l.initial.reader) done → GoesOn doc text l.checked l.summary (g.R.Source.left l.reader) done;
}
