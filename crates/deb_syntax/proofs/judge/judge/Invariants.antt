use Rattle.deb_syntax.proofs.Common.{◌≡◌, ◌+◌, ◌-◌, ◌<◌, ◌≤◌, length, drop, slice_index, Ok, IsUtf8, AllByRecursion, newline, pieces_of, judged, lines_judged, begun_fields, StandsAt}
use Rattle.deb_syntax.specs.LineEnds.{ends_from}
use Rattle.deb_syntax.proofs.LineEnds.{pieces_from}
use Rattle.deb_syntax.proofs.judge.judge.Given as goal

-- the lines before `start` are judged, what is judged of the whole is what follows from there, and the lines from there on end at the ends that are left
abbrev pub invariant-loop-end : goal.invariant-loop-end
invariant-loop-end l = record {
  left : drop l.end-index l.ends ≡ ends_from l.start (pieces_from l.text l.start);
  numbered : l.number ≡ l.first_line + l.end-index;
  reached : l.start ≤ length l.text + 1;
  behind : 0 < l.start → l.start ≤ length l.text → slice_index l.text (l.start - 1) ≡ newline;
  stands : StandsAt l.text l.start l.spans.items l.names;
  utf8 : 0 < l.checked → AllByRecursion IsUtf8 (pieces_from l.text l.start);
  so_far : judged l.first_line (pieces_of l.text) ≡ lines_judged l.number (Ok (begun_fields l.text l.spans.items)) (pieces_from l.text l.start);
}
