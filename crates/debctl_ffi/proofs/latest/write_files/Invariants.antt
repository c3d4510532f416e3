use Rattle.std.proofs.Common.{ℕ, List, []}
use Rattle.deb_latest.specs.Files.{HasWrittenFiles}
use Rattle.deb_latest.specs.Writes.{HasWritten}
use Rattle.debctl_ffi.proofs.FirstTexts.{first_texts}
use Rattle.debctl_ffi.proofs.latest.write_files.Given as goal

abbrev pub invariant-loop-place : goal.invariant-loop-place
invariant-loop-place g l = (numbers : List ℕ) (count : ℕ) → HasWritten numbers count [] l.initial.winners
    → HasWrittenFiles numbers count (first_texts l.place l.texts) l.winners (g.W.Sink.held l.initial.writer) (g.W.Sink.held l.writer)
