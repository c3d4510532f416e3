use Rattle.deb_latest.specs.Requests.{asked_of}
use Rattle.debctl_ffi.specs.Latest.{HasReadAll}
use Rattle.debctl_ffi.proofs.FirstTexts.{first_texts}
use Rattle.debctl_ffi.proofs.latest.read_texts.Given as goal

abbrev pub invariant-loop-place : goal.invariant-loop-place
invariant-loop-place l = HasReadAll (asked_of l.request) (first_texts l.place l.texts) l.latest
