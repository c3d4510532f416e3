use Rattle.debctl_ffi.proofs.Written.{written_whole}
use Rattle.debctl_ffi.proofs.latest.write_texts.Goals as goal

pub returns-in-Ok : goal.returns-in-Ok
returns-in-Ok c =
    let has = c.in-Ok.ensures _ _ c.new-winners.ensures in
    written_whole _ _ _ _ c.new-sink.ensures.held c.into_bytes.ensures has.written
