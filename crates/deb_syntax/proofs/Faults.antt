-- What follows of a refusal follows of a fault of a reader.
use Rattle.deb_syntax.proofs.Common.{IsReadersFault, Fault, Refused, Memory, Read, Write, Refusal}

pub readers_fault : {P Q : Refusal → Type 0} (fault : Fault) → ((refusal : Refusal) → P refusal → Q refusal) → IsReadersFault fault P → IsReadersFault fault Q
readers_fault (Refused refusal) f h = f refusal h
readers_fault Memory f h = tt
readers_fault Read f h = tt
readers_fault Write f h = h
