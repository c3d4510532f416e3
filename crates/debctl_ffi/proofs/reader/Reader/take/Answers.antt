use Rattle.std.proofs.Common.{◌++◌, subst, sym}
use Rattle.deb_base.specs.Faults.{MatchFault}
use Rattle.debctl_ffi.specs.Feeds.{Feeds, RefusesOn}
use Rattle.debctl_ffi.specs.Unmet.{is_set}
use Rattle.debctl_ffi.proofs.Readings.{answers-refused, answers-taken}
use Rattle.debctl_ffi.proofs.reader.Reader.take.Goals as goal

pub returns-in-Ok : goal.returns-in-Ok
returns-in-Ok c = λ doc fed given is shows.
    let piece = c.args.text.now in
    let new = c.read.new.self in
    subst (λ answer. Feeds doc fed given piece (is_set c.args.is_last) answer (record new { answer = answer })) (sym c.yes.ensures)
    (answers-taken doc fed given piece (is_set c.args.is_last) new (c.in-Ok.ensures.piece doc fed given is shows) (c.in-Ok.ensures.last doc fed given is shows))

pub returns-in-Err-Refused : goal.returns-in-Err-Refused
returns-in-Err-Refused c = λ doc fed given is shows.
    let piece = c.args.text.now in
    let new = c.read.new.self in
    let refused = subst (λ fault. MatchFault fault (λ refusal. RefusesOn doc (fed ++ piece) given refusal new.tables) (Unit {0}) (Unit {0}) (Unit {0})) c.in-Err-Refused.field-0-is
    (c.in-Err-Refused.ensures.refused doc fed given is shows) in
    subst (λ answer. Feeds doc fed given piece (is_set c.args.is_last) answer (record new { answer = answer })) (sym c.refused.ensures)
    (answers-refused doc fed given piece (is_set c.args.is_last) new c.in-Err-Refused.refusal refused)
