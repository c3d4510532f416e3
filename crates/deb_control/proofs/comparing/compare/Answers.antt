use Rattle.deb_control.proofs.Common.{◌≡◌, Some, true, false, ⊤, refl, RefusesSecond, refusal_of}
use Rattle.deb_control.proofs.CheckedSoFar.{refused_then}
use Rattle.deb_control.proofs.ComparedSoFar.{none_refused, tells_same}
use Rattle.deb_control.proofs.ReadingOn.{reads-then, reads-well, reads-fault, reads-new}
use Rattle.deb_control.proofs.comparing.compare.Goals as goal

pub returns-in-Ok-true-clause-same : goal.returns-in-Ok-true-clause-same
returns-in-Ok-true-clause-same g c = λ text other fits fits_too.
    let equal = rw c.in-Ok-true.field-0-test at c.in-Ok-true.ensures.agrees text other fits fits_too in
    tells_same c.args.one.now.doc text other true equal.passes equal.other_passes equal

pub returns-in-Ok-true-clause-second_reads_at_most : goal.returns-in-Ok-true-clause-second_reads_at_most
returns-in-Ok-true-clause-second_reads_at_most g c = λ text fits. (reads-new text c.requires.doc fits c.in-Ok-true.ensures.second).taken

pub returns-in-Err-count_rest-clause-first : goal.returns-in-Err-count_rest-clause-first
returns-in-Err-count_rest-clause-first g c =
    rw c.at_first.ensures (reads-fault (reads-then _ _ _ _ _ _ c.in-Ok-false.ensures.first _ c.in-Err-count_rest.ensures.on))

pub returns-in-Err-count_rest-clause-second_reads_at_most : goal.returns-in-Err-count_rest-clause-second_reads_at_most
returns-in-Err-count_rest-clause-second_reads_at_most g c = λ text fits. (reads-new text c.requires.doc fits c.in-Ok-false.ensures.second).taken

pub returns-in-Err-count_rest-2-clause-refused : goal.returns-in-Err-count_rest-2-clause-refused
returns-in-Err-count_rest-2-clause-refused g c = λ text other fits fits_too.
    let has = (reads-new text refl fits c.in-Ok-false.ensures.first).given in
    let accepted = rw c.in-Ok-false.ensures.first.doc at c.in_default.ensures.ok text has.before has.fits in
    let refused = (reads-new other c.requires.doc fits_too (reads-then _ _ _ _ _ _ c.in-Ok-false.ensures.second _ c.in-Err-count_rest-2.ensures.on)).refused in
    rw c.at_second.ensures
    (refused_then ⊤ (λ refusal. refusal_of c.args.one.now.doc other ≡ Some refusal) (RefusesSecond c.args.one.now.doc text other) c.in-Err-count_rest-2.fault
    (λ refusal is. record { meaning = accepted.meaning; accepted = accepted.accepted; refused = is }) refused)

pub returns-in-Err-count_rest-2-clause-first : goal.returns-in-Err-count_rest-2-clause-first
returns-in-Err-count_rest-2-clause-first g c =
    rw c.at_second.ensures (reads-well (reads-then _ _ _ _ _ _ c.in-Ok-false.ensures.first _ c.in_default.ensures.on))

pub returns-in-Err-count_rest-2-clause-second_reads_at_most : goal.returns-in-Err-count_rest-2-clause-second_reads_at_most
returns-in-Err-count_rest-2-clause-second_reads_at_most g c = λ text fits.
    (reads-new text c.requires.doc fits (reads-then _ _ _ _ _ _ c.in-Ok-false.ensures.second _ c.in-Err-count_rest-2.ensures.on)).taken

pub returns-in-First-clause-first : goal.returns-in-First-clause-first
returns-in-First-clause-first g c = rw c.at_first-in-First.ensures (rw c.in-First.is at c.in-Err.ensures.first)

pub returns-in-First-clause-second_reads_at_most : goal.returns-in-First-clause-second_reads_at_most
returns-in-First-clause-second_reads_at_most g c = λ text fits. (reads-new text c.requires.doc fits c.in-Err.ensures.second).taken

pub returns-in-Err-count_rest-3-clause-first : goal.returns-in-Err-count_rest-3-clause-first
returns-in-Err-count_rest-3-clause-first g c =
    rw c.at_first-in-Err-count_rest-3.ensures (reads-fault (reads-then _ _ _ _ _ _ (rw c.in-Second.is at c.in-Err.ensures.first) _ c.in-Err-count_rest-3.ensures.on))

pub returns-in-Err-count_rest-3-clause-second_reads_at_most : goal.returns-in-Err-count_rest-3-clause-second_reads_at_most
returns-in-Err-count_rest-3-clause-second_reads_at_most g c = λ text fits. (reads-new text c.requires.doc fits c.in-Err.ensures.second).taken

pub returns-in_default-count_rest-clause-same : goal.returns-in_default-count_rest-clause-same
returns-in_default-count_rest-clause-same g c = λ text other fits fits_too.
    let doc = c.args.one.now.doc in
    let has = (reads-new text refl fits c.in-Ok-false.ensures.first).given in
    let has_too = (reads-new other c.requires.doc fits_too c.in-Ok-false.ensures.second).given in
    let accepted = rw c.in-Ok-false.ensures.first.doc at c.in_default.ensures.ok text has.before has.fits in
    let accepted_too = rw (c.in-Ok-false.ensures.second.doc, c.requires.doc) at c.in_default-count_rest.ensures.ok other has_too.before has_too.fits in
    let apart = rw c.in-Ok-false.field-0-test at c.in-Ok-false.ensures.agrees text other fits fits_too in
    tells_same doc text other false (none_refused doc text _ accepted) (none_refused doc other _ accepted_too) apart

pub returns-in_default-count_rest-2-clause-refused : goal.returns-in_default-count_rest-2-clause-refused
returns-in_default-count_rest-2-clause-refused g c = λ text other fits fits_too.
    let first = rw c.in-Second.is at c.in-Err.ensures.first in
    let has = (reads-new text refl fits first).given in
    let accepted = rw first.doc at c.in_default-count_rest-2.ensures.ok text has.before has.fits in
    let refused = (reads-new other c.requires.doc fits_too (rw (c.in-Second.is, c.in-Refused.is) at c.in-Err.ensures.second)).refused in
    rw c.at_second-in-Refused.ensures (record { meaning = accepted.meaning; accepted = accepted.accepted; refused = refused })

pub returns-in_default-count_rest-2-clause-first : goal.returns-in_default-count_rest-2-clause-first
returns-in_default-count_rest-2-clause-first g c =
    rw c.at_second-in-Refused.ensures (reads-well (reads-then _ _ _ _ _ _ (rw c.in-Second.is at c.in-Err.ensures.first) _ c.in_default-count_rest-2.ensures.on))
