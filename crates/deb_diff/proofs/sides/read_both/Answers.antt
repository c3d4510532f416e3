use Rattle.std.proofs.Common.{◌≡◌, ◌∙◌, ℕ, List, Some, length, refl, subst, sym, rules}
use Rattle.std.specs.Prelude.{⊤}
use Rattle.deb_base.specs.declared.refusal.Refusal.{Refusal}
use Rattle.deb_control.specs.Comparing.{RefusesSecond}
use Rattle.deb_control.specs.Documents.{refusal_of}
use Rattle.deb_control.proofs.CheckedSoFar.{refused_then}
use Rattle.deb_control.proofs.ComparedSoFar.{none_refused}
use Rattle.deb_diff.specs.Both.{ReadsAll}
use Rattle.deb_diff.specs.Items.{items_of}
use Rattle.deb_diff.specs.Kepts.{AreKept}
use Rattle.deb_diff.specs.Kinds.{doc_of}
use Rattle.deb_diff.specs.declared.kept.Kept.{Kept}
use Rattle.deb_diff.specs.declared.kind.Kind.{Kind}
use Rattle.deb_diff.proofs.sides.read_both.Goals as goal

pub returns-in-Ok-read_new-clause-ok : goal.returns-in-Ok-read_new-clause-ok
returns-in-Ok-read_new-clause-ok g c = λ text other left left_too.
    let old = c.in-Ok.ensures.ok text left in
    let lent : c.deref.result.now ≡ c.in-Ok.old.items = search rules in
    let kept = subst (λ l. AreKept l (items_of c.args.kind text old.meaning)) (sym lent) old.are_kept in
    record { old_meaning = old.meaning; accepted = old.accepted; are_kept = old.are_kept; new = c.in-Ok-read_new.ensures.ok other (items_of c.args.kind text old.meaning) left_too kept }

pub returns-in-Err-read_new-clause-second : goal.returns-in-Err-read_new-clause-second
returns-in-Err-read_new-clause-second g c = λ text other left left_too.
    let doc = doc_of c.args.kind in
    let old = c.in-Ok.ensures.ok text left in
    rw c.at_second.ensures
    (refused_then ⊤ (λ refusal. refusal_of doc other ≡ Some refusal) (RefusesSecond doc text other) c.in-Err-read_new.fault
    (λ refusal is. record { meaning = old.meaning; accepted = old.accepted; refused = is }) (c.in-Err-read_new.ensures.refused other left_too))

pub returns-in-Err-clause-first : goal.returns-in-Err-clause-first
returns-in-Err-clause-first g c = λ text left. rw c.at_first.ensures (c.in-Err.ensures.refused text left)

-- An old file that is refused isn't accepted.
is_refused : (kind : Kind) (text : List ℕ) (kept : List Kept) (refusal : Refusal) → ReadsAll kind text kept → refusal_of (doc_of kind) text ≡ Some refusal → ⊥
is_refused kind text kept refusal old is =
    let none = none_refused (doc_of kind) text (length old.meaning) (record { meaning = old.meaning; accepted = old.accepted; count = refl }) in
    cc (sym none ∙ is)

pub returns-in-Ok-read_new-clause-second_untouched_if_refused : goal.returns-in-Ok-read_new-clause-second_untouched_if_refused
returns-in-Ok-read_new-clause-second_untouched_if_refused g c = λ text refusal left is. absurd (is_refused c.args.kind text c.in-Ok.old.items refusal (c.in-Ok.ensures.ok text left) is)

pub returns-in-Err-read_new-clause-second_untouched_if_refused : goal.returns-in-Err-read_new-clause-second_untouched_if_refused
returns-in-Err-read_new-clause-second_untouched_if_refused g c = λ text refusal left is. absurd (is_refused c.args.kind text c.in-Ok.old.items refusal (c.in-Ok.ensures.ok text left) is)

pub returns-in-Err-read_new-clause-first_accepted_if_second : goal.returns-in-Err-read_new-clause-first_accepted_if_second
returns-in-Err-read_new-clause-first_accepted_if_second g c = λ text left second.
    let old = c.in-Ok.ensures.ok text left in
    (old.meaning, old.accepted)

pub returns-in-Ok-read_new-clause-first_accepted : goal.returns-in-Ok-read_new-clause-first_accepted
returns-in-Ok-read_new-clause-first_accepted g c = λ text left.
    let old = c.in-Ok.ensures.ok text left in
    (old.meaning, old.accepted)
