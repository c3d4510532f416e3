use Rattle.deb_base.specs.Bodies.{file_limit}
use Rattle.deb_control.proofs.Common.{◌≡◌, ◌∙◌, ◌+◌, Bool, true, false, Option, None, Some, ap, sym, refl, subst, arith, not, is_none, false≢true, bytes_eq-Decides, bytes_eq, passing_of, Agrees, CheckedText}
use Rattle.std.specs.Option.{option_map}
use Rattle.deb_control.proofs.CheckedSoFar.{goes_on}
use Rattle.deb_control.proofs.Checks.{few-totals}
use Rattle.deb_control.proofs.ComparedSoFar.{start_agreed, compared}
use Rattle.deb_control.proofs.ReadingOn.{reads-none, reads-ok, reads-err}
use Rattle.deb_control.proofs.comparing.agree.Goals as goal

not-not : (t : Bool) → not (not t) ≡ t
not-not true = refl
not-not false = refl

none-passing : (next : Option CheckedText) → is_none (option_map passing_of next) ≡ is_none next
none-passing None = refl
none-passing (Some accepted) = refl

pub loop-init : goal.loop-init
loop-init g c = record {
  one = reads-none _ _ c.requires.sound;
  other = reads-none _ _ c.requires.other_sound;
  count = c.requires.none;
  both = λ text text_too fits fits_too. start_agreed _ text text_too _ _ fits fits_too;
}

pub returns-in-Err-clause-first : goal.returns-in-Err-clause-first
returns-in-Err-clause-first g c =
    rw c.at_first.ensures (reads-err _ _ _ _ _ _ c.loop.invariant.one c.in-Err.fault (rw c.in-Err.is at c.next.follows.holds-at-none.0))

pub returns-in-Err-next_beside-clause-first : goal.returns-in-Err-next_beside-clause-first
returns-in-Err-next_beside-clause-first g c =
    let passes = rw c.in-Ok.is at c.next.follows.holds-at-none in
    rw c.at_second.ensures (reads-ok _ _ _ _ _ _ c.loop.invariant.one tt (option_map passing_of c.in-Ok.left) passes.0 passes.1)

pub returns-in-Err-next_beside-clause-second : goal.returns-in-Err-next_beside-clause-second
returns-in-Err-next_beside-clause-second g c =
    rw c.at_second.ensures (reads-err _ _ _ _ _ _ c.loop.invariant.other c.in-Err-next_beside.fault (rw c.in-Err-next_beside.is at c.next_beside.follows.holds-at-none.0))

pub returns-in_default-clause-agrees : goal.returns-in_default-clause-agrees
returns-in_default-clause-agrees g c = λ text text_too fits fits_too.
    let left = rw (c.in-Ok.is, c.in_default.is, c.loop.invariant.one.doc) at c.next.follows.holds-at-none in
    let right = rw (c.in-Ok-next_beside.is, c.loop.invariant.other.doc ∙ c.requires.doc) at c.next_beside.follows.holds-at-none in
    subst (Agrees c.args.one.now.doc text text_too) (none-passing c.in-Ok-next_beside.right ∙ ap not c.is_none.ensures ∙ not-not c.is_none.result)
    (compared _ text text_too _ _ _ _ None (option_map passing_of c.in-Ok-next_beside.right) (c.loop.invariant.both text text_too fits fits_too) c.loop.invariant.one.sound c.loop.invariant.other.sound left.0 right.0)

pub returns-in_default-clause-first : goal.returns-in_default-clause-first
returns-in_default-clause-first g c =
    let passes = rw (c.in-Ok.is, c.in_default.is) at c.next.follows.holds-at-none in
    reads-ok _ _ _ _ _ _ c.loop.invariant.one tt None passes.0 passes.1

pub returns-in_default-clause-second : goal.returns-in_default-clause-second
returns-in_default-clause-second g c =
    let passes = rw c.in-Ok-next_beside.is at c.next_beside.follows.holds-at-none in
    reads-ok _ _ _ _ _ _ c.loop.invariant.other tt (option_map passing_of c.in-Ok-next_beside.right) passes.0 passes.1

pub returns-in_default-right-clause-agrees : goal.returns-in_default-right-clause-agrees
returns-in_default-right-clause-agrees g c = λ text text_too fits fits_too.
    let left = rw (c.in-Ok.is, c.in-Some.is, c.loop.invariant.one.doc) at c.next.follows.holds-at-none in
    let right = rw (c.in-Ok-next_beside.is, c.in_default-right.is, c.loop.invariant.other.doc ∙ c.requires.doc) at c.next_beside.follows.holds-at-none in
    compared _ text text_too _ _ _ _ (Some (passing_of c.in-Some.left)) None (c.loop.invariant.both text text_too fits fits_too) c.loop.invariant.one.sound c.loop.invariant.other.sound left.0 right.0

pub returns-in_default-right-clause-first : goal.returns-in_default-right-clause-first
returns-in_default-right-clause-first g c =
    let passes = rw c.in-Ok.is at c.next.follows.holds-at-none in
    reads-ok _ _ _ _ _ _ c.loop.invariant.one tt (option_map passing_of c.in-Ok.left) passes.0 passes.1

pub returns-in_default-right-clause-second : goal.returns-in_default-right-clause-second
returns-in_default-right-clause-second g c =
    let passes = rw c.in-Ok-next_beside.is at c.next_beside.follows.holds-at-none in
    reads-ok _ _ _ _ _ _ c.loop.invariant.other tt (option_map passing_of c.in-Ok-next_beside.right) passes.0 passes.1

pub returns-then-ne-clause-agrees : goal.returns-then-ne-clause-agrees
returns-then-ne-clause-agrees g c = λ text text_too fits fits_too.
    let left = rw (c.in-Ok.is, c.in-Some.is, c.loop.invariant.one.doc) at c.next.follows.holds-at-none in
    let right = rw (c.in-Ok-next_beside.is, c.in-Some-right.is, c.loop.invariant.other.doc ∙ c.requires.doc) at c.next_beside.follows.holds-at-none in
    let tells = compared _ text text_too _ _ _ _ (Some (passing_of c.in-Some.left)) (Some (passing_of c.in-Some-right.right)) (c.loop.invariant.both text text_too fits fits_too) c.loop.invariant.one.sound c.loop.invariant.other.sound left.0 right.0 in
    tells.1 (λ same.
    let equal = (bytes_eq-Decides c.canonical_text.result.now c.canonical_text-in-loop.result.now).1 (c.canonical_text.ensures ∙ same ∙ sym c.canonical_text-in-loop.ensures) in
    false≢true (sym (c.ne.ensures ∙ ap not equal) ∙ c.if-ne.true))

pub returns-then-ne-clause-first : goal.returns-then-ne-clause-first
returns-then-ne-clause-first g c =
    let passes = rw c.in-Ok.is at c.next.follows.holds-at-none in
    reads-ok _ _ _ _ _ _ c.loop.invariant.one tt (option_map passing_of c.in-Ok.left) passes.0 passes.1

pub returns-then-ne-clause-second : goal.returns-then-ne-clause-second
returns-then-ne-clause-second g c =
    let passes = rw c.in-Ok-next_beside.is at c.next_beside.follows.holds-at-none in
    reads-ok _ _ _ _ _ _ c.loop.invariant.other tt (option_map passing_of c.in-Ok-next_beside.right) passes.0 passes.1

pub loop-preserved : goal.loop-preserved
loop-preserved g c =
    let left = rw (c.in-Ok.is, c.in-Some.is) at c.next.follows.holds-at-none in
    let right = rw (c.in-Ok-next_beside.is, c.in-Some-right.is) at c.next_beside.follows.holds-at-none in
    let equal = (bytes_eq-Decides c.canonical_text.result.now c.canonical_text-in-loop.result.now).0 (sym (not-not (bytes_eq c.canonical_text.result.now c.canonical_text-in-loop.result.now)) ∙ ap not (sym c.ne.ensures ∙ c.if-ne.false)) in
    record {
      one = reads-ok _ _ _ _ _ _ c.loop.invariant.one tt (Some (passing_of c.in-Some.left)) left.0 left.1;
      other = reads-ok _ _ _ _ _ _ c.loop.invariant.other tt (Some (passing_of c.in-Some-right.right)) right.0 right.1;
      count = (goes_on _ _ _ _ c.loop.invariant.one.sound left.0).count ∙ ap (λ n. n + 1) c.loop.invariant.count;
      both = λ text text_too fits fits_too.
          let tells = compared _ text text_too _ _ _ _ (Some (passing_of c.in-Some.left)) (Some (passing_of c.in-Some-right.right)) (c.loop.invariant.both text text_too fits fits_too) c.loop.invariant.one.sound c.loop.invariant.other.sound (rw c.loop.invariant.one.doc at left.0) (rw (c.loop.invariant.other.doc ∙ c.requires.doc) at right.0) in
          tells.0 (sym c.canonical_text.ensures ∙ equal ∙ c.canonical_text-in-loop.ensures);
    }

pub unreachable-requires : goal.unreachable-requires
unfolding file_limit
unreachable-requires g c = omega (arith, c.loop-test.false, c.loop.invariant.count, few-totals c.loop.one.totals)
