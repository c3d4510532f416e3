-- What a caller's loop reads from the clauses of a reader of paragraphs, while no error has come.
use Rattle.deb_syntax.proofs.Common.{◌≡◌, None, Result, Ok, subst, IfNone, Fault, Moment, KeepsErrors}

-- a reader of paragraphs without an error goes on
pub goes-from_passes : {A : Type 0} (Goes : Moment → Result A Fault → Moment → Type 0) (before after : Moment) (answer : Result A Fault) → before.state.fault ≡ None → KeepsErrors Goes before answer after → Goes before answer after
goes-from_passes Goes before after answer sound passes = subst (λ fault. IfNone fault (Goes before answer after)) sound passes.goes

-- and has none after an answer that is no error
pub sound-from_passes : {A : Type 0} (Goes : Moment → Result A Fault → Moment → Type 0) (before after : Moment) (answer : A) → before.state.fault ≡ None → KeepsErrors Goes before (Ok answer) after → after.state.fault ≡ None
sound-from_passes Goes before after answer sound passes = subst (λ fault. IfNone fault (after.state.fault ≡ None)) sound passes.keeps
