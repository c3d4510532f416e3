use Rattle.std.proofs.Common.{◌≡◌, ◌&&◌, Bool, true, false, refl}
use Rattle.std.proofs.lemmas.Str.{IsUtf8-from_is_utf8, is_utf8-from_IsUtf8}
use Rattle.deb_explain.proofs.paths.is_plain.Goals as goal

not_both : (a b : Bool) → (a ≡ true → ⊥) → false ≡ (a && b)
not_both true b never = absurd (never refl)
not_both false b never = refl

pub returns-in-Ok : goal.returns-in-Ok
returns-in-Ok c = rw (is_utf8-from_IsUtf8 c.args.path.now c.in-Ok.ensures.cases.1, c.has_hidden.ensures, c.in-Ok.ensures.cases.0) refl

pub returns-in-Err : goal.returns-in-Err
returns-in-Err c = not_both _ _ (λ e. c.in-Err.ensures.cases.0 (IsUtf8-from_is_utf8 c.args.path.now e))
