-- Lemmas that the prover checks: nothing in this file needs to be believed.
--
-- Facts about bodies of one line and about refusals by a test.
use Rattle.std.proofs.Common.{◌≡◌, ℕ, ◌==◌, Bool, true, false, cond, List, [], ◌∷◌, Option, Some, None, refl, arith}
use Rattle.std.proofs.lemmas.Bool.Decides.{nat_tests}
use Rattle.std.specs.List.{AllByRecursion}
use Rattle.deb_base.specs.Bodies.{newline, HasNoNewline}
use Rattle.deb_base.specs.declared.code.Code.{Code}
use Rattle.deb_base.specs.declared.code.Code.TheVariants.{NotOneLine}
use Rattle.deb_base.proofs.GraphicBodies.{IsGraphic}
use Rattle.deb_field.specs.OneLine.{holds_newline, line_refusal, refusal_unless}

-- that no byte is a newline, as a fact and as a test
pub HasNoNewline-test : (text : List ℕ) → HasNoNewline text → holds_newline text ≡ false
HasNoNewline-test [] h = refl
HasNoNewline-test (b ∷ text) h = rw h.0 (HasNoNewline-test text h.1)

pub graphic_no_newline : (b : ℕ) → IsGraphic b → (b == newline) ≡ false
graphic_no_newline b h = grind (arith, nat_tests)

-- graphic bytes are on one line
pub one_line-graphic : (text : List ℕ) → AllByRecursion IsGraphic text → holds_newline text ≡ false
one_line-graphic [] h = refl
one_line-graphic (b ∷ text) h = rw (graphic_no_newline b h.0) (one_line-graphic text h.1)

-- no refusal by a test: it passes; it passes: no refusal
pub passes-from_none : (passes : Bool) (code : Code) → refusal_unless passes code ≡ None
    → passes ≡ true
passes-from_none true code none = refl
passes-from_none false code none = cc

pub none-from_passes : (passes : Bool) (code : Code) → passes ≡ true
    → refusal_unless passes code ≡ None
none-from_passes true code h = refl
none-from_passes false code h = cc

cond_none : (many : Bool) (other : Option Code) → cond many (Some NotOneLine) other ≡ None
    → (many ≡ false) × (other ≡ None)
cond_none true other none = cc
cond_none false other none = (refl, none)

pub line_refusal-parts : (body : List ℕ) (other : Option Code) → line_refusal body other ≡ None
    → (holds_newline body ≡ false) × (other ≡ None)
line_refusal-parts body other none = cond_none (holds_newline body) other none

pub line_refusal-from : (body : List ℕ) (other : Option Code) → holds_newline body ≡ false
    → other ≡ None → line_refusal body other ≡ None
line_refusal-from body other h none = rw h none
