-- Bodies that must be one line, and the refusal of a body by a test. Debian Policy 5.1 (simple
-- fields); the order of the refusals is this project's own.
use Rattle.std.specs.Prelude.{◌≡◌, ℕ, ◌==◌, Bool, true, false, cond, List, [], ◌∷◌, Option, Some, None, codes, refl}
use Rattle.std.specs.List.{list_any, filter, range_with_len}
use Rattle.deb_base.specs.Bodies.{newline}
use Rattle.deb_base.specs.declared.code.Code.{Code}
use Rattle.deb_base.specs.declared.code.Code.TheVariants.{NotOneLine, BadName}

-- the body has more than one line
abbrev pub holds_newline : List ℕ → Bool
holds_newline body = list_any (λ b. b == newline) body

-- of a body that has to pass a test: none, or the code
abbrev pub refusal_unless : Bool → Code → Option Code
refusal_unless passes code = cond passes None (Some code)

-- of a body of one line: `NotOneLine` comes before what else is refused
abbrev pub line_refusal : List ℕ → Option Code → Option Code
line_refusal body other = cond (holds_newline body) (Some NotOneLine) other

one_line_first : line_refusal (codes "A\n b") (refusal_unless false BadName) ≡ Some NotOneLine
one_line_first = refl

own_code : line_refusal (codes "A") (refusal_unless false BadName) ≡ Some BadName
own_code = refl

no_refusal : line_refusal (codes "aa") (refusal_unless true BadName) ≡ None
no_refusal = refl

-- of all bytes the one that ends a line: a carriage return ends none
line_ends : filter (λ b. holds_newline (b ∷ [])) (range_with_len 0 256) ≡ 10 ∷ []
line_ends = refl

carriage_returns : (holds_newline (codes "a\rb\r") ≡ false)
    × (line_refusal (codes "a\rb") None ≡ None)
    × (line_refusal (codes "a\r\n b") None ≡ Some NotOneLine)
carriage_returns = (refl, refl, refl)
