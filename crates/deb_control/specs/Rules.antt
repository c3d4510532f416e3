-- What the files of a kind of document are judged by, beyond their lines (this project's own order
-- of refusals).
use Rattle.std.specs.Prelude.{◌≡◌, ℕ, Bool, List, Option, None}
use Rattle.deb_base.specs.declared.code.Code.{Code}

-- The rules of a kind of document. Names are given in their canonical spelling.
pub record Rules : Type 0 where
  -- the code with which a body under a name is refused, if it spells no value of the field's kind
  pub refusal : List ℕ → List ℕ → Option Code
  -- the canonical text of the value that a body under a name spells
  pub canonical : List ℕ → List ℕ → List ℕ
  -- the names of the fields that each paragraph has to have
  pub required : List (List ℕ)
  -- whether a file has exactly one paragraph
  pub single : Bool

-- Where bodies under names spell values, the rules are those of these values: a body is refused
-- exactly where it spells none, and its canonical text is that of the value that it spells.
pub record AreRulesOf (V : Type 0) (spells : List ℕ → List ℕ → V → Type 0) (text_of : V → List ℕ)
    (rules : Rules) : Type 0 where
  pub spelled : (name body : List ℕ) → rules.refusal name body ≡ None → (v : V) × spells name body v
  pub unrefused : (name body : List ℕ) (v : V) → spells name body v → rules.refusal name body ≡ None
  pub text : (name body : List ℕ) (v : V) → spells name body v
      → rules.canonical name body ≡ text_of v
