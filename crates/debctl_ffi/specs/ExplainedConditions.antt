-- What is answered to a program in C of why a text is no condition. The lines are those of
-- `deb_select`; the statuses are this project's own.
use Rattle.std.specs.Prelude.{◌≡◌, ℕ, Bool, true, false, List, is_none, refl}
use Rattle.deb_base.specs.declared.doc.Doc.{Doc}
use Rattle.deb_select.specs.Explaining.{condition_lines}
use Rattle.deb_select.specs.Grammar.{condition_refusal}
use Rattle.debctl_ffi.specs.Answers.{plain}
use Rattle.debctl_ffi.specs.Documents.{OfKind}
use Rattle.debctl_ffi.specs.declared.answer.Answer.{Answer}

-- whether a text is a condition, as an answer
abbrev pub is_good : Bool → Answer
is_good true = plain 0
is_good false = plain 2

-- The answer on the text and its lines, of documents of a kind.
pub record ExplainsText (doc : Doc) (text : List ℕ) (answer : Answer) (bytes : List ℕ) : Type 0
  where
    pub is : answer ≡ is_good (is_none (condition_refusal doc text))
    pub lines : bytes ≡ condition_lines doc text

abbrev pub ExplainsCondition : ℕ → List ℕ → Answer → List ℕ → Type 0
ExplainsCondition kind text answer bytes =
    OfKind kind (λ doc. ExplainsText doc text answer bytes)

worked-answers : (is_good true ≡ record { status = 0; code = 0; line = 0; count = 0 })
    × (is_good false ≡ record { status = 2; code = 0; line = 0; count = 0 })
worked-answers = (refl, refl)
