-- Texts in place of others that have the same answers: Debian Policy 5.1. That a reader reads them
-- is this project's own.
use Rattle.std.specs.Prelude.{◌≡◌, ℕ, ◌≤◌, List, ◌++◌, length}
use Rattle.deb_base.specs.Bodies.{file_limit}
use Rattle.deb_base.specs.declared.doc.Doc.{Doc}
use Rattle.deb_syntax.specs.Answers.{next_answer}
use Rattle.deb_syntax.specs.Meaning.{Entries}
use Rattle.deb_control.specs.Documents.{rules_of}
use Rattle.deb_control.specs.Refusals.{next_checked, outcome}

-- The two texts have the same answers as files, and so have longer ones, whichever bytes follow.
pub record AnswerAlike (text other : List ℕ) : Type 0 where
  pub bytes : length text ≡ length other
  pub next : (more : List ℕ) (k : ℕ) → next_answer (text ++ more) k ≡ next_answer (other ++ more) k
  pub checked : (doc : Doc) (more : List ℕ) (before : List Entries)
      → next_checked (rules_of doc) (text ++ more) before
      ≡ next_checked (rules_of doc) (other ++ more) before
  pub comes : (doc : Doc) (more : List ℕ)
      → outcome (rules_of doc) (text ++ more) ≡ outcome (rules_of doc) (other ++ more)

-- The same after any text with which a file isn't too long.
abbrev pub AlikeAfter : List ℕ → List ℕ → Type 0
AlikeAfter old new =
    (before : List ℕ) → length (before ++ old) ≤ file_limit
    → AnswerAlike (before ++ old) (before ++ new)
