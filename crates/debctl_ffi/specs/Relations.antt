-- What is answered of relations to a program in C: Debian Policy 7.1. The canonical text is this
-- project's own.
use Rattle.std.specs.Prelude.{◌≡◌, ◌⊎◌, ℕ, List}
use Rattle.deb_relation.specs.Grammar.{SpellsRelation}
use Rattle.deb_relation.specs.Meaning.{Relation}
use Rattle.deb_relation.specs.Texts.{relation_text}
use Rattle.deb_index.specs.Questions.{bad_relation}
use Rattle.debctl_ffi.specs.Answers.{counting, plain, refusing}
use Rattle.debctl_ffi.specs.declared.answer.Answer.{Answer}

-- The text is no relation.
abbrev pub IsNoRelation : List ℕ → Type 0
IsNoRelation text = (relation : Relation) → SpellsRelation text relation → ⊥

-- The text is a relation, and this is its canonical text.
pub record HasText (text bytes : List ℕ) : Type 0 where
  pub relation : Relation
  pub spelled : SpellsRelation text relation
  pub is : bytes ≡ relation_text relation

-- The text is a relation, and these are the answer and its canonical text.
abbrev pub IsCanonical : List ℕ → Answer → List ℕ → Type 0
IsCanonical text told bytes = (told ≡ counting 0 0) × HasText text bytes

-- It isn't one; or memory is out.
abbrev pub RelationFails : List ℕ → Answer → Type 0
RelationFails text answer =
    ((answer ≡ refusing 2 bad_relation) × IsNoRelation text) ⊎ (answer ≡ plain 5)
