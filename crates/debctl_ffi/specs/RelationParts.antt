-- What is answered to a program in C of the parts of a relation: Debian Policy 7.1. The table is
-- this project's own.
use Rattle.std.specs.Prelude.{◌≡◌, ℕ, List}
use Rattle.deb_relation.specs.Grammar.{SpellsRelation}
use Rattle.deb_relation.specs.Meaning.{Relation}
use Rattle.deb_spelled.specs.Alternatives.{alternatives_in}
use Rattle.deb_spelled.specs.declared.alternative.AlternativeSpans.{AlternativeSpans}
use Rattle.debctl_ffi.specs.Answers.{counting}
use Rattle.debctl_ffi.specs.declared.answer.Answer.{Answer}

-- The text is a relation, and these are the answer and exactly its alternatives.
pub record HasParts (text : List ℕ) (told : Answer) (found : List AlternativeSpans) : Type 0 where
  pub relation : Relation
  pub spelled : SpellsRelation text relation
  pub are : found ≡ alternatives_in text
  pub is : told ≡ counting 0 0
