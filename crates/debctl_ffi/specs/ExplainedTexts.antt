-- What is answered to a program in C of why a text isn't a relation, or isn't a version: Debian
-- Policy 5.6.12 and 7.1. The lines are those of `debctl explain --relation` and `--version-text`;
-- their form is this project's own.
use Rattle.std.specs.Prelude.{◌≡◌, ◌⊎◌, ℕ, List, Some, codes, refl}
use Rattle.deb_base.specs.declared.refusal.Refusal.{Refusal}
use Rattle.deb_explain.specs.Causes.{word_cause, word_code}
use Rattle.deb_explain.specs.Texts.{word_text}
use Rattle.deb_explain.specs.declared.cause.Cause.{Cause}
use Rattle.deb_explain.specs.declared.cause.Word.{Word}
use Rattle.deb_explain.specs.declared.cause.Word.TheVariants as words
use Rattle.deb_relation.specs.Grammar.{SpellsRelation}
use Rattle.deb_relation.specs.Meaning.{Relation}
use Rattle.debctl_ffi.specs.Answers.{counting, refusing}
use Rattle.debctl_ffi.specs.Relations.{IsNoRelation}
use Rattle.debctl_ffi.specs.Versions.{IsNoVersion, IsVersion}
use Rattle.debctl_ffi.specs.declared.answer.Answer.{Answer}

-- The text is what it is read as, a relation or a version; or it isn't.
abbrev pub IsRelation : List ℕ → Type 0
IsRelation text = (relation : Relation) × SpellsRelation text relation

abbrev pub IsRead : Word → List ℕ → Type 0
IsRead words.Relation text = IsRelation text
IsRead words.Version text = IsVersion text

abbrev pub IsNotRead : Word → List ℕ → Type 0
IsNotRead words.Relation text = IsNoRelation text
IsNotRead words.Version text = IsNoVersion text

-- the refusal of a text that is read so
abbrev pub refusal_as : Word → Refusal
refusal_as word = record { code = word_code word; line = 0 }

refusals : (refusing 2 (refusal_as words.Relation)
    ≡ record { status = 2; code = 19; line = 0; count = 0 })
    × (refusing 2 (refusal_as words.Version)
    ≡ record { status = 2; code = 18; line = 0; count = 0 })
refusals = (refl, refl)

-- The text is one, and these are the answer and the line; or it isn't, for this cause, and these
-- are the answer and the lines.
pub record AcceptedAs (word : Word) (text : List ℕ) (answer : Answer) (bytes : List ℕ)
    : Type 0 where
  pub read : IsRead word text
  pub is : answer ≡ counting 0 0
  pub line : bytes ≡ codes "ok\n"

pub record RefusedAs (word : Word) (text : List ℕ) (answer : Answer) (bytes : List ℕ)
    : Type 0 where
  pub why : Cause
  pub wrong : word_cause word text ≡ Some why
  pub not_read : IsNotRead word text
  pub is : answer ≡ refusing 2 (refusal_as word)
  pub lines : bytes ≡ word_text word why text

abbrev pub ExplainedAs : Word → List ℕ → Answer → List ℕ → Type 0
ExplainedAs word text answer bytes =
    AcceptedAs word text answer bytes ⊎ RefusedAs word text answer bytes

-- what a text is read as
worked-read : (IsRead words.Relation (codes "aa") ≡ IsRelation (codes "aa"))
    × (IsRead words.Version (codes "1") ≡ IsVersion (codes "1"))
    × (IsNotRead words.Relation (codes "a") ≡ IsNoRelation (codes "a"))
    × (IsNotRead words.Version (codes "1_2") ≡ IsNoVersion (codes "1_2"))
worked-read = (refl, refl, refl, refl)
