-- A question to an index in words: which packages meet a relation, for a target architecture and
-- with build profiles active. Debian Policy 7.1 and 7.5; the order of refusals is this project's
-- own.
use Rattle.std.specs.Prelude.{◌≡◌, ◌⊎◌, ℕ, Bool, true, false, List, [], ◌∷◌, Some, Result, Ok, Err}
use Rattle.std.specs.Prelude.{IsTrue, IsFalse, codes, refl}
use Rattle.deb_base.specs.Codes.{number_of}
use Rattle.deb_base.specs.Faults.{RefusedOrMemory}
use Rattle.deb_base.specs.declared.code.Code.TheVariants.{BadRelation, BadEnvironment, Wildcard}
use Rattle.deb_base.specs.declared.fault.Fault.{Fault}
use Rattle.deb_base.specs.declared.refusal.Refusal.{Refusal}
use Rattle.deb_relation.specs.Applying.{Environment}
use Rattle.deb_relation.specs.Environments.{environment_of, environment_with}
use Rattle.deb_relation.specs.Grammar.{SpellsRelation}
use Rattle.deb_relation.specs.Meaning.{Relation}
use Rattle.deb_relation.specs.RelationTexts.{text_meaning}
use Rattle.deb_relation.specs.Targets.{is_environment}
use Rattle.deb_relation.specs.Tests.{some_wildcard}
use Rattle.deb_relation.specs.declared.environment.Env.{Env}
use Rattle.deb_relation.specs.declared.relation_text.RelationText.{RelationText}
use Rattle.deb_control.specs.Documents.{refusal_of}
use Rattle.deb_index.specs.Listed.{Listed}
use Rattle.deb_index.specs.Members.{ListsMembers, doc_of}
use Rattle.deb_index.specs.Reported.{report_of}
use Rattle.deb_index.specs.Reports.{Answer, report}
use Rattle.deb_index.specs.declared.members.Members.{Members}
use Rattle.deb_index.specs.declared.report.Report.{Report}

-- ---- the words

-- a target architecture, the profiles that are active, and a relation
pub record Question : Type 0 where
  pub target : List ℕ
  pub profiles : List (List ℕ)
  pub relation : List ℕ

abbrev pub question : List ℕ → List (List ℕ) → List ℕ → Question
question target profiles relation =
    record { target = target; profiles = profiles; relation = relation }

abbrev pub has_environment : Question → Bool
has_environment q = is_environment q.target q.profiles

abbrev pub environment_in : Question → Environment
environment_in q = environment_with q.target q.profiles

-- The words are good: the relation is one, and the environment is.
pub record IsGood (q : Question) : Type 0 where
  pub relation : Relation
  pub spelled : SpellsRelation q.relation relation
  pub environment : IsTrue (has_environment q)

-- ---- refusals

abbrev pub bad_relation : Refusal
bad_relation = record { code = BadRelation; line = 0 }

abbrev pub bad_environment : Refusal
bad_environment = record { code = BadEnvironment; line = 0 }

abbrev pub wildcard : Refusal
wildcard = record { code = Wildcard; line = 0 }

-- Why the words are refused: the relation is none; else the target or a profile is no good name.
pub record RefusesRelation (text : List ℕ) (refusal : Refusal) : Type 0 where
  pub none : (relation : Relation) → SpellsRelation text relation → ⊥
  pub is : refusal ≡ bad_relation

pub record RefusesEnvironment (q : Question) (refusal : Refusal) : Type 0 where
  pub relation : Relation
  pub spelled : SpellsRelation q.relation relation
  pub bad : IsFalse (has_environment q)
  pub is : refusal ≡ bad_environment

abbrev pub RefusesWords : Question → Refusal → Type 0
RefusesWords q refusal = RefusesRelation q.relation refusal ⊎ RefusesEnvironment q refusal

-- Where the words are good, the index is refused, which is of these members of its file; or it is
-- accepted, and an architecture list of the relation contains a wildcard.
pub record RefusesIndex (members : Members) (q : Question) (text : List ℕ) (refusal : Refusal) :
    Type 0 where
  pub good : IsGood q
  pub refused : refusal_of (doc_of members) text ≡ Some refusal

pub record RefusesWildcard (members : Members) (q : Question) (text : List ℕ) (refusal : Refusal) :
    Type 0 where
  pub good : IsGood q
  pub packages : List Listed
  pub lists : ListsMembers members text packages
  pub holds : IsTrue (some_wildcard good.relation)
  pub is : refusal ≡ wildcard

abbrev pub RefusesQuery : Members → Question → List ℕ → Refusal → Type 0
RefusesQuery members q text refusal =
    RefusesWords q refusal
    ⊎ RefusesIndex members q text refusal
    ⊎ RefusesWildcard members q text refusal

-- ---- the answer

-- The words are good, the index is accepted, no architecture list contains a wildcard, and these
-- are the answers for the relation's groups.
pub record IsReported (members : Members) (q : Question) (text : List ℕ) (answers : List Answer) :
    Type 0 where
  pub good : IsGood q
  pub packages : List Listed
  pub lists : ListsMembers members text packages
  pub plain : IsFalse (some_wildcard good.relation)
  pub is : answers ≡ report packages good.relation (environment_in q)

-- ---- its parts

-- the relation that a text is, or its refusal
abbrev pub ParsesRelation : List ℕ → Result RelationText Fault → Type 0
ParsesRelation text (Ok relation) = SpellsRelation text (text_meaning relation)
ParsesRelation text (Err fault) = RefusedOrMemory fault (RefusesRelation text)

-- the environment that names are, or their refusal
abbrev pub MakesEnvironment : List ℕ → List (List ℕ) → Result Env Fault → Type 0
MakesEnvironment target profiles (Ok environment) =
    IsTrue (is_environment target profiles)
    × (environment_of environment ≡ environment_with target profiles)
MakesEnvironment target profiles (Err fault) = RefusedOrMemory fault
    (λ refusal. IsFalse (is_environment target profiles) × (refusal ≡ bad_environment))

-- the report of a relation, or its refusal for a wildcard
abbrev pub ReportsOf : List Listed → Relation → Environment → Result Report Fault → Type 0
ReportsOf packages relation environment (Ok found) =
    IsFalse (some_wildcard relation) × (report_of found ≡ report packages relation environment)
ReportsOf packages relation environment (Err fault) =
    RefusedOrMemory fault (λ refusal. IsTrue (some_wildcard relation) × (refusal ≡ wildcard))

-- a question of these names, about `aa`
abbrev about_aa : List ℕ → List (List ℕ) → Question
about_aa target profiles = question target profiles (codes "aa")

questions : (about_aa (codes "amd64") (codes "cross" ∷ codes "nocheck" ∷ []) ≡ record {
  target = codes "amd64";
  profiles = codes "cross" ∷ codes "nocheck" ∷ [];
  relation = codes "aa";
})
    × (environment_in (about_aa (codes "amd64") (codes "cross" ∷ codes "nocheck" ∷ [])) ≡ record {
      target = codes "amd64";
      native = codes "amd64";
      profiles = codes "cross" ∷ codes "nocheck" ∷ [];
    })
questions = (refl, refl)

environments : (has_environment (about_aa (codes "amd64") []) ≡ true)
    × (has_environment (about_aa (codes "amd64") (codes "cross" ∷ codes "nocheck" ∷ [])) ≡ true)
    × (has_environment (about_aa (codes "any") []) ≡ false)
    × (has_environment (about_aa (codes "amd64") (codes "cross" ∷ codes "No" ∷ [])) ≡ false)
environments = (refl, refl, refl, refl)

-- the codes of refusals, none of which has a line
numbers : (number_of bad_relation.code ≡ 19) × (number_of bad_environment.code ≡ 23)
    × (number_of wildcard.code ≡ 22) × (bad_relation.line ≡ 0) × (bad_environment.line ≡ 0)
    × (wildcard.line ≡ 0)
numbers = (refl, refl, refl, refl, refl, refl)
