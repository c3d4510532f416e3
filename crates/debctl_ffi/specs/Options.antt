-- What is answered to a program in C of the relations of a file that nothing in a loaded index
-- meets, with options: Debian Policy 5.6.8, 7.1, 7.2 and 7.7. The numbers of the options, the order
-- of refusals, and that an old index and names may be given, are this project's own.
use Rattle.std.specs.Prelude.{◌≡◌, ◌⊎◌, ℕ, ◌+◌, ◌<◌, ◌==◌, ◌&&◌, Bool, true, false, cond, List, [], ◌∷◌, map, Option, None, Some, Result, Ok, Err, IsTrue, IsFalse, codes, refl}
use Rattle.std.specs.Option.{option_map}
use Rattle.deb_base.specs.Faults.{RefusedOrMemory}
use Rattle.deb_base.specs.declared.fault.Fault.{Fault}
use Rattle.deb_base.specs.declared.refusal.Refusal.{Refusal}
use Rattle.deb_control.specs.Documents.{refusal_of}
use Rattle.deb_relation.specs.Applying.{Environment}
use Rattle.deb_relation.specs.Environments.{environment_of, environment_with, with_target}
use Rattle.deb_relation.specs.Targets.{is_environment, is_target}
use Rattle.deb_relation.specs.declared.environment.Env.{Env}
use Rattle.deb_index.specs.Indexes.{packages_of}
use Rattle.deb_index.specs.Listed.{Listed}
use Rattle.deb_index.specs.Questions.{bad_environment}
use Rattle.deb_index.specs.declared.index.Index.{Index}
use Rattle.deb_unmet.specs.Asked.{doc_of}
use Rattle.deb_unmet.specs.Scopes.{Scope}
use Rattle.deb_unmet.specs.declared.asked.Asked.{Asked}
use Rattle.deb_unmet.specs.declared.asked.Asked.TheVariants as asked
use Rattle.deb_unmet.specs.declared.asked.SourcesAsked.{SourcesAsked}
use Rattle.deb_unmet.specs.declared.asked.SourcesAsked.TheVariants.{All, OfTarget}
use Rattle.deb_unmet.specs.declared.asked.Strength.{Strength}
use Rattle.deb_unmet.specs.declared.asked.Strength.TheVariants.{Depends, Recommends}
use Rattle.deb_unmet.specs.declared.asking.Summary.{Summary}
use Rattle.debctl_ffi.specs.Answers.{counting, plain, refusing}
use Rattle.debctl_ffi.specs.Buffers.{Buffer}
use Rattle.debctl_ffi.specs.Loads.{HoldsNone}
use Rattle.debctl_ffi.specs.Replies.{Replies}
use Rattle.debctl_ffi.specs.Unmet.{HasLines}
use Rattle.debctl_ffi.specs.declared.answer.Answer.{Answer}
use Rattle.debctl_ffi.specs.declared.loaded.Loaded.{Loaded}

-- ---- what is asked

-- the numbers and the words of the call
pub record Wanted : Type 0 where
  pub kind : ℕ
  pub options : ℕ
  pub target : List ℕ
  pub all_for : List ℕ
  pub profiles : List (List ℕ)
  pub without : List (List ℕ)
  pub file : List ℕ

abbrev pub wanted : ℕ → ℕ → List ℕ → List ℕ → List (List ℕ) → List (List ℕ) → List ℕ → Wanted
wanted kind options target all_for profiles without file = record {
  kind = kind;
  options = options;
  target = target;
  all_for = all_for;
  profiles = profiles;
  without = without;
  file = file;
}

abbrev pub is_empty : List ℕ → Bool
is_empty [] = true
is_empty (b ∷ bs) = false

-- what the options ask of binary packages, and of source packages
abbrev pub strength_by : ℕ → Option Strength
strength_by options =
    cond (options == 0) (Some Depends) (cond (options == 1) (Some Recommends) None)

abbrev pub sources_by : ℕ → Option SourcesAsked
sources_by options = cond (options == 0) (Some OfTarget) (cond (options == 2) (Some All) None)

-- what a kind and options ask
abbrev pub asked_by : ℕ → ℕ → Option Asked
asked_by kind options =
    cond (kind == 0) (option_map asked.Binary (strength_by options))
    (cond (kind == 1) (option_map asked.Packages (strength_by options))
    (cond (kind == 2) (option_map asked.Source (sources_by options))
    (cond (kind == 3) (option_map asked.Sources (sources_by options)) None)))

-- the option of the old index
abbrev pub unless_number : Bool → ℕ
unless_number false = 0
unless_number true = 4

-- an architecture for packages without one is only for binary packages
abbrev pub takes_all_for : Asked → List ℕ → Bool
takes_all_for (asked.Packages strength) all_for = true
takes_all_for (asked.Binary strength) all_for = true
takes_all_for (asked.Sources which) all_for = is_empty all_for
takes_all_for (asked.Source which) all_for = is_empty all_for

-- This is asked, and whether an old index is.
pub record IsWanted (wanted : Wanted) (asks : Asked) (old : Bool) : Type 0 where
  pub own : ℕ
  pub options : wanted.options ≡ own + unless_number old
  pub few : own < 4
  pub asked : asked_by wanted.kind own ≡ Some asks
  pub all_for : takes_all_for asks wanted.all_for ≡ true

-- Nothing is.
abbrev pub WantsNothing : Wanted → Type 0
WantsNothing wanted = (asks : Asked) (old : Bool) → IsWanted wanted asks old → ⊥

-- ---- the environment

-- the target of packages whose own architecture can't be one, where it isn't empty
abbrev pub for_all : List ℕ → Environment → Environment
for_all [] environment = environment
for_all (b ∷ bs) environment = with_target (b ∷ bs) environment

abbrev pub is_for_all : List ℕ → Bool
is_for_all [] = true
is_for_all (b ∷ bs) = is_target (b ∷ bs)

abbrev pub environment_wanted : Wanted → Environment
environment_wanted wanted =
    for_all wanted.all_for (environment_with wanted.target wanted.profiles)

abbrev pub is_good : Wanted → Bool
is_good wanted = is_environment wanted.target wanted.profiles && is_for_all wanted.all_for

-- the environment that is made, or its refusal
abbrev pub MakesWanted : Wanted → Result Env Fault → Type 0
MakesWanted wanted (Ok environment) =
    IsTrue (is_good wanted) × (environment_of environment ≡ environment_wanted wanted)
MakesWanted wanted (Err fault) = RefusedOrMemory fault
    (λ refusal. IsFalse (is_good wanted) × (refusal ≡ bad_environment))

abbrev pub MakesTarget : List ℕ → Environment → Result Env Fault → Type 0
MakesTarget target environment (Ok made) =
    IsTrue (is_target target) × (environment_of made ≡ with_target target environment)
MakesTarget target environment (Err fault) = RefusedOrMemory fault
    (λ refusal. IsFalse (is_target target) × (refusal ≡ bad_environment))

-- ---- what it is asked over

-- The packages of the old index, if it is asked.
abbrev pub IsOld : Bool → Loaded → Option (List Listed) → Type 0
IsOld false unless packages = packages ≡ None
IsOld true unless packages =
    (index : Index) × ((unless.index ≡ Some index) × (packages ≡ Some (packages_of index)))

-- The packages of the index, those of the old one, and the names that are left out.
pub record IsOver (loaded unless : Loaded) (old : Bool) (names : List (List ℕ)) (scope : Scope)
    : Type 0 where
  pub index : Index
  pub is : loaded.index ≡ Some index
  pub packages : scope.packages ≡ packages_of index
  pub old_are : IsOld old unless scope.unless
  pub names_are : scope.without ≡ names

-- An index that is asked isn't loaded.
abbrev pub LacksIndex : Loaded → Loaded → Bool → Type 0
LacksIndex loaded unless false = HoldsNone loaded
LacksIndex loaded unless true = HoldsNone loaded ⊎ HoldsNone unless

-- ---- answers

-- These are the lines of the file.
pub record HasWanted (wanted : Wanted) (loaded unless : Loaded) (summary : Summary)
    (bytes : List ℕ) : Type 0 where
  pub asks : Asked
  pub old : Bool
  pub is_wanted : IsWanted wanted asks old
  pub good : IsTrue (is_good wanted)
  pub scope : Scope
  pub over : IsOver loaded unless old wanted.without scope
  pub has : HasLines asks (environment_wanted wanted) scope wanted.file summary bytes

-- There is no line, or there is one; the answer has the number of paragraphs.
pub record FindsWanted (wanted : Wanted) (loaded unless : Loaded) (told : Answer)
    (bytes : List ℕ) : Type 0 where
  pub summary : Summary
  pub has : HasWanted wanted loaded unless summary bytes
  pub is : told ≡ counting (cond summary.is_empty 0 1) summary.paragraphs

-- The environment is refused; or it is good, and the file is refused.
pub record RefusesWanted (wanted : Wanted) (told : Answer) : Type 0 where
  pub bad : IsFalse (is_good wanted)
  pub is : told ≡ refusing 2 bad_environment

pub record RefusesFile (wanted : Wanted) (told : Answer) : Type 0 where
  pub asks : Asked
  pub old : Bool
  pub is_wanted : IsWanted wanted asks old
  pub good : IsTrue (is_good wanted)
  pub refusal : Refusal
  pub refused : refusal_of (doc_of asks) wanted.file ≡ Some refusal
  pub is : told ≡ refusing 3 refusal

-- An index that is asked isn't loaded.
pub record NotLoaded (wanted : Wanted) (loaded unless : Loaded) (told : Answer) : Type 0 where
  pub asks : Asked
  pub old : Bool
  pub is_wanted : IsWanted wanted asks old
  pub lacks : LacksIndex loaded unless old
  pub is : told ≡ plain 7

-- the environment, or the answer that says why there is none
abbrev pub AnswersEnvironment : Wanted → Result Env Answer → Type 0
AnswersEnvironment wanted (Ok environment) =
    IsTrue (is_good wanted) × (environment_of environment ≡ environment_wanted wanted)
AnswersEnvironment wanted (Err told) = RefusesWanted wanted told ⊎ (told ≡ plain 5)

abbrev pub WantedFails : Wanted → Loaded → Loaded → Answer → Type 0
WantedFails wanted loaded unless told =
    RefusesWanted wanted told
    ⊎ RefusesFile wanted told
    ⊎ (told ≡ plain 5)
    ⊎ ((told ≡ plain 6) × WantsNothing wanted)
    ⊎ NotLoaded wanted loaded unless told

abbrev pub AnswersWanted : Wanted → Loaded → Loaded → Buffer ℕ → Answer → Type 0
AnswersWanted wanted loaded unless =
    Replies (FindsWanted wanted loaded unless) (WantedFails wanted loaded unless)

-- ---- worked cases

worked-asked : (map (λ kind. map (asked_by kind) (0 ∷ 1 ∷ 2 ∷ 3 ∷ []))
    (0 ∷ 1 ∷ 2 ∷ 3 ∷ 4 ∷ [])
    ≡ (Some (asked.Binary Depends) ∷ Some (asked.Binary Recommends) ∷ None ∷ None ∷ [])
    ∷ (Some (asked.Packages Depends) ∷ Some (asked.Packages Recommends) ∷ None ∷ None ∷ [])
    ∷ (Some (asked.Source OfTarget) ∷ None ∷ Some (asked.Source All) ∷ None ∷ [])
    ∷ (Some (asked.Sources OfTarget) ∷ None ∷ Some (asked.Sources All) ∷ None ∷ [])
    ∷ (None ∷ None ∷ None ∷ None ∷ []) ∷ []) × (map unless_number (false ∷ true ∷ []) ≡ 0 ∷ 4 ∷ [])
worked-asked = (refl, refl)

worked-all_for : (map (takes_all_for (asked.Sources All)) ([] ∷ codes "i386" ∷ [])
    ≡ true ∷ false ∷ [])
    × (map (takes_all_for (asked.Source OfTarget)) ([] ∷ codes "i386" ∷ []) ≡ true ∷ false ∷ [])
    × (takes_all_for (asked.Packages Depends) (codes "i386") ≡ true)
    × (takes_all_for (asked.Binary Depends) (codes "i386") ≡ true)
worked-all_for = (refl, refl, refl, refl)

abbrev of_all : List ℕ → Wanted
of_all all_for =
    wanted 1 5 (codes "amd64") all_for (codes "nocheck" ∷ []) (codes "aa" ∷ []) (codes "x")

worked-wanted : of_all [] ≡ record {
  kind = 1;
  options = 5;
  target = codes "amd64";
  all_for = [];
  profiles = codes "nocheck" ∷ [];
  without = codes "aa" ∷ [];
  file = codes "x";
}
worked-wanted = refl

worked-environments : map (λ all_for. environment_wanted (of_all all_for))
    ([] ∷ codes "i386" ∷ [])
    ≡ environment_with (codes "amd64") (codes "nocheck" ∷ [])
    ∷ record { target = codes "i386"; native = codes "amd64"; profiles = codes "nocheck" ∷ [] }
    ∷ []
worked-environments = refl

worked-good : map (λ all_for. is_good (of_all all_for))
    ([] ∷ codes "i386" ∷ codes "all" ∷ codes "linux-any" ∷ [])
    ≡ true ∷ true ∷ false ∷ false ∷ []
worked-good = refl
