-- Laws of lines: canonical text changes none, packages that are added add none, spelled versions
-- are equal to canonical ones, and a group has a line by its readings, also with an old index.
-- Debian Policy 5.1, 7.1 and 11.1; the canonical text is this project's own.
use Rattle.std.specs.Prelude.{◌≡◌, ℕ, ◌+◌, Bool, true, false, List, [], ◌∷◌, ◌++◌, length, map, Option, None, Some, codes, refl}
use Rattle.std.specs.List.{AllByRecursion, list_any}
use Rattle.std.specs.Option.{option_map}
use Rattle.std.specs.Str.{bytes_eq}
use Rattle.deb_relation.specs.Applying.{Environment}
use Rattle.deb_relation.specs.Meaning.{Group}
use Rattle.deb_base.specs.declared.version_text.VersionText.{VersionText}
use Rattle.deb_base.specs.declared.version_text.VersionText.TheVariants.{Canonical, Spelled}
use Rattle.deb_version.specs.Canonical.{version_text}
use Rattle.deb_version.specs.Faults.{first_fault}
use Rattle.deb_version.specs.Places.{version_in}
use Rattle.deb_control.specs.Documents.{Meaning, Accepted, canonical_text}
use Rattle.deb_control.specs.Pairs.{Pairwise}
use Rattle.deb_index.specs.Alternatives.{alone, with_list}
use Rattle.deb_index.specs.Files.{ListsFiles}
use Rattle.deb_index.specs.Listed.{Listed}
use Rattle.deb_index.specs.Members.{ListsMembers, doc_of as doc_of_members}
use Rattle.deb_index.specs.Reports.{group_verdict}
use Rattle.deb_index.specs.Without.{without}
use Rattle.deb_index.specs.declared.members.Members.{Members}
use Rattle.deb_index.specs.declared.verdict.Verdict.{Verdict}
use Rattle.deb_index.specs.declared.verdict.Verdict.TheVariants.{Ignored, Met, Unmet}
use Rattle.deb_unmet.specs.Asked.{doc_of, request_for}
use Rattle.deb_unmet.specs.Asking.{asks_of}
use Rattle.deb_unmet.specs.Files.{Asks, file_lines, asks as asks_with, without as without_any, with_two}
use Rattle.deb_unmet.specs.GroupReadings.{EachReading, IsMeaning, SomeReading, verdict_in}
use Rattle.deb_unmet.specs.Readings.{applies_by}
use Rattle.deb_unmet.specs.Scopes.{Scope, over_packages, with_old}
use Rattle.deb_unmet.specs.Troubles.{can_be_otherwise, can_be_unmet, trouble, trouble_in}
use Rattle.deb_unmet.specs.declared.applying.Applies.{Applies}
use Rattle.deb_unmet.specs.declared.applying.Applies.TheVariants.{Surely, Maybe, Never}
use Rattle.deb_unmet.specs.declared.asked.Asked.{Asked}
use Rattle.deb_unmet.specs.declared.trouble.Trouble.{Trouble}
use Rattle.deb_unmet.specs.declared.trouble.Trouble.TheVariants as troubles
use Rattle.deb_relation.specs.Texts.{group_text}
use Rattle.std.specs.Fmt.{digits}

-- This holds of what there is, or there is neither.
abbrev pub IfBoth : {A B : Type 0} → (A → B → Type 0) → Option A → Option B → Type 0
IfBoth related None None = Unit {0}
IfBoth related None (Some y) = ⊥
IfBoth related (Some x) None = ⊥
IfBoth related (Some x) (Some y) = related x y

-- The scope of these indexes and of an old one, if there is one: it has the packages that they
-- list, without the names that are left out, and those that the old one lists.
pub record IsScopeOf (members : Members) (indexes : List (List ℕ)) (old : Option (List ℕ))
    (scope : Scope) : Type 0 where
  pub listed : List Listed
  pub lists : ListsFiles members indexes listed
  pub left : scope.packages ≡ without scope.without listed
  pub unless : IfBoth (ListsMembers members) old scope.unless

-- With canonical versions, the lines don't change if the indexes, the file or all of them are
-- replaced by their canonical text, an old index too.
abbrev pub CanonicalTextChangesNoLine : Type 0
CanonicalTextChangesNoLine =
    (asked : Asked) (environment : Environment) (members : Members) (indexes : List (List ℕ))
    (meanings : List Meaning) (old : Option (List ℕ)) (of_old : Option Meaning)
    (scope other_scope : Scope) (file : List ℕ) (meaning other : Meaning)
    → Pairwise (Accepted (doc_of_members members)) indexes meanings
    → IfBoth (Accepted (doc_of_members members)) old of_old
    → IsScopeOf members indexes old scope
    → IsScopeOf members (map canonical_text meanings) (option_map canonical_text of_old) other_scope
    → other_scope.without ≡ scope.without → Accepted (doc_of asked) file meaning
    → Accepted (doc_of asked) (canonical_text meaning) other
    → (file_lines (asks_of (request_for asked Canonical) environment other_scope) file meaning
    ≡ file_lines (asks_of (request_for asked Canonical) environment scope) file meaning)
    × (file_lines (asks_of (request_for asked Canonical) environment scope)
    (canonical_text meaning) other
    ≡ file_lines (asks_of (request_for asked Canonical) environment scope) file meaning)
    × (file_lines (asks_of (request_for asked Canonical) environment other_scope)
    (canonical_text meaning) other
    ≡ file_lines (asks_of (request_for asked Canonical) environment scope) file meaning)

-- Packages that are added, before the others or after them, add no line.
abbrev pub AddedPackagesAddNoLine : Type 0
AddedPackagesAddNoLine =
    (scope : Scope) (before after : List Listed) (environment : Environment) (group : Group)
    → trouble_in scope environment group ≡ None
    → trouble_in (over_packages (before ++ (scope.packages ++ after)) scope) environment group
    ≡ None

-- the lines of paragraphs that come after so many, with these texts of their versions
abbrev pub lines_with : Asks → ℕ → List (List ℕ) → Meaning → List ℕ
lines_with asks n words [] = []
lines_with asks n [] (values ∷ more) = []
lines_with asks n (word ∷ words) (values ∷ more) =
    asks.lines (n + 1) word values ++ lines_with asks (n + 1) words more

-- The texts of the versions of a file's paragraphs: each is a version. The file's lines with
-- spelled versions have these texts, and those with canonical versions have the canonical text of
-- each; they don't differ otherwise. `asks` is what is asked with a text of versions.
pub record SpellsVersions (asks : VersionText → Asks) (text : List ℕ) (meaning : Meaning) : Type 0
  where
    pub words : List (List ℕ)
    pub each : length words ≡ length meaning
    pub are_versions : AllByRecursion (λ word. first_fault word ≡ None) words
    pub spelled : file_lines (asks Spelled) text meaning
        ≡ lines_with (asks Spelled) 0 words meaning
    pub canonical : file_lines (asks Canonical) text meaning
        ≡ lines_with (asks Spelled) 0 (map (λ word. version_text (version_in word)) words) meaning

-- Whichever text of a version is chosen, the lines of an accepted file differ in that word alone,
-- and the spelled word is an equal version.
abbrev pub SpelledVersionsAreEqual : Type 0
SpelledVersionsAreEqual =
    (asked : Asked) (environment : Environment) (scope : Scope) (text : List ℕ)
    (meaning : Meaning) → Accepted (doc_of asked) text meaning
    → SpellsVersions (λ versions. asks_of (request_for asked versions) environment scope) text
    meaning

abbrev pub IsUnmet : Verdict → Type 0
IsUnmet verdict = verdict ≡ Unmet

abbrev pub IsOther : Verdict → Type 0
IsOther verdict = verdict ≡ Unmet → ⊥

-- A group can be unmet exactly if some reading says so, and otherwise exactly if some reading does.
pub record ReadingsDecide : Type 0 where
  pub unmet : (environment : Environment) (packages : List Listed) (group : Group)
      → can_be_unmet environment packages group ≡ true
      → SomeReading environment packages group IsUnmet
  pub is_unmet : (environment : Environment) (packages : List Listed) (group : Group)
      → SomeReading environment packages group IsUnmet
      → can_be_unmet environment packages group ≡ true
  pub other : (environment : Environment) (packages : List Listed) (group : Group)
      → can_be_otherwise environment packages group ≡ true
      → SomeReading environment packages group IsOther
  pub is_other : (environment : Environment) (packages : List Listed) (group : Group)
      → SomeReading environment packages group IsOther
      → can_be_otherwise environment packages group ≡ true

-- A group without a line is unmet in no reading, one whose line says `unmet` in each, and one whose
-- line says `unsure` in one reading and not in another.
pub record LinesSayReadings : Type 0 where
  pub none : (environment : Environment) (packages : List Listed) (group : Group)
      → trouble environment packages group ≡ None → EachReading environment packages group IsOther
  pub unmet : (environment : Environment) (packages : List Listed) (group : Group)
      → trouble environment packages group ≡ Some troubles.Unmet
      → EachReading environment packages group IsUnmet
  pub unsure : (environment : Environment) (packages : List Listed) (group : Group)
      → trouble environment packages group ≡ Some troubles.Unsure
      → SomeReading environment packages group IsUnmet
      × SomeReading environment packages group IsOther

-- With an old index a group has a line exactly if it is unmet over the packages in some reading,
-- and met or ignored over the old ones in every reading; it is the line that it has without the old
-- index.
pub record LinesWithOld : Type 0 where
  pub readings : (scope : Scope) (old : List Listed) (environment : Environment) (group : Group)
      (why : Trouble) → trouble_in (with_old (Some old) scope) environment group ≡ Some why
      → SomeReading environment scope.packages group IsUnmet × EachReading environment old group
      IsOther
  pub line : (scope : Scope) (old : List Listed) (environment : Environment) (group : Group)
      → SomeReading environment scope.packages group IsUnmet
      → EachReading environment old group IsOther
      → trouble_in (with_old (Some old) scope) environment group ≡ None → ⊥
  pub same : (scope : Scope) (old : List Listed) (environment : Environment) (group : Group)
      (why : Trouble) → trouble_in (with_old (Some old) scope) environment group ≡ Some why
      → trouble_in (with_old None scope) environment group ≡ Some why

-- A group that has no line over the old packages, and none with the old index, has none without it.
abbrev pub NoLineFromCleanOld : Type 0
NoLineFromCleanOld =
    (scope : Scope) (old : List Listed) (environment : Environment) (group : Group)
    → trouble environment old group ≡ None
    → trouble_in (with_old (Some old) scope) environment group ≡ None
    → trouble_in (with_old None scope) environment group ≡ None

-- Whatever the names in lists mean, a group without a line is met or ignored, and one whose line
-- says `unmet` is unmet.
pub record LinesAreSound : Type 0 where
  pub none : (environment : Environment) (packages : List Listed) (group : Group)
      (holds : List ℕ → Bool) → IsMeaning environment.target holds
      → trouble environment packages group ≡ None
      → IsOther (verdict_in holds environment packages group)
  pub unmet : (environment : Environment) (packages : List Listed) (group : Group)
      (holds : List ℕ → Bool) → IsMeaning environment.target holds
      → trouble environment packages group ≡ Some troubles.Unmet
      → verdict_in holds environment packages group ≡ Unmet

-- A query's verdict is that of the meaning in which a name holds the target only if it is the
-- target's own.
abbrev pub QueryReadsNames : Type 0
QueryReadsNames =
    (environment : Environment) (packages : List Listed) (group : Group)
    → group_verdict environment packages group
    ≡ verdict_in (λ name. bytes_eq name environment.target) environment packages group

-- no alternative's list may be read in two ways
abbrev pub is_undecided : Applies → Bool
is_undecided Surely = false
is_undecided Maybe = true
is_undecided Never = false

abbrev pub some_undecided : Environment → Group → Bool
some_undecided environment group = list_any (λ a. is_undecided (applies_by environment a)) group

abbrev pub unmet_alone : Verdict → Option Trouble
unmet_alone Ignored = None
unmet_alone Met = None
unmet_alone Unmet = Some troubles.Unmet

-- Where none may be read in two ways, a group has a line exactly if its verdict in a query is that
-- it is unmet, and the line says so.
abbrev pub DecidedAsQueried : Type 0
DecidedAsQueried =
    (environment : Environment) (packages : List Listed) (group : Group)
    → some_undecided environment group ≡ false
    → trouble environment packages group ≡ unmet_alone (group_verdict environment packages group)

worked-undecided : map is_undecided (Surely ∷ Maybe ∷ Never ∷ []) ≡ false ∷ true ∷ false ∷ []
worked-undecided = refl

worked-groups : map
    (some_undecided (record { target = codes "amd64"; native = codes "amd64"; profiles = [] }))
    ((alone (codes "aa") ∷ with_list (codes "bb") false (codes "i386") ∷ [])
    ∷ (alone (codes "aa") ∷ with_list (codes "bb") false (codes "linux-any") ∷ []) ∷ [] ∷ [])
    ≡ false ∷ true ∷ false ∷ []
worked-groups = refl

worked-verdicts : map unmet_alone (Ignored ∷ Met ∷ Unmet ∷ [])
    ≡ None ∷ None ∷ Some troubles.Unmet ∷ []
worked-verdicts = refl

-- no text, and one for the first of two paragraphs
worked-lines_with : (lines_with (asks_with Canonical) 1 [] (with_two ∷ []) ≡ [])
    × (lines_with (asks_with Canonical) 0 (codes "1" ∷ codes "02-0" ∷ [])
    (without_any ∷ with_two ∷ with_two ∷ [])
    ≡ codes "unmet 2 yy 02-0 source Build-Depends aa\nunmet 2 yy 02-0 source Build-Depends bb\n")
unfolding group_text digits
worked-lines_with = (refl, refl)
