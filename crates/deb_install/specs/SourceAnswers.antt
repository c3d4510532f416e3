-- What is known of whether each source package can be built, and its line. Debian Policy 5.6.12;
-- the form of the lines is this project's own.
use Rattle.std.specs.Prelude.{◌≡◌, ℕ, ◌+◌, ◌-◌, ◌==◌, cond, List, [], ◌∷◌, ◌++◌, drop, length, map, Some, codes, refl}
use Rattle.std.specs.Fmt.{decimal, digits}
use Rattle.std.specs.List.{concat, slice_get}
use Rattle.deb_version.specs.Places.{version_in}
use Rattle.deb_relation.specs.Applying.{Environment}
use Rattle.deb_field.specs.Values.{ValueMeaning, NameMeans, VersionMeans}
use Rattle.deb_control.specs.Documents.{Meaning}
use Rattle.deb_control.specs.FieldWords.{word_under}
use Rattle.deb_control.specs.ValueFiles.{ValueEntries}
use Rattle.deb_index.specs.Listed.{Listed}
use Rattle.deb_solve.specs.Verdicts.{AreVerdicts}
use Rattle.deb_solve.specs.declared.universe.Universe.{Universe}
use Rattle.deb_solve.specs.declared.verdict.Verdict.{Verdict}
use Rattle.deb_solve.specs.declared.verdict.Verdict.TheVariants as solved
use Rattle.deb_install.specs.Buildable.{IsBuildable}
use Rattle.deb_install.specs.SourceKinds.{name_field}
use Rattle.deb_install.specs.Terms.{Terms}
use Rattle.deb_install.specs.declared.answer.Answer.{Answer}
use Rattle.deb_install.specs.declared.answer.Answer.TheVariants.{Installable, Uninstallable, Unsure, Undecided}
use Rattle.deb_install.specs.declared.readings.Readings.{Readings}
use Rattle.deb_install.specs.declared.readings.Readings.TheVariants.{Every, One}
use Rattle.deb_install.specs.declared.source_kind.SourceKind.{SourceKind}
use Rattle.deb_install.specs.declared.source_kind.SourceKind.TheVariants.{Sources, Source}

-- What an answer says of a source package with these values. `Undecided` says nothing.
abbrev pub SaysOfSource : Answer → Terms → Environment → List Listed → Meaning
    → ValueEntries ValueMeaning → Type 0
SaysOfSource Installable t environment packages meaning values =
    IsBuildable Every t environment packages meaning values
SaysOfSource Uninstallable t environment packages meaning values =
    IsBuildable One t environment packages meaning values → ⊥
SaysOfSource Unsure t environment packages meaning values =
    IsBuildable One t environment packages meaning values
    × (IsBuildable Every t environment packages meaning values → ⊥)
SaysOfSource Undecided t environment packages meaning values = Unit {0}

-- An answer of each source package, by how many come before it, is true.
abbrev pub AreSourceAnswers : Terms → Environment → List Listed → Meaning → Meaning
    → (ℕ → Answer) → Type 0
AreSourceAnswers t environment packages meaning sources answer =
    (k : ℕ) (values : ValueEntries ValueMeaning) → slice_get sources k ≡ Some values
    → SaysOfSource (answer k) t environment packages meaning values

-- ` NUMBER PACKAGE VERSION source` and a newline
abbrev pub source_words : ℕ → List ℕ → List ℕ → List ℕ
source_words number name version =
    concat (codes " " ∷ decimal number ∷ codes " " ∷ name ∷ codes " " ∷ version ∷ codes " "
    ∷ codes "source" ∷ codes "\n" ∷ [])

-- one that can be built has no line
abbrev pub source_line : Answer → ℕ → List ℕ → List ℕ → List ℕ
source_line Installable number name version = []
source_line Uninstallable number name version =
    codes "uninstallable" ++ source_words number name version
source_line Unsure number name version = codes "unsure" ++ source_words number name version
source_line Undecided number name version =
    codes "undecided" ++ source_words number name version

-- the line of the source package with this number and these values
abbrev pub line_of : SourceKind → Answer → ℕ → ValueEntries ValueMeaning → List ℕ
line_of kind answer number values =
    source_line answer number (word_under (name_field kind) values)
    (word_under (codes "Version") values)

-- the lines of these source packages, which come after so many
abbrev pub source_lines_from : SourceKind → (ℕ → Answer) → ℕ → Meaning → List ℕ
source_lines_from kind answer n [] = []
source_lines_from kind answer n (values ∷ more) =
    line_of kind (answer n) (n + 1) values ++ source_lines_from kind answer (n + 1) more

-- the lines of all, in their order
abbrev pub source_lines : SourceKind → (ℕ → Answer) → Meaning → List ℕ
source_lines kind answer sources = source_lines_from kind answer 0 sources

-- Verdicts of these source packages in these readings, by how many come before each, are true.
pub record AreSourceVerdicts (readings : Readings) (t : Terms)
    (environment : Environment) (packages : List Listed) (meaning sources : Meaning)
    (verdicts : List Verdict) : Type 0 where
  pub yes : (k : ℕ) (values : ValueEntries ValueMeaning) → slice_get sources k ≡ Some values
      → slice_get verdicts k ≡ Some solved.Installable
      → IsBuildable readings t environment packages meaning values
  pub no : (k : ℕ) (values : ValueEntries ValueMeaning) → slice_get sources k ≡ Some values
      → slice_get verdicts k ≡ Some solved.Uninstallable
      → IsBuildable readings t environment packages meaning values → ⊥

-- They are the last of true verdicts on a universe, so many.
pub record AreLastVerdicts (u : Universe) (count : ℕ) (last : List Verdict) : Type 0 where
  pub verdicts : List Verdict
  pub are : AreVerdicts u verdicts
  pub is : last ≡ drop (length verdicts - count) verdicts

-- bb in an index, and aa in a description
abbrev bb : ValueEntries ValueMeaning
bb =
    (codes "Package", NameMeans (codes "bb"))
    ∷ (codes "Version", VersionMeans (version_in (codes "1.0-0"))) ∷ []

abbrev aa : ValueEntries ValueMeaning
aa =
    (codes "Source", NameMeans (codes "aa"))
    ∷ (codes "Version", VersionMeans (version_in (codes "2"))) ∷ []

worked-lines : (map (λ answer. line_of Sources answer 7 bb)
    (Installable ∷ Uninstallable ∷ Unsure ∷ Undecided ∷ [])
    ≡ [] ∷ codes "uninstallable 7 bb 1.0 source\n" ∷ codes "unsure 7 bb 1.0 source\n"
    ∷ codes "undecided 7 bb 1.0 source\n" ∷ [])
    × (line_of Source Uninstallable 1 aa ≡ codes "uninstallable 1 aa 2 source\n")
unfolding digits
worked-lines = (refl, refl)

-- the second source package alone has a line, under its number
abbrev only : ℕ → Answer
only k = cond (k == 1) Uninstallable Installable

worked-all : source_lines Sources only (bb ∷ bb ∷ []) ≡ codes "uninstallable 2 bb 1.0 source\n"
unfolding digits
worked-all = refl
