-- What is known of whether each package can be installed, and its lines. This project's own.
use Rattle.std.specs.Prelude.{◌≡◌, ℕ, ◌+◌, ◌==◌, ◌≤◌, ◌||◌, ◌&&◌, Bool, true, false, cond, not, List, [], ◌∷◌, ◌++◌, length, map, Some, codes, refl}
use Rattle.std.specs.Fmt.{digits}
use Rattle.std.specs.List.{slice_get, slice_index_or}
use Rattle.deb_base.specs.Literals.{lent}
use Rattle.deb_control.specs.Documents.{Meaning}
use Rattle.deb_health.specs.Lines.{listed}
use Rattle.deb_index.specs.Listed.{Listed}
use Rattle.deb_index.specs.ReportText.{canonical_version, package_line}
use Rattle.deb_index.specs.Reports.{Numbered}
use Rattle.deb_relation.specs.Applying.{Environment, is_among}
use Rattle.deb_relation.specs.Views.{names_of}
use Rattle.deb_solve.specs.declared.verdict.Verdict.{Verdict}
use Rattle.deb_solve.specs.declared.verdict.Verdict.TheVariants as solved
use Rattle.deb_install.specs.Installable.{IsInstallable}
use Rattle.deb_install.specs.Terms.{Terms}
use Rattle.deb_install.specs.declared.answer.Answer.{Answer}
use Rattle.deb_install.specs.declared.answer.Names.{Names}
use Rattle.deb_install.specs.declared.answer.Answer.TheVariants.{Installable, Uninstallable, Unsure, Undecided}
use Rattle.deb_install.specs.declared.readings.Readings.{Readings}
use Rattle.deb_install.specs.declared.readings.Readings.TheVariants.{Every, One}

-- What an answer says of a package. `Undecided` says nothing.
abbrev pub Says : Answer → Terms → Environment → List Listed → Meaning → ℕ → Type 0
Says Installable t environment packages meaning number =
    IsInstallable Every t environment packages meaning number
Says Uninstallable t environment packages meaning number =
    IsInstallable One t environment packages meaning number → ⊥
Says Unsure t environment packages meaning number =
    IsInstallable One t environment packages meaning number
    × (IsInstallable Every t environment packages meaning number → ⊥)
Says Undecided t environment packages meaning number = Unit {0}

-- An answer of each package, by its number, is true.
abbrev pub AreAnswers : Terms → Environment → List Listed → Meaning → (ℕ → Answer) → Type 0
AreAnswers t environment packages meaning answer =
    (number : ℕ) → 1 ≤ number → number ≤ length packages
    → Says (answer number) t environment packages meaning number

-- `WORD NUMBER PACKAGE VERSION ARCHITECTURE`; an installable package has no line
abbrev pub answer_line : Answer → Numbered → List ℕ
answer_line Installable p = []
answer_line Uninstallable p = codes "uninstallable" ++ package_line canonical_version p
answer_line Unsure p = codes "unsure" ++ package_line canonical_version p
answer_line Undecided p = codes "undecided" ++ package_line canonical_version p

-- the names of packages that are asked, where no name means all, and those that are left out
pub record AskedNames : Type 0 where
  pub asked : List (List ℕ)
  pub without : List (List ℕ)

abbrev pub names_asked : List (List ℕ) → List (List ℕ) → AskedNames
names_asked asked without = record { asked = asked; without = without }

abbrev pub names_in : Names → AskedNames
names_in names = names_asked (names_of names.asked.now) (names_of names.without.now)

-- A package is asked if it isn't left out, and its name is one of these or there are none.
abbrev pub is_asked : AskedNames → List ℕ → Bool
is_asked names name =
    not (is_among name names.without)
    && ((length names.asked == 0) || is_among name names.asked)

-- only a package that is asked has a line
abbrev pub asked_line : AskedNames → Answer → Numbered → List ℕ
asked_line names answer p = cond (is_asked names p.1.name) (answer_line answer p) []

-- the lines of these packages, of which the first has this number
abbrev pub lines_from : (Numbered → List ℕ) → ℕ → List Listed → List ℕ
lines_from line n [] = []
lines_from line n (p ∷ packages) = line (n, p) ++ lines_from line (n + 1) packages

-- the lines of all packages that are asked, in their order
abbrev pub answer_lines : AskedNames → (ℕ → Answer) → List Listed → List ℕ
answer_lines names answer packages =
    lines_from (λ p. asked_line names (answer p.0) p) 1 packages

-- Of packages with such numbers verdicts in these readings are true.
pub record AreVerdictsIn (readings : Readings) (t : Terms) (environment : Environment)
    (packages : List Listed) (meaning : Meaning) (verdicts : List Verdict) : Type 0 where
  pub yes : (number : ℕ) → 1 ≤ number → number ≤ length packages
      → slice_get verdicts number ≡ Some solved.Installable
      → IsInstallable readings t environment packages meaning number
  pub no : (number : ℕ) → 1 ≤ number → number ≤ length packages
      → slice_get verdicts number ≡ Some solved.Uninstallable
      → IsInstallable readings t environment packages meaning number → ⊥

-- the answer by the verdict in every reading and, if that is no, by the one in one reading
abbrev pub answer_by : Verdict → Verdict → Answer
answer_by solved.Installable one = Installable
answer_by solved.Undecided one = Undecided
answer_by solved.Uninstallable solved.Installable = Unsure
answer_by solved.Uninstallable solved.Uninstallable = Uninstallable
answer_by solved.Uninstallable solved.Undecided = Undecided

abbrev pub answer_at : List Verdict → List Verdict → ℕ → Answer
answer_at every one number =
    answer_by (slice_index_or every number solved.Undecided)
    (slice_index_or one number solved.Undecided)

abbrev bb : Numbered
bb = (7, listed (codes "bb") (codes "1.0-0") (codes "amd64"))

worked-lines : map (λ answer. answer_line answer bb)
    (Installable ∷ Uninstallable ∷ Unsure ∷ Undecided ∷ [])
    ≡ [] ∷ codes "uninstallable 7 bb 1.0 amd64\n" ∷ codes "unsure 7 bb 1.0 amd64\n"
    ∷ codes "undecided 7 bb 1.0 amd64\n" ∷ []
unfolding digits
worked-lines = refl

-- without aa
abbrev without_aa : List (List ℕ) → AskedNames
without_aa names = names_asked names (codes "aa" ∷ [])

worked-names : (without_aa [] ≡ record { asked = []; without = codes "aa" ∷ [] })
    × (names_in (record {
      asked = lent (lent (codes "bb") ∷ []);
      without = lent (lent (codes "aa") ∷ []);
    }) ≡ without_aa (codes "bb" ∷ []))
worked-names = (refl, refl)

worked-asked : (map (λ names. is_asked (names_asked names []) (codes "bb"))
    ([] ∷ (codes "bb" ∷ []) ∷ (codes "aa" ∷ codes "bb" ∷ []) ∷ (codes "b" ∷ []) ∷ [])
    ≡ true ∷ true ∷ true ∷ false ∷ [])
    × (map (λ names. is_asked (without_aa names) (codes "aa")) ([] ∷ (codes "aa" ∷ []) ∷ [])
    ≡ false ∷ false ∷ [])
    × (is_asked (without_aa []) (codes "bb") ≡ true)
    × (asked_line (without_aa (codes "aa" ∷ [])) Uninstallable bb ≡ [])
    × (asked_line (without_aa (codes "bb" ∷ [])) Unsure bb ≡ codes "unsure 7 bb 1.0 amd64\n")
unfolding digits
worked-asked = (refl, refl, refl, refl, refl)

-- the second package alone isn't installable
abbrev only : ℕ → Answer
only number = cond (number == 2) Uninstallable Installable

worked-all : map (λ names. answer_lines (names_asked names []) only
    (listed (codes "aa") (codes "1") (codes "all")
    ∷ listed (codes "bb") (codes "2") (codes "all") ∷ []))
    ([] ∷ (codes "bb" ∷ []) ∷ (codes "aa" ∷ []) ∷ [])
    ≡ codes "uninstallable 2 bb 2 all\n" ∷ codes "uninstallable 2 bb 2 all\n" ∷ [] ∷ []
unfolding digits
worked-all = refl

worked-answers : map (λ every. map (answer_by every)
    (solved.Installable ∷ solved.Uninstallable ∷ solved.Undecided ∷ []))
    (solved.Installable ∷ solved.Uninstallable ∷ solved.Undecided ∷ [])
    ≡ (Installable ∷ Installable ∷ Installable ∷ [])
    ∷ (Unsure ∷ Uninstallable ∷ Undecided ∷ [])
    ∷ (Undecided ∷ Undecided ∷ Undecided ∷ []) ∷ []
worked-answers = refl

-- of a package without verdicts nothing is known
worked-at : map (answer_at (solved.Installable ∷ solved.Uninstallable ∷ [])
    (solved.Installable ∷ [])) (0 ∷ 1 ∷ 2 ∷ []) ≡ Installable ∷ Undecided ∷ Undecided ∷ []
worked-at = refl
