-- The lines of reasons, each after that of the package that they rule out. The form of the lines is
-- this project's own.
use Rattle.std.specs.Prelude.{◌≡◌, ℕ, ◌==◌, Bool, true, false, cond, List, [], ◌∷◌, ◌++◌, map, codes, refl}
use Rattle.std.specs.Fmt.{decimal, digits}
use Rattle.std.specs.List.{concat, flat_map}
use Rattle.deb_health.specs.Lines.{line_at, listed}
use Rattle.deb_index.specs.Alternatives.{alone}
use Rattle.deb_index.specs.Listed.{Listed}
use Rattle.deb_index.specs.ReportText.{canonical_version, package_line}
use Rattle.deb_index.specs.Reports.{Numbered}
use Rattle.deb_relation.specs.Texts.{group_text}
use Rattle.deb_version.specs.Canonical.{version_text}
use Rattle.deb_install.specs.Answers.{AskedNames, answer_lines, asked_line, is_asked, lines_from, names_asked}
use Rattle.deb_install.specs.Reasons.{Reason, Needs, NeedsName, IsLeftOut, Excludes}
use Rattle.deb_install.specs.declared.answer.Answer.{Answer}
use Rattle.deb_install.specs.declared.answer.Answer.TheVariants.{Installable, Uninstallable, Unsure, Undecided}

-- ` NUMBER PACKAGE VERSION ARCHITECTURE`
abbrev pub package_words : Numbered → List ℕ
package_words p =
    concat (codes " " ∷ decimal p.0 ∷ codes " " ∷ p.1.name ∷ codes " " ∷ version_text p.1.version
    ∷ codes " " ∷ p.1.architecture ∷ [])

-- the numbers of packages, each after a space
abbrev pub number_words : List ℕ → List ℕ
number_words [] = codes " none"
number_words (number ∷ numbers) =
    flat_map (λ other. codes " " ++ decimal other) (number ∷ numbers)

-- ` needs GROUP: NUMBER ..`, or the same of a name
abbrev pub need_words : List ℕ → List ℕ → List ℕ
need_words text candidates =
    concat (codes " needs " ∷ text ∷ codes ":" ∷ number_words candidates ∷ codes "\n" ∷ [])

abbrev pub essential_words : List ℕ → List ℕ
essential_words name = name ++ codes " (Essential)"

abbrev pub left_out_words : List ℕ
left_out_words = codes " is left out\n"

-- a line that begins with a package
abbrev pub line_with : List ℕ → Numbered → List ℕ
line_with words p = package_words p ++ words

-- ` NUMBER PACKAGE VERSION ARCHITECTURE excludes NUMBER PACKAGE VERSION ARCHITECTURE`
abbrev pub exclusion_line : Numbered → Numbered → List ℕ
exclusion_line p other =
    package_words p ++ (codes " excludes" ++ package_line canonical_version other)

abbrev pub reason_line : List Listed → Reason → List ℕ
reason_line packages (Needs number group candidates) =
    line_at (line_with (need_words (group_text group) candidates)) packages number
reason_line packages (NeedsName number name candidates) =
    line_at (line_with (need_words (essential_words name) candidates)) packages number
reason_line packages (IsLeftOut number) = line_at (line_with left_out_words) packages number
reason_line packages (Excludes number other) =
    line_at (λ p. line_at (exclusion_line p) packages other) packages number

-- Only a package that is uninstallable has reasons.
abbrev pub reason_lines : List Listed → Answer → List Reason → List ℕ
reason_lines packages Installable reasons = []
reason_lines packages Uninstallable reasons = flat_map (reason_line packages) reasons
reason_lines packages Unsure reasons = []
reason_lines packages Undecided reasons = []

-- only a package that is asked has lines
abbrev pub explained_line : AskedNames → List Listed → Answer → List Reason → Numbered → List ℕ
explained_line names packages answer reasons p =
    asked_line names answer p
    ++ cond (is_asked names p.1.name) (reason_lines packages answer reasons) []

-- the lines of all packages that are asked, in their order, with reasons
abbrev pub explained_lines : AskedNames → (ℕ → Answer) → (ℕ → List Reason) → List Listed
    → List ℕ
explained_lines names answer reasons packages =
    lines_from (λ p. explained_line names packages (answer p.0) (reasons p.0) p) 1 packages

-- with reasons, if they are asked
abbrev pub lines_with : Bool → AskedNames → (ℕ → Answer) → (ℕ → List Reason) → List Listed
    → List ℕ
lines_with true names answer reasons packages = explained_lines names answer reasons packages
lines_with false names answer reasons packages = answer_lines names answer packages

abbrev packages : List Listed
packages =
    listed (codes "aa") (codes "1.0-0") (codes "all")
    ∷ listed (codes "bb") (codes "2") (codes "all")
    ∷ listed (codes "cc") (codes "3") (codes "amd64") ∷ []

-- the second package needs cc or dd, which the third one meets, and ee, which none does; the third
-- one excludes the first, which is essential, and left out
abbrev five : List Reason
five =
    Needs 2 (alone (codes "cc") ∷ alone (codes "dd") ∷ []) (3 ∷ 12 ∷ [])
    ∷ Needs 2 (alone (codes "ee") ∷ []) [] ∷ Excludes 3 1
    ∷ NeedsName 3 (codes "aa") (1 ∷ []) ∷ IsLeftOut 1 ∷ []

worked-reasons : map (reason_line packages) five
    ≡ codes " 2 bb 2 all needs cc | dd: 3 12\n" ∷ codes " 2 bb 2 all needs ee: none\n"
    ∷ codes " 3 cc 3 amd64 excludes 1 aa 1.0 all\n"
    ∷ codes " 3 cc 3 amd64 needs aa (Essential): 1\n" ∷ codes " 1 aa 1.0 all is left out\n" ∷ []
unfolding group_text digits
worked-reasons = refl

-- numbers that no package has
worked-unlisted : map (reason_line packages) (Needs 0 [] [] ∷ Excludes 1 4 ∷ Excludes 0 1 ∷ [])
    ≡ [] ∷ [] ∷ [] ∷ []
worked-unlisted = refl

-- the first package isn't installable, the second one is in one reading, and of the third nothing
-- is known
abbrev reason : ℕ → List Reason
reason number = Excludes number 3 ∷ []

abbrev first : ℕ → Answer
first number = cond (number == 1) Uninstallable (cond (number == 2) Unsure Undecided)

worked-lines : map (λ names. lines_with true (names_asked names []) first reason packages)
    ([] ∷ (codes "bb" ∷ []) ∷ (codes "dd" ∷ []) ∷ [])
    ≡ (codes "uninstallable 1 aa 1.0 all\n 1 aa 1.0 all excludes 3 cc 3 amd64\n"
    ++ codes "unsure 2 bb 2 all\nundecided 3 cc 3 amd64\n")
    ∷ codes "unsure 2 bb 2 all\n" ∷ [] ∷ []
unfolding digits
worked-lines = refl

worked-without : lines_with false (names_asked (codes "aa" ∷ []) []) first reason packages
    ≡ codes "uninstallable 1 aa 1.0 all\n"
unfolding digits
worked-without = refl

worked-installable : reason_lines packages Installable five ≡ []
worked-installable = refl
