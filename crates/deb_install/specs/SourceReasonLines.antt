-- The lines of reasons, each after that of the source package that they rule out. The form of the
-- lines is this project's own.
use Rattle.std.specs.Prelude.{◌≡◌, ℕ, ◌+◌, ◌-◌, ◌==◌, Bool, true, false, cond, List, [], ◌∷◌, ◌++◌, map, codes, refl}
use Rattle.std.specs.Fmt.{decimal, digits}
use Rattle.std.specs.List.{concat, flat_map, slice_get}
use Rattle.std.specs.Option.{option_map_or}
use Rattle.deb_field.specs.Values.{ValueMeaning, NameMeans, VersionMeans}
use Rattle.deb_control.specs.Documents.{Meaning}
use Rattle.deb_control.specs.FieldWords.{word_under}
use Rattle.deb_control.specs.ValueFiles.{ValueEntries}
use Rattle.deb_health.specs.Lines.{line_at, listed}
use Rattle.deb_index.specs.Alternatives.{alone}
use Rattle.deb_index.specs.Listed.{Listed}
use Rattle.deb_index.specs.ReportText.{canonical_version, package_line}
use Rattle.deb_relation.specs.Texts.{group_text}
use Rattle.deb_version.specs.Places.{version_in}
use Rattle.deb_install.specs.ReasonLines.{need_words, reason_line}
use Rattle.deb_install.specs.Reasons.{IsLeftOut}
use Rattle.deb_install.specs.SourceAnswers.{line_of, source_lines}
use Rattle.deb_install.specs.SourceKinds.{name_field}
use Rattle.deb_install.specs.SourceReasons.{SourceReason, BuildNeeds, BuildExcludes, OfPackage}
use Rattle.deb_install.specs.declared.answer.Answer.{Answer}
use Rattle.deb_install.specs.declared.answer.Answer.TheVariants.{Installable, Uninstallable, Unsure, Undecided}
use Rattle.deb_install.specs.declared.source_kind.SourceKind.{SourceKind}
use Rattle.deb_install.specs.declared.source_kind.SourceKind.TheVariants.{Sources}

-- ` NUMBER PACKAGE VERSION source`
abbrev pub source_head : ℕ → List ℕ → List ℕ → List ℕ
source_head number name version =
    concat (codes " " ∷ decimal number ∷ codes " " ∷ name ∷ codes " " ∷ version ∷ codes " "
    ∷ codes "source" ∷ [])

-- a line that begins with the source package with a number, if there is one
abbrev pub source_with : SourceKind → Meaning → ℕ → List ℕ → List ℕ
source_with kind sources number words =
    option_map_or (λ values. source_head number (word_under (name_field kind) values)
    (word_under (codes "Version") values) ++ words) (slice_get sources (number - 1)) []

abbrev pub source_reason_line : SourceKind → List Listed → Meaning → SourceReason → List ℕ
source_reason_line kind packages sources (BuildNeeds number group candidates) =
    source_with kind sources number (need_words (group_text group) candidates)
source_reason_line kind packages sources (BuildExcludes number other) =
    line_at (λ p. source_with kind sources number
    (codes " excludes" ++ package_line canonical_version p)) packages other
source_reason_line kind packages sources (OfPackage reason) = reason_line packages reason

-- Only a source package that is uninstallable has reasons.
abbrev pub source_reason_lines : SourceKind → List Listed → Meaning → Answer → List SourceReason
    → List ℕ
source_reason_lines kind packages sources Installable reasons = []
source_reason_lines kind packages sources Uninstallable reasons =
    flat_map (source_reason_line kind packages sources) reasons
source_reason_lines kind packages sources Unsure reasons = []
source_reason_lines kind packages sources Undecided reasons = []

-- the lines of these source packages, which come after so many
abbrev pub each_source : (ℕ → ValueEntries ValueMeaning → List ℕ) → ℕ → Meaning → List ℕ
each_source line n [] = []
each_source line n (values ∷ more) = line n values ++ each_source line (n + 1) more

-- the line of the one after so many, with reasons
abbrev pub explained_source : SourceKind → List Listed → Meaning → Answer → List SourceReason → ℕ
    → ValueEntries ValueMeaning → List ℕ
explained_source kind packages sources answer reasons n values =
    line_of kind answer (n + 1) values ++ source_reason_lines kind packages sources answer reasons

-- the lines of all source packages, in their order, with reasons if they are asked
abbrev pub source_lines_with : Bool → SourceKind → (ℕ → Answer) → (ℕ → List SourceReason)
    → List Listed → Meaning → List ℕ
source_lines_with true kind answer reasons packages sources =
    each_source (λ n. explained_source kind packages sources (answer n) (reasons n) n) 0 sources
source_lines_with false kind answer reasons packages sources = source_lines kind answer sources

-- aa in an index of packages, and the source package bb
abbrev packages : List Listed
packages = listed (codes "aa") (codes "1.0-0") (codes "all") ∷ []

abbrev bb : ValueEntries ValueMeaning
bb =
    (codes "Package", NameMeans (codes "bb"))
    ∷ (codes "Version", VersionMeans (version_in (codes "2"))) ∷ []

worked-head : source_head 3 (codes "bb") (codes "2") ≡ codes " 3 bb 2 source"
unfolding digits
worked-head = refl

worked-with : map (λ number. source_with Sources (bb ∷ []) number (codes ".")) (1 ∷ 2 ∷ [])
    ≡ codes " 1 bb 2 source." ∷ [] ∷ []
unfolding digits
worked-with = refl

worked-reasons : map (source_reason_line Sources packages (bb ∷ bb ∷ []))
    (BuildNeeds 2 (alone (codes "cc") ∷ alone (codes "dd") ∷ []) (3 ∷ 12 ∷ [])
    ∷ BuildNeeds 1 (alone (codes "ee") ∷ []) [] ∷ BuildExcludes 2 1 ∷ BuildExcludes 2 9
    ∷ OfPackage (IsLeftOut 1) ∷ [])
    ≡ codes " 2 bb 2 source needs cc | dd: 3 12\n" ∷ codes " 1 bb 2 source needs ee: none\n"
    ∷ codes " 2 bb 2 source excludes 1 aa 1.0 all\n" ∷ [] ∷ codes " 1 aa 1.0 all is left out\n" ∷ []
unfolding group_text digits
worked-reasons = refl

-- of the answers one is uninstallable
worked-answers : map (λ answer. source_reason_lines Sources packages (bb ∷ []) answer
    (BuildExcludes 1 1 ∷ [])) (Installable ∷ Uninstallable ∷ Unsure ∷ Undecided ∷ [])
    ≡ [] ∷ codes " 1 bb 2 source excludes 1 aa 1.0 all\n" ∷ [] ∷ [] ∷ []
unfolding digits
worked-answers = refl

worked-source : explained_source Sources packages (bb ∷ []) Uninstallable
    (BuildExcludes 1 1 ∷ []) 0 bb
    ≡ codes "uninstallable 1 bb 2 source\n 1 bb 2 source excludes 1 aa 1.0 all\n"
unfolding digits
worked-source = refl

-- the first source package can't be built, and of the second one nothing is known
abbrev first : ℕ → Answer
first k = cond (k == 0) Uninstallable Undecided

abbrev reason : ℕ → List SourceReason
reason k = BuildExcludes (k + 1) 1 ∷ []

worked-lines : map (λ asked. source_lines_with asked Sources first reason packages (bb ∷ bb ∷ []))
    (true ∷ false ∷ [])
    ≡ (codes "uninstallable 1 bb 2 source\n 1 bb 2 source excludes 1 aa 1.0 all\n"
    ++ codes "undecided 2 bb 2 source\n")
    ∷ (codes "uninstallable 1 bb 2 source\nundecided 2 bb 2 source\n") ∷ []
unfolding digits
worked-lines = refl
