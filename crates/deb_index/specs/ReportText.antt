-- The text of a report: for each group a line, and after that of a met group a line for each
-- package that meets it. Its form is this project's own; the canonical text of a version is that of
-- Debian Policy 5.6.12, as deb_version has it. A version is written as its canonical text, or as
-- the file spells it.
use Rattle.std.specs.Prelude.{◌≡◌, ℕ, ◌++◌, List, [], ◌∷◌, Option, None, codes, refl}
use Rattle.std.specs.Fmt.{decimal, digits}
use Rattle.std.specs.List.{concat, flat_map}
use Rattle.std.specs.Option.{option_map_or}
use Rattle.deb_base.specs.declared.version_text.VersionText.{VersionText}
use Rattle.deb_base.specs.declared.version_text.VersionText.TheVariants.{Canonical, Spelled}
use Rattle.deb_version.specs.Canonical.{version_text}
use Rattle.deb_index.specs.Files.{file_mark, file_place, file_shown}
use Rattle.deb_index.specs.Reports.{Numbered, Answer}
use Rattle.deb_version.specs.Places.{version_in}
use Rattle.deb_index.specs.VersionSpellings.{spelling_at}
use Rattle.deb_index.specs.declared.verdict.Verdict.{Verdict}
use Rattle.deb_index.specs.declared.verdict.Verdict.TheVariants.{Ignored, Met, Unmet}

-- what the line of a package that was found has besides its number, its name and its architecture:
-- the text of its version, and the file that it names, if it names one
pub record VersionShown : Type 0 where
  pub version : Numbered → List ℕ
  pub file : Numbered → Option ℕ

-- the canonical text of the version
abbrev pub canonical_text : Numbered → List ℕ
canonical_text p = version_text p.1.version

-- of these texts that of the package's number, or where there is none the canonical one
abbrev pub spelled_version : List (List ℕ) → Numbered → List ℕ
spelled_version spellings p =
    option_map_or (λ text. text) (spelling_at p.0 spellings) (canonical_text p)

abbrev pub text_shown : VersionText → List (List ℕ) → Numbered → List ℕ
text_shown Canonical spellings = canonical_text
text_shown Spelled spellings = spelled_version spellings

-- no file is named
abbrev pub without_file : (Numbered → List ℕ) → VersionShown
without_file version = record { version = version; file = λ p. None }

abbrev pub canonical_version : VersionShown
canonical_version = without_file canonical_text

abbrev pub version_shown : VersionText → List (List ℕ) → VersionShown
version_shown chosen spellings = without_file (text_shown chosen spellings)

-- of several files, which have so many packages, that of the package is named
abbrev pub with_files : List ℕ → VersionShown → VersionShown
with_files counts shown =
    record { version = shown.version; file = λ p. file_shown counts p.0 }

abbrev pub verdict_word : Verdict → List ℕ
verdict_word Ignored = codes "ignored"
verdict_word Met = codes "met"
verdict_word Unmet = codes "unmet"

-- `met GROUP`, `unmet GROUP` or `ignored GROUP`
abbrev pub group_line : Answer → List ℕ
group_line reported =
    concat (verdict_word reported.verdict ∷ codes " " ∷ reported.text ∷ codes "\n" ∷ [])

-- what the line of a package has before its end; and its end, with ` @FILE` where a file is named
abbrev pub package_pieces : VersionShown → Numbered → List (List ℕ)
package_pieces shown p =
    codes " " ∷ decimal p.0 ∷ codes " " ∷ p.1.name ∷ codes " " ∷ shown.version p ∷ codes " "
    ∷ p.1.architecture ∷ []

abbrev pub end_pieces : Option ℕ → List (List ℕ)
end_pieces file = file_mark file ∷ file_place file ∷ codes "\n" ∷ []

-- ` NUMBER PACKAGE VERSION ARCHITECTURE`, perhaps with the file
abbrev pub package_line : VersionShown → Numbered → List ℕ
package_line shown p = concat (package_pieces shown p ++ end_pieces (shown.file p))

-- what is written of a group, and of all of them
abbrev pub answer_text : VersionShown → Answer → List ℕ
answer_text shown reported = group_line reported ++ flat_map (package_line shown) reported.packages

abbrev pub report_text_by : VersionShown → List Answer → List ℕ
report_text_by shown answers = flat_map (answer_text shown) answers

-- with canonical versions
abbrev pub report_text : List Answer → List ℕ
report_text answers = report_text_by canonical_version answers

-- the second package of an index, whose version is written as its canonical text
abbrev world : Numbered
world = (
  2,
  record {
    name = codes "world";
    version = version_in (codes "0:1.0-0");
    architecture = codes "all";
    multi_arch = None;
    provisions = [];
  },
)

abbrev three : List Answer
three = record { text = codes "ww | world"; verdict = Met; packages = world ∷ [] }
    ∷ record { text = codes "ww"; verdict = Unmet; packages = [] }
    ∷ record { text = codes "ww [i386]"; verdict = Ignored; packages = [] } ∷ []

worked-report : report_text three
    ≡ codes "met ww | world\n 2 world 1.0 all\nunmet ww\nignored ww [i386]\n"
unfolding digits
worked-report = refl

-- as the file spells it; the first text is that of another package
worked-spelled : report_text_by (version_shown Spelled (codes "01" ∷ codes "0:1.0-0" ∷ [])) three
    ≡ codes "met ww | world\n 2 world 0:1.0-0 all\nunmet ww\nignored ww [i386]\n"
unfolding digits
worked-spelled = refl

worked-canonical : ((version_shown Canonical (codes "01" ∷ codes "0:1.0-0" ∷ [])).version world
    ≡ codes "1.0") × ((version_shown Spelled (codes "01" ∷ [])).version world ≡ codes "1.0")
worked-canonical = (refl, refl)

-- the second package is that of the third file, after one without packages; of one file none is
-- named
worked-files : (report_text_by (with_files (1 ∷ 0 ∷ 1 ∷ []) canonical_version) three
    ≡ codes "met ww | world\n 2 world 1.0 all @3\nunmet ww\nignored ww [i386]\n")
    × (report_text_by (with_files (2 ∷ []) canonical_version) three ≡ report_text three)
unfolding digits
worked-files = (refl, refl)

worked-nothing : report_text [] ≡ []
worked-nothing = refl
