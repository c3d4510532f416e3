-- The packages of a status file that are neither installed nor removed, and what the line of each
-- has. dpkg(1) (the states of a package); the form of the lines is this project's own.
use Rattle.std.specs.Prelude.{◌≡◌, ℕ, ◌&&◌, ◌||◌, Bool, true, false, cond, not, List, [], ◌∷◌, map, unwrap_or, codes, refl}
use Rattle.std.specs.List.{concat, list_all}
use Rattle.std.specs.Str.{bytes_eq}
use Rattle.deb_version.specs.Places.{version_in}
use Rattle.deb_field.specs.Values.{ValueMeaning, NameMeans, VersionMeans, ArchitectureMeans, TextMeans}
use Rattle.deb_control.specs.Documents.{Meaning}
use Rattle.deb_control.specs.FieldWords.{value_under, word_under}
use Rattle.deb_control.specs.ValueFiles.{ValueEntries}
use Rattle.deb_index.specs.Installed.{is_member, status_in, text_of}
use Rattle.deb_index.specs.declared.members.Members.{Members}
use Rattle.deb_index.specs.declared.members.Members.TheVariants.{All, Installed}

-- the status in the text of Status, the third of three words; else a hyphen
abbrev pub status_or_hyphen : List ℕ → List ℕ
status_or_hyphen text = unwrap_or (status_in text) (codes "-")

abbrev pub status_word : ValueEntries ValueMeaning → List ℕ
status_word values = status_or_hyphen (text_of (value_under (codes "Status") values))

-- nothing of such a package is left but perhaps its configuration
abbrev pub is_removed : List ℕ → Bool
is_removed status =
    bytes_eq status (codes "not-installed") || bytes_eq status (codes "config-files")

-- The package is neither a member of the set nor removed: it is installed in part, or it lacks a
-- version or an architecture.
abbrev pub is_unsettled : ValueEntries ValueMeaning → Bool
is_unsettled values = not (is_member values) && not (is_removed (status_word values))

-- no paragraph of the file is of such a package; those of an index are all members
abbrev pub are_settled : Members → Meaning → Bool
are_settled All meaning = true
are_settled Installed meaning = list_all (λ values. not (is_unsettled values)) meaning

-- a word, or a hyphen for none
abbrev pub or_hyphen : List ℕ → List ℕ
or_hyphen [] = codes "-"
or_hyphen (b ∷ bs) = b ∷ bs

-- ` PACKAGE VERSION ARCHITECTURE STATUS`
abbrev pub state_words : ValueEntries ValueMeaning → List ℕ
state_words values =
    concat (codes " " ∷ word_under (codes "Package") values ∷ codes " "
    ∷ or_hyphen (word_under (codes "Version") values) ∷ codes " "
    ∷ or_hyphen (word_under (codes "Architecture") values) ∷ codes " " ∷ status_word values
    ∷ codes "\n" ∷ [])

-- What the line of a paragraph that isn't a member has after its number; nothing if its package is
-- removed.
abbrev pub state_text : ValueEntries ValueMeaning → List ℕ
state_text values = cond (is_removed (status_word values)) [] (state_words values)

-- for the worked cases: aa with this text of Status, and bb with it and no version
abbrev with_status : List ℕ → ValueEntries ValueMeaning
with_status status =
    (codes "Architecture", ArchitectureMeans (codes "all"))
    ∷ (codes "Package", NameMeans (codes "aa"))
    ∷ (codes "Status", TextMeans status)
    ∷ (codes "Version", VersionMeans (version_in (codes "1.0"))) ∷ []

abbrev without_version : List ℕ → ValueEntries ValueMeaning
without_version status =
    (codes "Package", NameMeans (codes "bb")) ∷ (codes "Status", TextMeans status) ∷ []

worked-unsettled : map is_unsettled
    (with_status (codes "install ok installed") ∷ with_status (codes "deinstall ok config-files")
    ∷ with_status (codes "purge ok not-installed") ∷ with_status (codes "install ok unpacked")
    ∷ with_status (codes "install ok") ∷ without_version (codes "install ok installed")
    ∷ without_version (codes "purge ok not-installed") ∷ [])
    ≡ false ∷ false ∷ false ∷ true ∷ true ∷ true ∷ false ∷ []
worked-unsettled = refl

worked-settled : (are_settled Installed (with_status (codes "install ok unpacked") ∷ []) ≡ false)
    × (are_settled Installed (with_status (codes "install ok installed")
    ∷ with_status (codes "deinstall ok config-files") ∷ []) ≡ true)
    × (are_settled All (with_status (codes "install ok unpacked") ∷ []) ≡ true)
    × (are_settled Installed [] ≡ true)
worked-settled = (refl, refl, refl, refl)

worked-texts : map state_text
    (with_status (codes "install reinstreq half-installed")
    ∷ without_version (codes "install ok installed") ∷ without_version []
    ∷ with_status (codes "deinstall ok config-files")
    ∷ without_version (codes "purge ok not-installed") ∷ [])
    ≡ codes " aa 1.0 all half-installed\n" ∷ codes " bb - - installed\n" ∷ codes " bb - - -\n"
    ∷ [] ∷ [] ∷ []
worked-texts = refl

worked-words : (or_hyphen [] ≡ codes "-") × (or_hyphen (codes "a-") ≡ codes "a-")
    × (map status_or_hyphen (codes "a b c" ∷ codes "a b c d" ∷ [] ∷ [])
    ≡ codes "c" ∷ codes "-" ∷ codes "-" ∷ [])
    × (map is_removed (codes "not-installed" ∷ codes "config-files" ∷ codes "installed" ∷ [])
    ≡ true ∷ true ∷ false ∷ [])
worked-words = (refl, refl, refl, refl)
