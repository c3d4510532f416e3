-- How the line of each kind of row is spelled, and which kinds a text of a form has. The forms are
-- this project's own.
use Rattle.std.specs.Prelude.{◌≡◌, ℕ, List, [], ◌∷◌, codes, map, replicate, refl}
use Rattle.std.specs.Borrow.{Bor}
use Rattle.deb_rows.specs.declared.cell.Class.{Class}
use Rattle.deb_rows.specs.declared.cell.Class.TheVariants.{Number, Word, Key, Alternative, Reason, Line, Group, Phrase, Place}
use Rattle.deb_rows.specs.declared.form.Form.{Form}
use Rattle.deb_rows.specs.declared.form.Form.TheVariants as form
use Rattle.deb_rows.specs.declared.kind.RowKind.{RowKind}
use Rattle.deb_rows.specs.declared.kind.RowKind.TheVariants as kind

-- a cell of a line: its class, and the text after it
abbrev pub Piece : Type 0
Piece = Class × List ℕ

-- a piece as the definitions have it
abbrev pub piece_in : Class × Bor (List ℕ) → Piece
piece_in piece = (piece.0, piece.1.now)

-- the text before the first cell; the whole line, if there is no cell
abbrev pub front_of : RowKind → List ℕ
front_of kind.Met = codes "met "
front_of kind.Unmet = codes "unmet "
front_of kind.Ignored = codes "ignored "
front_of kind.Package = codes " "
front_of kind.Reason = codes " "
front_of kind.PackageReason = codes " "
front_of kind.UnmetGroup = codes "unmet "
front_of kind.UnsureGroup = codes "unsure "
front_of kind.Removed = codes "removed "
front_of kind.Changed = codes "changed "
front_of kind.Upgraded = codes "upgraded "
front_of kind.Added = codes "added "
front_of kind.OldLine = codes " -"
front_of kind.NewLine = codes " +"
front_of kind.Key = []
front_of kind.End = codes "\n"
front_of kind.Count = codes "ok "
front_of kind.Summary = codes "ok "
front_of kind.Valid = codes "ok\n"
front_of kind.Downgraded = codes "downgraded "
front_of kind.UnmetNeed = codes "unmet "
front_of kind.UnsureNeed = codes "unsure "
front_of kind.Conflict = codes "conflict "
front_of kind.UnsureConflict = codes "unsure "
front_of kind.Duplicate = codes "duplicate "
front_of kind.State = codes "state "
front_of kind.Uninstallable = codes "uninstallable "
front_of kind.Unsure = codes "unsure "
front_of kind.Undecided = codes "undecided "
front_of kind.Need = codes " "
front_of kind.Exclusion = codes " "
front_of kind.LeftOut = codes " "
front_of kind.PackageOfFile = codes " "
front_of kind.PackageReasonOfFile = codes " "

-- a number, name, version and architecture, each with a space after it, and more
abbrev pub package_and : List Piece → List Piece
package_and more =
    (Number, codes " ") ∷ (Word, codes " ") ∷ (Word, codes " ") ∷ (Word, codes " ") ∷ more

abbrev pub package_last : List Piece
package_last = (Number, codes " ") ∷ (Word, codes " ") ∷ (Word, codes " ") ∷ (Word, codes "\n") ∷ []

-- the last cell: any text
abbrev pub any_text : List Piece
any_text = (Line, codes "\n") ∷ []

-- a word, and after it any text
abbrev pub word_and_text : List Piece
word_and_text = (Word, codes " ") ∷ any_text

-- a field, and after it a group
abbrev pub field_and_group : List Piece
field_and_group = (Word, codes " ") ∷ (Group, codes "\n") ∷ []

-- the same, and the package that is excluded
abbrev pub field_and_excluded : List Piece
field_and_excluded = (Word, codes " ") ∷ (Group, codes " by ") ∷ package_last

-- two packages of one name
abbrev pub package_twice : List Piece
package_twice =
    (Number, codes " ") ∷ (Word, codes " ") ∷ (Word, codes " ") ∷ (Word, codes " with ")
    ∷ (Number, codes " ") ∷ (Word, codes " ") ∷ (Word, codes "\n") ∷ []

-- a number, name, version and architecture, with this text after the last, and more
abbrev pub package_before : List ℕ → List Piece → List Piece
package_before after more =
    (Number, codes " ") ∷ (Word, codes " ") ∷ (Word, codes " ") ∷ (Word, after) ∷ more

-- a group, and the packages that meet it
abbrev pub group_and_candidates : List Piece
group_and_candidates = (Alternative, codes ": ") ∷ any_text

-- a text that is the last cell of a line, unless the file follows
abbrev pub phrase_last : List Piece
phrase_last = (Phrase, codes "\n") ∷ []

-- the place of a file at the end of a line, and a text before it
abbrev pub file_last : List Piece
file_last = (Place, codes "\n") ∷ []

abbrev pub phrase_and_file : List Piece
phrase_and_file = (Phrase, codes " @") ∷ file_last

-- the cells of a line
abbrev pub pieces_of : RowKind → List Piece
pieces_of kind.Met = any_text
pieces_of kind.Unmet = any_text
pieces_of kind.Ignored = any_text
pieces_of kind.Package = package_last
pieces_of kind.Reason = (Alternative, codes ": ") ∷ (Reason, codes "\n") ∷ []
pieces_of kind.PackageReason = (Alternative, codes ": ") ∷ package_and phrase_last
pieces_of kind.UnmetGroup = package_and word_and_text
pieces_of kind.UnsureGroup = package_and word_and_text
pieces_of kind.Removed = package_last
pieces_of kind.Changed = package_and any_text
pieces_of kind.Upgraded = package_and word_and_text
pieces_of kind.Added = package_last
pieces_of kind.OldLine = any_text
pieces_of kind.NewLine = any_text
pieces_of kind.Key = (Key, codes ": ") ∷ any_text
pieces_of kind.End = []
pieces_of kind.Count = (Number, codes "\n") ∷ []
pieces_of kind.Summary = (Number, codes ", ") ∷ (Number, codes " refused\n") ∷ []
pieces_of kind.Valid = []
pieces_of kind.Downgraded = package_and word_and_text
pieces_of kind.UnmetNeed = package_and field_and_group
pieces_of kind.UnsureNeed = package_and field_and_group
pieces_of kind.Conflict = package_and field_and_excluded
pieces_of kind.UnsureConflict = package_and field_and_excluded
pieces_of kind.Duplicate = package_twice
pieces_of kind.State = package_and any_text
pieces_of kind.Uninstallable = package_last
pieces_of kind.Unsure = package_last
pieces_of kind.Undecided = package_last
pieces_of kind.Need = package_before (codes " needs ") group_and_candidates
pieces_of kind.Exclusion = package_before (codes " excludes ") package_last
pieces_of kind.LeftOut = package_before (codes " is left out\n") []
pieces_of kind.PackageOfFile = package_before (codes " @") file_last
pieces_of kind.PackageReasonOfFile =
    (Alternative, codes ": ") ∷ package_and phrase_and_file

-- the number of a kind in a table
abbrev pub number_of : RowKind → ℕ
number_of kind.Met = 0
number_of kind.Unmet = 1
number_of kind.Ignored = 2
number_of kind.Package = 3
number_of kind.Reason = 4
number_of kind.PackageReason = 5
number_of kind.UnmetGroup = 6
number_of kind.UnsureGroup = 7
number_of kind.Removed = 8
number_of kind.Changed = 9
number_of kind.Upgraded = 10
number_of kind.Added = 11
number_of kind.OldLine = 12
number_of kind.NewLine = 13
number_of kind.Key = 14
number_of kind.End = 15
number_of kind.Count = 16
number_of kind.Summary = 17
number_of kind.Valid = 18
number_of kind.Downgraded = 19
number_of kind.UnmetNeed = 20
number_of kind.UnsureNeed = 21
number_of kind.Conflict = 22
number_of kind.UnsureConflict = 23
number_of kind.Duplicate = 24
number_of kind.State = 25
number_of kind.Uninstallable = 26
number_of kind.Unsure = 27
number_of kind.Undecided = 28
number_of kind.Need = 29
number_of kind.Exclusion = 30
number_of kind.LeftOut = 31
number_of kind.PackageOfFile = 32
number_of kind.PackageReasonOfFile = 33

-- the form of the texts that have a kind
abbrev pub form_of : RowKind → Form
form_of kind.Met = form.Report
form_of kind.Unmet = form.Report
form_of kind.Ignored = form.Report
form_of kind.Package = form.Report
form_of kind.Reason = form.Report
form_of kind.PackageReason = form.Report
form_of kind.UnmetGroup = form.UnmetLines
form_of kind.UnsureGroup = form.UnmetLines
form_of kind.Removed = form.DiffLines
form_of kind.Changed = form.DiffLines
form_of kind.Upgraded = form.DiffLines
form_of kind.Added = form.DiffLines
form_of kind.OldLine = form.DiffLines
form_of kind.NewLine = form.DiffLines
form_of kind.Key = form.Explanation
form_of kind.End = form.Explanation
form_of kind.Count = form.Explanation
form_of kind.Summary = form.Explanation
form_of kind.Valid = form.Explanation
form_of kind.Downgraded = form.DiffLines
form_of kind.UnmetNeed = form.HealthLines
form_of kind.UnsureNeed = form.HealthLines
form_of kind.Conflict = form.HealthLines
form_of kind.UnsureConflict = form.HealthLines
form_of kind.Duplicate = form.HealthLines
form_of kind.State = form.HealthLines
form_of kind.Uninstallable = form.InstallableLines
form_of kind.Unsure = form.InstallableLines
form_of kind.Undecided = form.InstallableLines
form_of kind.Need = form.InstallableLines
form_of kind.Exclusion = form.InstallableLines
form_of kind.LeftOut = form.InstallableLines
form_of kind.PackageOfFile = form.Report
form_of kind.PackageReasonOfFile = form.Report

-- the kinds of a form
abbrev pub kinds_of : Form → List RowKind
kinds_of form.Report =
    kind.Met ∷ kind.Unmet ∷ kind.Ignored ∷ kind.Package ∷ kind.Reason ∷ kind.PackageReason
    ∷ kind.PackageOfFile ∷ kind.PackageReasonOfFile ∷ []
kinds_of form.UnmetLines = kind.UnmetGroup ∷ kind.UnsureGroup ∷ []
kinds_of form.DiffLines =
    kind.Removed ∷ kind.Changed ∷ kind.Upgraded ∷ kind.Added ∷ kind.OldLine ∷ kind.NewLine
    ∷ kind.Downgraded ∷ []
kinds_of form.Explanation = kind.Key ∷ kind.End ∷ kind.Count ∷ kind.Summary ∷ kind.Valid ∷ []
kinds_of form.HealthLines =
    kind.UnmetNeed ∷ kind.UnsureNeed ∷ kind.Conflict ∷ kind.UnsureConflict ∷ kind.Duplicate
    ∷ kind.State ∷ []
kinds_of form.InstallableLines =
    kind.Uninstallable ∷ kind.Unsure ∷ kind.Undecided ∷ kind.Need ∷ kind.Exclusion
    ∷ kind.LeftOut ∷ []

-- Worked cases.

pieces : (piece_in (Word, record { ref_ptr = (0, 0); now = codes " " }) ≡ (Word, codes " "))
    × (pieces_of kind.Upgraded ≡ (Number, codes " ") ∷ (Word, codes " ") ∷ (Word, codes " ")
    ∷ (Word, codes " ") ∷ (Word, codes " ") ∷ (Line, codes "\n") ∷ [])
    × (pieces_of kind.Downgraded ≡ pieces_of kind.Upgraded)
    × (pieces_of kind.Changed ≡ (Number, codes " ") ∷ (Word, codes " ") ∷ (Word, codes " ")
    ∷ (Word, codes " ") ∷ (Line, codes "\n") ∷ [])
    × (pieces_of kind.Added
    ≡ (Number, codes " ") ∷ (Word, codes " ") ∷ (Word, codes " ") ∷ (Word, codes "\n") ∷ [])
pieces = (refl, refl, refl, refl, refl)

pieces_of_sets : (pieces_of kind.UnmetNeed ≡ (Number, codes " ") ∷ (Word, codes " ")
    ∷ (Word, codes " ") ∷ (Word, codes " ") ∷ (Word, codes " ") ∷ (Group, codes "\n") ∷ [])
    × (pieces_of kind.UnsureNeed ≡ pieces_of kind.UnmetNeed)
    × (pieces_of kind.Conflict ≡ (Number, codes " ") ∷ (Word, codes " ") ∷ (Word, codes " ")
    ∷ (Word, codes " ") ∷ (Word, codes " ") ∷ (Group, codes " by ") ∷ (Number, codes " ")
    ∷ (Word, codes " ") ∷ (Word, codes " ") ∷ (Word, codes "\n") ∷ [])
    × (pieces_of kind.UnsureConflict ≡ pieces_of kind.Conflict)
    × (pieces_of kind.Duplicate ≡ (Number, codes " ") ∷ (Word, codes " ") ∷ (Word, codes " ")
    ∷ (Word, codes " with ") ∷ (Number, codes " ") ∷ (Word, codes " ") ∷ (Word, codes "\n") ∷ [])
    × (pieces_of kind.State ≡ pieces_of kind.Changed)
pieces_of_sets = (refl, refl, refl, refl, refl, refl)

pieces_of_verdicts : map pieces_of (kind.Uninstallable ∷ kind.Unsure ∷ kind.Undecided ∷ [])
    ≡ replicate 3 ((Number, codes " ") ∷ (Word, codes " ") ∷ (Word, codes " ")
    ∷ (Word, codes "\n") ∷ [])
pieces_of_verdicts = refl

pieces_of_reasons : (pieces_of kind.Need ≡ (Number, codes " ") ∷ (Word, codes " ")
    ∷ (Word, codes " ") ∷ (Word, codes " needs ") ∷ (Alternative, codes ": ")
    ∷ (Line, codes "\n") ∷ [])
    × (pieces_of kind.Exclusion ≡ (Number, codes " ") ∷ (Word, codes " ") ∷ (Word, codes " ")
    ∷ (Word, codes " excludes ") ∷ (Number, codes " ") ∷ (Word, codes " ") ∷ (Word, codes " ")
    ∷ (Word, codes "\n") ∷ [])
    × (pieces_of kind.LeftOut ≡ (Number, codes " ") ∷ (Word, codes " ") ∷ (Word, codes " ")
    ∷ (Word, codes " is left out\n") ∷ [])
pieces_of_reasons = (refl, refl, refl)

pieces_of_files : (pieces_of kind.PackageOfFile ≡ (Number, codes " ") ∷ (Word, codes " ")
    ∷ (Word, codes " ") ∷ (Word, codes " @") ∷ (Place, codes "\n") ∷ [])
    × (pieces_of kind.PackageReason ≡ (Alternative, codes ": ") ∷ (Number, codes " ")
    ∷ (Word, codes " ") ∷ (Word, codes " ") ∷ (Word, codes " ") ∷ (Phrase, codes "\n") ∷ [])
    × (pieces_of kind.PackageReasonOfFile ≡ (Alternative, codes ": ") ∷ (Number, codes " ")
    ∷ (Word, codes " ") ∷ (Word, codes " ") ∷ (Word, codes " ") ∷ (Phrase, codes " @")
    ∷ (Place, codes "\n") ∷ [])
pieces_of_files = (refl, refl, refl)

-- the kinds have the numbers of `deb_row_kind` in `include/debctl.h`
numbers : map (map number_of)
    (kinds_of form.Report ∷ kinds_of form.UnmetLines ∷ kinds_of form.DiffLines
    ∷ kinds_of form.Explanation ∷ kinds_of form.HealthLines ∷ kinds_of form.InstallableLines
    ∷ [])
    ≡ (0 ∷ 1 ∷ 2 ∷ 3 ∷ 4 ∷ 5 ∷ 32 ∷ 33 ∷ []) ∷ (6 ∷ 7 ∷ []) ∷ (8 ∷ 9 ∷ 10 ∷ 11 ∷ 12 ∷ 13 ∷ 19 ∷ [])
    ∷ (14 ∷ 15 ∷ 16 ∷ 17 ∷ 18 ∷ []) ∷ (20 ∷ 21 ∷ 22 ∷ 23 ∷ 24 ∷ 25 ∷ [])
    ∷ (26 ∷ 27 ∷ 28 ∷ 29 ∷ 30 ∷ 31 ∷ []) ∷ []
numbers = refl

forms : map (map form_of)
    (kinds_of form.Report ∷ kinds_of form.UnmetLines ∷ kinds_of form.DiffLines
    ∷ kinds_of form.Explanation ∷ kinds_of form.HealthLines ∷ kinds_of form.InstallableLines
    ∷ [])
    ≡ replicate 8 form.Report ∷ replicate 2 form.UnmetLines ∷ replicate 7 form.DiffLines
    ∷ replicate 5 form.Explanation ∷ replicate 6 form.HealthLines
    ∷ replicate 6 form.InstallableLines ∷ []
forms = refl
