-- The lines that say what changed between two files (this project's own).
use Rattle.std.specs.Prelude.{◌≡◌, ℕ, Bool, true, false, cond, List, [], ◌∷◌, ◌++◌, codes, refl}
use Rattle.std.specs.Fmt.{decimal, digits}
use Rattle.std.specs.List.{flat_map}
use Rattle.std.specs.Ordering.{is_lt}
use Rattle.std.specs.Str.{is_utf8, chars}
use lib.Utf8.{encode}
use Rattle.deb_base.specs.Bodies.{paragraph_limit, file_limit}
use Rattle.deb_base.specs.declared.version_text.VersionText.{VersionText}
use Rattle.deb_base.specs.declared.version_text.VersionText.TheVariants.{Canonical, Spelled}
use Rattle.deb_control.specs.Documents.{Meaning}
use Rattle.deb_version.specs.Faults.{first_fault}
use Rattle.deb_version.specs.Places.{version_in}
use Rattle.deb_field.specs.Values.{ValueMeaning, NameMeans, VersionMeans, ArchitectureMeans, NumberMeans, TextMeans}
use Rattle.deb_control.specs.ValueFiles.{ValueEntries}
use Rattle.deb_diff.specs.Differences.{Difference, Fate, Changed, Removed, Upgraded, difference}
use Rattle.deb_diff.specs.Fields.{differing}
use Rattle.deb_diff.specs.Items.{Item, items_of, whole}
use Rattle.deb_diff.specs.Ranks.{versions_cmp}
use Rattle.deb_diff.specs.Values.{differing_lines, marked, new_mark, old_mark}
use Rattle.deb_diff.specs.declared.detail.Detail.{Detail}
use Rattle.deb_diff.specs.declared.detail.Detail.TheVariants.{Fields, Values}
use Rattle.deb_diff.specs.declared.form.Form.{Form}
use Rattle.deb_diff.specs.declared.kind.Kind.{Kind}
use Rattle.deb_diff.specs.declared.kind.Kind.TheVariants.{Packages, Status}

-- words with one space between two of them, and a newline; a word may be empty
abbrev pub line_of : List (List ℕ) → List ℕ
line_of [] = codes "\n"
line_of (word ∷ []) = word ++ codes "\n"
line_of (word ∷ next ∷ words) = word ++ codes " " ++ line_of (next ∷ words)

-- the text of a paragraph's version that its line has
abbrev pub printed : VersionText → Item → List ℕ
printed Canonical item = item.version
printed Spelled item = item.spelled

-- `removed NUMBER NAME VERSION ARCHITECTURE`, with the number in the old file
abbrev pub item_line : VersionText → List ℕ → Item → List ℕ
item_line versions word item =
    line_of (word ∷ decimal item.number ∷ item.name ∷ printed versions item ∷ item.architecture
    ∷ [])

-- the word of a paragraph that has another version in the new file
abbrev pub version_word : List ℕ → List ℕ → List ℕ
version_word old new = cond (is_lt (versions_cmp new old)) (codes "downgraded") (codes "upgraded")

-- `changed NUMBER NAME VERSION ARCHITECTURE FIELD ..`, and
-- `upgraded NUMBER NAME OLD NEW ARCHITECTURE FIELD ..`, or `downgraded`, with the number in the
-- new file
abbrev pub fate_line : VersionText → Item × Fate → List ℕ
fate_line versions (old, Removed) = item_line versions (codes "removed") old
fate_line versions (old, Changed new) =
    line_of (codes "changed" ∷ decimal new.number ∷ new.name ∷ printed versions new
    ∷ new.architecture ∷ differing old.bodies new.bodies)
fate_line versions (old, Upgraded new) =
    line_of (version_word old.version new.version ∷ decimal new.number ∷ new.name
    ∷ printed versions old ∷ printed versions new ∷ new.architecture
    ∷ differing old.bodies new.bodies)

-- `added NUMBER NAME VERSION ARCHITECTURE`, with the number in the new file
abbrev pub added_line : VersionText → Item → List ℕ
added_line versions item = item_line versions (codes "added") item

-- the lines of values that go with the line of an old paragraph: all of a removed one, and of the
-- others those of the fields that differ
abbrev pub fate_values : Item × Fate → List ℕ
fate_values (old, Removed) = marked old_mark (whole old)
fate_values (old, Changed new) = differing_lines old.bodies new.bodies
fate_values (old, Upgraded new) = differing_lines old.bodies new.bodies

-- the lines of values, if they are wanted
abbrev pub if_values : Detail → List ℕ → List ℕ
if_values Fields lines = []
if_values Values lines = lines

-- a line, with the lines of values under it
abbrev pub fate_text : Form → Item × Fate → List ℕ
fate_text form fate = fate_line form.versions fate ++ if_values form.detail (fate_values fate)

abbrev pub added_text : Form → Item → List ℕ
added_text form item =
    added_line form.versions item ++ if_values form.detail (marked new_mark (whole item))

-- the lines of old paragraphs in the old file's order, then those of added ones in the new file's
abbrev pub difference_text : Form → Difference → List ℕ
difference_text form difference =
    flat_map (fate_text form) difference.fates ++ flat_map (added_text form) difference.added

-- What is written is a function of what the two files mean, and of how they spell versions.
abbrev pub diff_text : Kind → Form → List ℕ → List ℕ → Meaning → Meaning → List ℕ
diff_text kind form text other old new =
    difference_text form (difference (items_of kind text old) (items_of kind other new))

-- so much, with this text of each version
abbrev pub form_of : Detail → VersionText → Form
form_of detail versions = record { detail = detail; versions = versions }

abbrev pub is_nothing : List ℕ → Bool
is_nothing [] = true
is_nothing (b ∷ bs) = false

worked-line : (line_of [] ≡ codes "\n") × (line_of (codes "a" ∷ []) ≡ codes "a\n")
    × (line_of (codes "a" ∷ codes "b" ∷ []) ≡ codes "a b\n")
    × (line_of (codes "a" ∷ [] ∷ codes "b" ∷ []) ≡ codes "a  b\n")
worked-line = (refl, refl, refl, refl)

-- packages of a name, a version and a size
abbrev sized : List ℕ → List ℕ → ℕ → ValueEntries ValueMeaning
sized name version size =
    (codes "Architecture", ArchitectureMeans (codes "all"))
    ∷ (codes "Package", NameMeans name)
    ∷ (codes "Size", NumberMeans size)
    ∷ (codes "Version", VersionMeans (version_in version)) ∷ []

abbrev before : Meaning
before =
    sized (codes "same") (codes "1.0") 4 ∷ sized (codes "gone") (codes "2.10-2") 4
    ∷ sized (codes "hello") (codes "2.10-2") 4 ∷ sized (codes "world") (codes "1.0") 4 ∷ []

abbrev after : Meaning
after =
    sized (codes "world") (codes "1.0") 5 ∷ sized (codes "fresh") (codes "0:2.10-3") 4
    ∷ sized (codes "hello") (codes "2.10-3") 4 ∷ sized (codes "same") (codes "0:1.0-0") 4 ∷ []

-- the versions of either file as it spells them; of the other fields no line has a word
abbrev old_file : List ℕ
old_file =
    codes "Version: 1.0\n\nVersion: 02.10-2\n\nVersion: 2.10-2\n\nVersion: 1.0-0\n"

abbrev new_file : List ℕ
new_file =
    codes "Version: 01.0\n\nVersion: 0:2.10-3\n\nVersion: 2.010-3\n\nVersion: 0:1.0-0\n"

-- each kind of line; the last package stays, though it is moved and its version is spelled
-- otherwise
worked-diff : diff_text Packages (form_of Fields Canonical) old_file new_file before after
    ≡ codes "removed 2 gone 2.10-2 all\nupgraded 3 hello 2.10-2 2.10-3 all Version\n"
    ++ codes "changed 1 world 1.0 all Size\nadded 2 fresh 2.10-3 all\n"
unfolding digits first_fault
worked-diff = refl

-- the same the other way round, where one version is earlier
worked-back : diff_text Packages (form_of Fields Canonical) new_file old_file after before
    ≡ codes "changed 4 world 1.0 all Size\nremoved 2 fresh 2.10-3 all\n"
    ++ codes "downgraded 3 hello 2.10-3 2.10-2 all Version\nadded 2 gone 2.10-2 all\n"
unfolding digits first_fault
worked-back = refl

worked-version_word : (version_word (codes "1.9") (codes "1.10") ≡ codes "upgraded")
    × (version_word (codes "1.10") (codes "1.9") ≡ codes "downgraded")
    × (version_word (codes "1") (codes "1~") ≡ codes "downgraded")
    × (version_word (codes "9") (codes "1:0") ≡ codes "upgraded")
unfolding first_fault
worked-version_word = (refl, refl, refl, refl)

-- the same with values
worked-values : diff_text Packages (form_of Values Canonical) old_file new_file before after
    ≡ codes "removed 2 gone 2.10-2 all\n -Architecture: all\n -Package: gone\n"
    ++ codes " -Size: 4\n -Version: 2.10-2\n"
    ++ codes "upgraded 3 hello 2.10-2 2.10-3 all Version\n"
    ++ codes " -Version: 2.10-2\n +Version: 2.10-3\n"
    ++ codes "changed 1 world 1.0 all Size\n -Size: 4\n +Size: 5\n"
    ++ codes "added 2 fresh 2.10-3 all\n +Architecture: all\n +Package: fresh\n"
    ++ codes " +Size: 4\n +Version: 2.10-3\n"
unfolding digits first_fault
worked-values = refl

-- the same with versions as they are spelled: the lines of values stay
worked-spelled : (diff_text Packages (form_of Fields Spelled) old_file new_file before after
    ≡ codes "removed 2 gone 02.10-2 all\nupgraded 3 hello 2.10-2 2.010-3 all Version\n"
    ++ codes "changed 1 world 01.0 all Size\nadded 2 fresh 0:2.10-3 all\n")
    × (diff_text Packages (form_of Fields Spelled) new_file old_file after before
    ≡ codes "changed 4 world 1.0-0 all Size\nremoved 2 fresh 0:2.10-3 all\n"
    ++ codes "downgraded 3 hello 2.010-3 2.10-2 all Version\nadded 2 gone 02.10-2 all\n")
    × (diff_text Packages (form_of Values Spelled) old_file new_file before after
    ≡ codes "removed 2 gone 02.10-2 all\n -Architecture: all\n -Package: gone\n"
    ++ codes " -Size: 4\n -Version: 2.10-2\n"
    ++ codes "upgraded 3 hello 2.10-2 2.010-3 all Version\n"
    ++ codes " -Version: 2.10-2\n +Version: 2.10-3\n"
    ++ codes "changed 1 world 01.0 all Size\n -Size: 4\n +Size: 5\n"
    ++ codes "added 2 fresh 0:2.10-3 all\n +Architecture: all\n +Package: fresh\n"
    ++ codes " +Size: 4\n +Version: 2.10-3\n")
unfolding digits first_fault file_limit paragraph_limit is_utf8 chars encode
worked-spelled = (refl, refl, refl)

-- packages of a status file, two of which have no version, and three no architecture
abbrev before_status : Meaning
before_status =
    ((codes "Architecture", ArchitectureMeans (codes "all"))
    ∷ (codes "Package", NameMeans (codes "hello"))
    ∷ (codes "Status", TextMeans (codes "install ok installed"))
    ∷ (codes "Version", VersionMeans (version_in (codes "1.0"))) ∷ [])
    ∷ ((codes "Package", NameMeans (codes "aa"))
    ∷ (codes "Status", TextMeans (codes "purge ok not-installed")) ∷ [])
    ∷ ((codes "Package", NameMeans (codes "bb"))
    ∷ (codes "Status", TextMeans (codes "purge ok not-installed")) ∷ []) ∷ []

abbrev after_status : Meaning
after_status =
    ((codes "Package", NameMeans (codes "aa"))
    ∷ (codes "Status", TextMeans (codes "install ok unpacked"))
    ∷ (codes "Version", VersionMeans (version_in (codes "2"))) ∷ [])
    ∷ ((codes "Architecture", ArchitectureMeans (codes "all"))
    ∷ (codes "Package", NameMeans (codes "hello"))
    ∷ (codes "Status", TextMeans (codes "deinstall ok config-files"))
    ∷ (codes "Version", VersionMeans (version_in (codes "1.0"))) ∷ []) ∷ []

-- what is missing is an empty word; no version is earlier than each version
worked-status : (diff_text Status (form_of Fields Canonical) [] [] before_status after_status
    ≡ codes "changed 2 hello 1.0 all Status\nupgraded 1 aa  2  Status Version\n"
    ++ codes "removed 3 bb  \n")
    × (diff_text Status (form_of Fields Canonical) [] [] after_status before_status
    ≡ codes "downgraded 2 aa 2   Status Version\nchanged 1 hello 1.0 all Status\n"
    ++ codes "added 3 bb  \n")
unfolding digits first_fault
worked-status = (refl, refl)

worked-if_values : (if_values Fields (codes " +A: b\n") ≡ [])
    × (if_values Values (codes " +A: b\n") ≡ codes " +A: b\n")
worked-if_values = (refl, refl)

worked-nothing : (is_nothing [] ≡ true) × (is_nothing (codes "added") ≡ false)
worked-nothing = (refl, refl)
