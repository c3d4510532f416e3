-- Which paragraphs of a status file are of installed packages, and which packages these are.
-- dpkg(1) (want, error flag and status); Debian Policy 5.1, 5.6.8 and 5.6.12. That a package
-- without a version or an architecture isn't one of them is this project's own.
use Rattle.std.specs.Prelude.{◌≡◌, ℕ, ◌&&◌, Bool, true, false, List, [], ◌∷◌, ◌++◌, is_some, map, Option, None, Some, Result, Ok, Err, codes, refl}
use Rattle.std.specs.List.{filter, list_all}
use Rattle.std.specs.Option.{option_map_or}
use Rattle.std.specs.Str.{bytes_eq, is_utf8, chars}
use lib.Utf8.{encode}
use Rattle.deb_base.specs.Bodies.{paragraph_limit}
use Rattle.deb_base.specs.declared.doc.Doc.TheVariants.{Status}
use Rattle.deb_base.specs.declared.refusal.Refusal.{Refusal}
use Rattle.deb_syntax.specs.Answers.{Seen}
use Rattle.deb_syntax.specs.Fields.{Field}
use Rattle.deb_syntax.specs.Judging.{judged}
use Rattle.deb_syntax.specs.Lines.{Paragraph, paragraphs_of}
use Rattle.deb_syntax.specs.Raw.{field_named}
use Rattle.deb_version.specs.Places.{version_in}
use Rattle.deb_field.specs.Values.{ValueMeaning, NameMeans, VersionMeans, ArchitectureMeans, LineMeans, TextMeans}
use Rattle.deb_field.specs.Words.{words_of}
use Rattle.deb_control.specs.Acceptance.{has_values}
use Rattle.deb_control.specs.Documents.{Meaning, Accepted}
use Rattle.deb_control.specs.Pairs.{Pairwise}
use Rattle.deb_control.specs.Paragraphs.{AreValuesOf}
use Rattle.deb_control.specs.ValueFiles.{ValueEntries}
use Rattle.deb_base.specs.declared.doc.Doc.TheVariants.{Packages}
use Rattle.deb_index.specs.FirstLines.{first_line}
use Rattle.deb_index.specs.Keeping.{KeepsAll}
use Rattle.deb_index.specs.Listed.{Listed}
use Rattle.deb_index.specs.Listing.{Lists, value_under}
use Rattle.deb_index.specs.VersionSpellings.{body_or_nothing, version_spelling}

-- the third of three words; none if there are fewer or more
abbrev pub third_of_three : List (List ℕ) → Option (List ℕ)
third_of_three [] = None
third_of_three (want ∷ []) = None
third_of_three (want ∷ flag ∷ []) = None
third_of_three (want ∷ flag ∷ status ∷ []) = Some status
third_of_three (want ∷ flag ∷ status ∷ fourth ∷ more) = None

-- the status in the text of the field Status: want, error flag and status are three words
abbrev pub status_in : List ℕ → Option (List ℕ)
status_in text = third_of_three (words_of text)

-- the package is installed
abbrev pub is_installed : List ℕ → Bool
is_installed text =
    option_map_or (λ status. bytes_eq status (codes "installed")) (status_in text) false

-- the text of a value, if it is one
abbrev pub text_in : ValueMeaning → List ℕ
text_in (TextMeans text) = text
text_in other = []

abbrev pub text_of : Option ValueMeaning → List ℕ
text_of None = []
text_of (Some value) = text_in value

-- the fields that a member has besides Package and Status
abbrev pub member_fields : List (List ℕ)
member_fields = codes "Version" ∷ codes "Architecture" ∷ []

-- A paragraph with these values is of an installed package: a member.
abbrev pub is_member : ValueEntries ValueMeaning → Bool
is_member values =
    is_installed (text_of (value_under (codes "Status") values)) && has_values member_fields values

-- the same by the fields, whose texts are their values
abbrev pub has_member_fields : List Field → Bool
has_member_fields fields = list_all (λ name. is_some (field_named name fields)) member_fields

abbrev pub is_member_by : List Field → Bool
is_member_by fields =
    is_installed (body_or_nothing (field_named (codes "Status") fields))
    && has_member_fields fields

abbrev pub is_seen_member : Seen → Bool
is_seen_member seen = is_member_by seen.fields

-- by what is judged of lines, of which none may be refused
abbrev pub is_judged_member : Result (List Field) Refusal → Bool
is_judged_member (Ok fields) = is_member_by fields
is_judged_member (Err refusal) = false

abbrev pub is_member_in : Paragraph → Bool
is_member_in p = is_judged_member (judged p.first p.lines)

-- The file is accepted as a status file, and its members list these packages, in its order.
pub record ListsInstalled (text : List ℕ) (packages : List Listed) : Type 0 where
  pub meaning : Meaning
  pub accepted : Accepted Status text meaning
  pub listed : Pairwise Lists (filter is_member meaning) packages

-- The first lines of its members, and the texts by which these spell their versions.
abbrev pub installed_lines : List ℕ → List ℕ
installed_lines text = map first_line (filter is_member_in (paragraphs_of text))

abbrev pub installed_spellings : List ℕ → List (List ℕ)
installed_spellings text = map version_spelling (filter is_member_in (paragraphs_of text))

-- This is kept of all paragraphs of the status file; they have these values; they have the same
-- members by their fields and by their values; and each member has the values of a paragraph of an
-- index of packages.
pub record KeepsInstalled (Keeps : List Seen → Type 0) (text : List ℕ) : Type 0 where
  pub all : KeepsAll Status Keeps text
  pub meaning : Meaning
  pub are : Pairwise (AreValuesOf Status) all.given meaning
  pub same : Pairwise (λ seen values. is_seen_member seen ≡ is_member values) all.given meaning
  pub members : Pairwise (AreValuesOf Packages) (filter is_seen_member all.given)
      (filter is_member meaning)

-- Other states, and words that aren't three. White space is spaces, tabs and newlines; a word is
-- compared byte by byte.
worked-statuses : map is_installed
    (codes "install ok installed" ∷ codes "hold reinstreq installed"
    ∷ codes "install  ok\tinstalled" ∷ codes "install\n ok\n installed" ∷ [])
    ≡ true ∷ true ∷ true ∷ true ∷ []
worked-statuses = refl

worked-others : map is_installed
    (codes "deinstall ok config-files" ∷ codes "install ok half-installed"
    ∷ codes "purge ok not-installed" ∷ codes "install ok Installed" ∷ codes "install ok"
    ∷ codes "ok installed" ∷ codes "installed" ∷ codes "install ok installed installed"
    ∷ codes "install ok installed-" ∷ [] ∷ [])
    ≡ false ∷ false ∷ false ∷ false ∷ false ∷ false ∷ false ∷ false ∷ false ∷ false ∷ []
worked-others = refl

worked-third : map third_of_three
    ([] ∷ (codes "a" ∷ []) ∷ (codes "a" ∷ codes "b" ∷ [])
    ∷ (codes "a" ∷ codes "b" ∷ codes "c" ∷ [])
    ∷ (codes "a" ∷ codes "b" ∷ codes "c" ∷ codes "d" ∷ []) ∷ [])
    ≡ None ∷ None ∷ None ∷ Some (codes "c") ∷ None ∷ []
worked-third = refl

-- for the worked cases: the values of a package with this text of Status
abbrev with_status : List ℕ → ValueEntries ValueMeaning
with_status status =
    (codes "Architecture", ArchitectureMeans (codes "all"))
    ∷ (codes "Package", NameMeans (codes "aa"))
    ∷ (codes "Status", TextMeans status)
    ∷ (codes "Version", VersionMeans (version_in (codes "1.0"))) ∷ []

-- without an architecture, without a version, without both, and without Status; and of a line that
-- is no text
worked-members : map is_member
    (with_status (codes "install ok installed") ∷ with_status (codes "deinstall ok config-files")
    ∷ ((codes "Package", NameMeans (codes "aa"))
    ∷ (codes "Status", TextMeans (codes "install ok installed"))
    ∷ (codes "Version", VersionMeans (version_in (codes "1.0"))) ∷ [])
    ∷ ((codes "Architecture", ArchitectureMeans (codes "all"))
    ∷ (codes "Package", NameMeans (codes "aa"))
    ∷ (codes "Status", TextMeans (codes "install ok installed")) ∷ [])
    ∷ ((codes "Package", NameMeans (codes "aa"))
    ∷ (codes "Status", TextMeans (codes "install ok installed")) ∷ [])
    ∷ ((codes "Architecture", ArchitectureMeans (codes "all"))
    ∷ (codes "Package", NameMeans (codes "aa"))
    ∷ (codes "Version", VersionMeans (version_in (codes "1.0"))) ∷ [])
    ∷ ((codes "Architecture", ArchitectureMeans (codes "all"))
    ∷ (codes "Status", LineMeans (codes "install ok installed"))
    ∷ (codes "Version", VersionMeans (version_in (codes "1.0"))) ∷ []) ∷ [])
    ≡ true ∷ false ∷ false ∷ false ∷ false ∷ false ∷ false ∷ []
worked-members = refl

-- the numbers of members count these alone
worked-filter : filter is_member
    (with_status (codes "deinstall ok config-files") ∷ with_status (codes "install ok installed")
    ∷ with_status (codes "install ok half-installed") ∷ [])
    ≡ with_status (codes "install ok installed") ∷ []
worked-filter = refl

-- a status file of four paragraphs: removed, installed, without a version, and installed with the
-- names of its fields in other case
abbrev file : List ℕ
file =
    codes "Package: aa\nStatus: deinstall ok config-files\nVersion: 1\nArchitecture: all\n\n"
    ++ (codes "Package: bb\nStatus: install ok installed\nVersion: 02\nArchitecture: all\n\n"
    ++ (codes "Package: cc\nStatus: install ok installed\nArchitecture: all\n\n"
    ++ codes "Package: dd\nARCHITECTURE: all\nversion: 3\nstatus: hold ok\n installed\n"))

worked-file : (installed_lines file ≡ 6 ∷ 15 ∷ [])
    × (installed_spellings file ≡ codes "02" ∷ codes "3" ∷ [])
unfolding paragraph_limit is_utf8 chars encode
worked-file = (refl, refl)

-- by fields, and where a line is refused
worked-seen : map is_seen_member
    (record { first = 1; fields = [] }
    ∷ record {
      first = 1;
      fields = record { name = codes "status"; line = 1; body = codes "install ok installed" }
          ∷ record { name = codes "Version"; line = 2; body = codes "1" }
          ∷ record { name = codes "Architecture"; line = 3; body = codes "all" } ∷ [];
    } ∷ []) ≡ false ∷ true ∷ []
worked-seen = refl

worked-refused : installed_lines (codes "Status: install ok installed\nVersion: 1\nx\n") ≡ []
unfolding paragraph_limit is_utf8 chars encode
worked-refused = refl
