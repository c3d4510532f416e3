-- What is written of a file over its own packages. Debian Policy 5.1, 7.1 and 7.2; the form of the
-- lines is this project's own.
use Rattle.std.specs.Prelude.{◌≡◌, ◌⊎◌, ℕ, ◌+◌, cond, List, [], ◌∷◌, ◌++◌, length, map, Option, Some, None, codes, refl}
use Rattle.std.specs.Fmt.{decimal, digits}
use Rattle.std.specs.List.{concat, filter}
use Rattle.std.specs.Str.{is_utf8, chars}
use lib.Utf8.{encode}
use Rattle.std.specs.Io.KnownBytes.{Appends}
use Rattle.deb_base.specs.Bodies.{paragraph_limit, file_limit}
use Rattle.deb_base.specs.Devices.{AppendsFront}
use Rattle.deb_base.specs.declared.doc.Doc.TheVariants as docs
use Rattle.deb_base.specs.declared.fault.Fault.{Fault}
use Rattle.deb_base.specs.declared.fault.Fault.TheVariants as faults
use Rattle.deb_base.specs.declared.version_text.VersionText.{VersionText}
use Rattle.deb_base.specs.declared.version_text.VersionText.TheVariants.{Canonical, Spelled}
use Rattle.deb_syntax.specs.Fields.{Field}
use Rattle.deb_version.specs.Places.{version_in}
use Rattle.deb_relation.specs.Applying.{Environment}
use Rattle.deb_relation.specs.Environments.{environment_with}
use Rattle.deb_relation.specs.Texts.{group_text}
use Rattle.deb_relation.specs.Views.{names_of}
use Rattle.deb_field.specs.Values.{ValueMeaning, NameMeans, VersionMeans, ArchitectureMeans, RelationMeans, TextMeans}
use Rattle.deb_control.specs.Documents.{Meaning, Accepted}
use Rattle.deb_control.specs.ValueFiles.{ValueEntries}
use Rattle.deb_index.specs.Alternatives.{alone}
use Rattle.deb_index.specs.Listed.{Listed}
use Rattle.deb_index.specs.Members.{ListsMembers, doc_of, has_values}
use Rattle.deb_index.specs.Without.{without}
use Rattle.deb_index.specs.declared.members.Members.{Members}
use Rattle.deb_index.specs.declared.members.Members.TheVariants.{All, Installed}
use Rattle.deb_unmet.specs.Asked.{request_for}
use Rattle.deb_unmet.specs.Asking.{asks_of}
use Rattle.deb_unmet.specs.Fields.{paragraph_lines}
use Rattle.deb_unmet.specs.Files.{Asks, is_nothing, lines_of}
use Rattle.deb_unmet.specs.Scopes.{Scope, old_packages, over_packages, plain}
use Rattle.deb_unmet.specs.Spelled.{fields_after}
use Rattle.deb_unmet.specs.declared.asked.Asked.TheVariants.{Packages}
use Rattle.deb_unmet.specs.declared.asked.Strength.{Strength}
use Rattle.deb_unmet.specs.declared.asked.Strength.TheVariants.{Depends, Recommends}
use Rattle.deb_unmet.specs.declared.asking.Summary.{Summary}
use Rattle.deb_unmet.specs.declared.own.OwnQuestion.{OwnQuestion}
use Rattle.deb_unmet.specs.declared.own.OwnRequest.{OwnRequest}

-- what is asked of a file over its own packages: which of its paragraphs are these, which text of a
-- version the lines have, which packages the lines are over, of those that the file lists, the
-- lines of a member over packages, and what the line of another paragraph has after its number;
-- nothing if that has no line
pub record OwnAsks : Type 0 where
  pub members : Members
  pub versions : VersionText
  pub over : List Listed → List Listed
  pub lines : List Listed → ℕ → List ℕ → ValueEntries ValueMeaning → List ℕ
  pub others : ValueEntries ValueMeaning → List ℕ

abbrev pub asks_over : OwnAsks → List Listed → Asks
asks_over own packages =
    record { doc = docs.Packages; versions = own.versions; lines = own.lines packages }

-- the same, where these packages are listed before those of the file
abbrev pub asks_after : List Listed → OwnAsks → OwnAsks
asks_after before own =
    record {
      members = own.members;
      versions = own.versions;
      over = λ packages. own.over (before ++ packages);
      lines = own.lines;
      others = own.others;
    }

-- The lines of its groups, as `unmet` writes them, over the packages of the scope followed by those
-- of the file, without the names that are left out; another paragraph has none.
abbrev pub asks_own : Members → Strength → VersionText → Environment → Scope → OwnAsks
asks_own members strength versions environment scope =
    record {
      members = members;
      versions = versions;
      over = λ packages. without scope.without (scope.packages ++ packages);
      lines =
          λ listed. paragraph_lines (Packages strength) environment (over_packages listed scope);
      others = λ values. [];
    }

-- the same, as the code holds what is asked
abbrev pub own_request : Members → Strength → VersionText → OwnRequest
own_request members strength versions =
    record { members = members; strength = strength; versions = versions }

abbrev pub own_asked : OwnRequest → Environment → Scope → OwnAsks
own_asked request environment scope =
    asks_own request.members request.strength request.versions environment scope

abbrev pub own_scope : List Listed → OwnQuestion → Scope
own_scope before question =
    record {
      packages = before;
      unless = old_packages question.unless;
      without = names_of question.without.now;
    }

-- `state NUMBER` and a text; nothing if that is empty
abbrev pub other_line : ℕ → List ℕ → List ℕ
other_line number [] = []
other_line number (b ∷ bs) = concat (codes "state " ∷ decimal number ∷ (b ∷ bs) ∷ [])

-- The lines of a paragraph that comes after so many, of which so many are members. The number of a
-- member counts the members alone, and that of another paragraph all.
abbrev pub part_lines : OwnAsks → List Listed → List Field → (n k : ℕ) → ValueEntries ValueMeaning
    → List ℕ
part_lines own packages fields n k values =
    cond (has_values own.members values)
    (lines_of (asks_over own packages) (k + 1) fields values)
    (other_line (n + 1) (own.others values))

-- how many members there are with it
abbrev pub counted : Members → ℕ → ValueEntries ValueMeaning → ℕ
counted members k values = cond (has_values members values) (k + 1) k

-- the lines of a file's paragraphs that come after so many, of which so many are members
abbrev pub parts_from : OwnAsks → List Listed → List ℕ → (n k : ℕ) → Meaning → List ℕ
parts_from own packages text n k [] = []
parts_from own packages text n k (values ∷ more) =
    part_lines own packages (fields_after text n) n k values
    ++ parts_from own packages text (n + 1) (counted own.members k values) more

-- The lines of a file over these packages, in the order of its paragraphs.
abbrev pub own_lines : OwnAsks → List Listed → List ℕ → Meaning → List ℕ
own_lines own packages text meaning = parts_from own packages text 0 0 meaning

-- The file is accepted, exactly its lines over the packages that are asked were written, and the
-- summary says how many members it has and whether there is no line.
pub record WritesOwn (own : OwnAsks) (text : List ℕ) (summary : Summary)
    (old new : Option (List ℕ)) : Type 0 where
  pub packages : List Listed
  pub lists : ListsMembers own.members text packages
  pub meaning : Meaning
  pub accepted : Accepted (doc_of own.members) text meaning
  pub count : length (filter (has_values own.members) meaning) ≡ summary.paragraphs
  pub written : Appends old new (own_lines own (own.over packages) text meaning)
  pub is_empty : summary.is_empty ≡ is_nothing (own_lines own (own.over packages) text meaning)

-- The same, where a front of these lines was written.
pub record BeginsOwn (own : OwnAsks) (text : List ℕ) (old new : Option (List ℕ)) : Type 0 where
  pub packages : List Listed
  pub lists : ListsMembers own.members text packages
  pub meaning : Meaning
  pub accepted : Accepted (doc_of own.members) text meaning
  pub written : AppendsFront old new (own_lines own (own.over packages) text meaning)

-- The same, where exactly the lines of the first paragraphs were written.
pub record WritesFirst (own : OwnAsks) (text : List ℕ) (old new : Option (List ℕ)) : Type 0 where
  pub packages : List Listed
  pub lists : ListsMembers own.members text packages
  pub first : Meaning
  pub more : Meaning
  pub accepted : Accepted (doc_of own.members) text (first ++ more)
  pub written : Appends old new (own_lines own (own.over packages) text first)

-- Refused, or a read failed: nothing was written. Out of memory: nothing, or exactly the lines of
-- the first paragraphs of an accepted file. A write failed: a front of its lines.
abbrev pub StopsOwn : Fault → OwnAsks → List ℕ → Option (List ℕ) → Option (List ℕ) → Type 0
StopsOwn (faults.Refused refusal) own text old new = old ≡ new
StopsOwn faults.Memory own text old new = (old ≡ new) ⊎ WritesFirst own text old new
StopsOwn faults.Read own text old new = old ≡ new
StopsOwn faults.Write own text old new = BeginsOwn own text old new

-- An index of two packages, of which the first depends on the second and on bb, and recommends cc;
-- it spells its version otherwise than the canonical text does.
abbrev file : List ℕ
file =
    codes "Package: xx\nVersion: 01.0-0\nArchitecture: amd64\nDepends: bb, aa\nRecommends: cc\n\n"
    ++ codes "Package: aa\nVersion: 2\nArchitecture: all\nDepends: xx\n"

abbrev listed : List ℕ → List ℕ → List ℕ → Listed
listed name version architecture =
    record {
      name = name;
      version = version_in version;
      architecture = architecture;
      multi_arch = None;
      provisions = [];
    }

abbrev packages : List Listed
packages =
    listed (codes "xx") (codes "1.0") (codes "amd64")
    ∷ listed (codes "aa") (codes "2") (codes "all") ∷ []

abbrev first : ValueEntries ValueMeaning
first =
    (codes "Architecture", ArchitectureMeans (codes "amd64"))
    ∷ (
      codes "Depends",
      RelationMeans ((alone (codes "aa") ∷ []) ∷ (alone (codes "bb") ∷ []) ∷ []),
    )
    ∷ (codes "Package", NameMeans (codes "xx"))
    ∷ (codes "Recommends", RelationMeans ((alone (codes "cc") ∷ []) ∷ []))
    ∷ (codes "Version", VersionMeans (version_in (codes "1.0"))) ∷ []

abbrev second : ValueEntries ValueMeaning
second =
    (codes "Architecture", ArchitectureMeans (codes "all"))
    ∷ (codes "Depends", RelationMeans ((alone (codes "xx") ∷ []) ∷ []))
    ∷ (codes "Package", NameMeans (codes "aa"))
    ∷ (codes "Version", VersionMeans (version_in (codes "2"))) ∷ []

abbrev for_amd64 : Environment
for_amd64 = environment_with (codes "amd64") []

-- no file before it, no old index, and no name left out
abbrev alone_scope : Scope
alone_scope = plain []

worked-own : (own_lines (asks_own All Depends Canonical for_amd64 alone_scope) packages file
    (first ∷ second ∷ []) ≡ codes "unmet 1 xx 1.0 amd64 Depends bb\n")
    × (own_lines (asks_own All Depends Canonical for_amd64 alone_scope) [] file
    (first ∷ second ∷ [])
    ≡ codes "unmet 1 xx 1.0 amd64 Depends aa\nunmet 1 xx 1.0 amd64 Depends bb\n"
    ++ codes "unmet 2 aa 2 all Depends xx\n")
unfolding group_text digits
worked-own = (refl, refl)

worked-spelled : own_lines (asks_own All Recommends Spelled for_amd64 alone_scope) packages file
    (first ∷ second ∷ [])
    ≡ codes "unmet 1 xx 01.0-0 amd64 Depends bb\nunmet 1 xx 01.0-0 amd64 Recommends cc\n"
unfolding group_text digits file_limit paragraph_limit is_utf8 chars encode
worked-spelled = refl

worked-request : own_asked (own_request Installed Recommends Spelled) for_amd64 alone_scope
    ≡ asks_own Installed Recommends Spelled for_amd64 alone_scope
worked-request = refl

-- Over bb before it the first package has no line for bb; over an old index that meets aa alone
-- none for bb either, but one for aa if that is left out, and then aa has none.
abbrev after_bb : Scope
after_bb = plain (listed (codes "bb") (codes "1") (codes "amd64") ∷ [])

abbrev without_aa : Scope
without_aa =
    record {
      packages = [];
      unless = Some (listed (codes "aa") (codes "1") (codes "all") ∷ []);
      without = codes "aa" ∷ [];
    }

abbrev lines_over : Scope → List ℕ
lines_over scope =
    let own = asks_own All Depends Canonical for_amd64 scope in
    own_lines own (own.over packages) file (first ∷ second ∷ [])

worked-over : map lines_over (after_bb ∷ without_aa ∷ alone_scope ∷ [])
    ≡ [] ∷ codes "unmet 1 xx 1.0 amd64 Depends aa\n"
    ∷ codes "unmet 1 xx 1.0 amd64 Depends bb\n" ∷ []
unfolding group_text digits
worked-over = refl

worked-after : (asks_after [] (asks_own All Depends Canonical for_amd64 after_bb)).over packages
    ≡ listed (codes "bb") (codes "1") (codes "amd64") ∷ packages
worked-after = refl

-- they are the lines that `unmet` writes of the index as a file
worked-same : asks_over (asks_own All Depends Spelled for_amd64 alone_scope) packages
    ≡ asks_of (request_for (Packages Depends) Spelled) for_amd64 (plain packages)
worked-same = refl

-- A status file of a package that was removed, and of two that are installed and don't meet what
-- they depend on: the numbers are 1 and 2, and versions are spelled as in their own paragraphs.
abbrev status_file : List ℕ
status_file =
    codes "Package: rr\nStatus: deinstall ok config-files\nVersion: 9\nArchitecture: all\n"
    ++ (codes "Depends: ss\n\n"
    ++ (codes "Package: xx\nStatus: install ok installed\nVersion: 01.0-0\nArchitecture: amd64\n"
    ++ (codes "Depends: bb, aa\nRecommends: cc\n\n"
    ++ codes "Package: aa\nStatus: a b installed\nVersion: 02\nArchitecture: all\nDepends: rr\n")))

abbrev with_status : List ℕ → List ℕ → List ℕ → List ℕ → List ℕ → ValueEntries ValueMeaning
with_status name architecture depends status version =
    (codes "Architecture", ArchitectureMeans architecture)
    ∷ (codes "Depends", RelationMeans ((alone depends ∷ []) ∷ []))
    ∷ (codes "Package", NameMeans name) ∷ (codes "Status", TextMeans status)
    ∷ (codes "Version", VersionMeans (version_in version)) ∷ []

abbrev installed : Meaning
installed =
    with_status (codes "rr") (codes "all") (codes "ss") (codes "deinstall ok config-files")
    (codes "9")
    ∷ with_status (codes "xx") (codes "amd64") (codes "bb") (codes "install ok installed")
    (codes "1.0")
    ∷ with_status (codes "aa") (codes "all") (codes "rr") (codes "a b installed") (codes "2") ∷ []

worked-installed : (own_lines (asks_own Installed Depends Canonical for_amd64 alone_scope) packages
    status_file installed
    ≡ codes "unmet 1 xx 1.0 amd64 Depends bb\nunmet 2 aa 2 all Depends rr\n")
    × (own_lines (asks_own Installed Depends Spelled for_amd64 alone_scope) packages status_file
    installed
    ≡ codes "unmet 1 xx 01.0-0 amd64 Depends bb\nunmet 2 aa 02 all Depends rr\n")
    × (own_lines (asks_own All Depends Canonical for_amd64 alone_scope) packages status_file
    installed
    ≡ codes "unmet 1 rr 9 all Depends ss\nunmet 2 xx 1.0 amd64 Depends bb\n"
    ++ codes "unmet 3 aa 2 all Depends rr\n")
unfolding group_text digits file_limit paragraph_limit is_utf8 chars encode
worked-installed = (refl, refl, refl)

worked-others : (map (λ text. other_line 12 text) ([] ∷ codes " aa\n" ∷ [])
    ≡ [] ∷ codes "state 12 aa\n" ∷ [])
    × (map (counted Installed 4) installed ≡ 4 ∷ 5 ∷ 5 ∷ [])
    × (map (counted All 4) installed ≡ 5 ∷ 5 ∷ 5 ∷ [])
unfolding digits
worked-others = (refl, refl, refl)

-- the lines of other paragraphs are among those of members, and their numbers count all
worked-parts : own_lines
    (record {
      members = Installed;
      versions = Canonical;
      over = λ ps. ps;
      lines = λ ps. paragraph_lines (Packages Depends) for_amd64 (plain ps);
      others = λ values. codes " - \n";
    }) packages status_file installed
    ≡ codes "state 1 - \nunmet 1 xx 1.0 amd64 Depends bb\nunmet 2 aa 2 all Depends rr\n"
unfolding group_text digits
worked-parts = refl
