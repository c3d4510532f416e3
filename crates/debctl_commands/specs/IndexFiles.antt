-- An index of several files that are opened by their paths: what reading them gives. The packages
-- of files are those of `deb_index`.
use Rattle.std.specs.Prelude.{◌≡◌, ◌⊎◌, ℕ, ◌-◌, List, [], ◌∷◌, ◌++◌, length, Option, Some, Result, Ok, Err}
use Rattle.std.specs.Prelude.{IfErr, IfOk}
use Rattle.deb_base.specs.Faults.{IsReadersFault, MatchFault}
use Rattle.deb_base.specs.declared.code.Code.TheVariants.{NoColon}
use Rattle.deb_base.specs.declared.doc.Doc.{Doc}
use Rattle.deb_base.specs.declared.fault.Fault.{Fault}
use Rattle.deb_base.specs.declared.fault.Fault.TheVariants.{Memory, Read, Refused}
use Rattle.deb_control.specs.Calls.{IfRefused}
use Rattle.deb_control.specs.Checking.{IsRefusalOfDocument}
use Rattle.deb_control.specs.Documents.{refusal_of}
use Rattle.deb_index.specs.Files.{CountsFiles, ListsAfter, ListsFiles, files_spellings}
use Rattle.deb_index.specs.Indexes.{counts_of, packages_of, spellings_of}
use Rattle.deb_index.specs.Members.{doc_of, member_spellings}
use Rattle.deb_index.specs.declared.index.Index.{Index}
use Rattle.deb_index.specs.declared.members.Members.{Members}
use Rattle.debctl_commands.specs.FileFaults.{fault_at, role_among}
use Rattle.debctl_commands.specs.JobDevices.{WriterOfJob}
use Rattle.debctl_commands.specs.OpenedFiles.{AreTexts, InOrder, Opener, ReadsMore, refusal_among}
use Rattle.debctl_commands.specs.declared.file_fault.FileFault.{FileFault}
use Rattle.debctl_commands.specs.declared.file_fault.PlaceFault.{PlaceFault}
use Rattle.debctl_commands.specs.declared.file_fault.Role.{Role}

-- What one more file adds to an index, by the file's text, where it is known.
pub record AddsIndex (members : Members) (index : Index) (left : Option (List ℕ))
    (answer : Result Index Fault) : Type 0 where
  pub lists : (text : List ℕ) → left ≡ Some text → IfOk answer
      (λ more. ListsAfter members text (packages_of index) (packages_of more))
  pub spells : (text : List ℕ) → left ≡ Some text → IfOk answer
      (λ more. spellings_of more ≡ spellings_of index ++ member_spellings members text)
  pub counts : IfOk answer (λ more. counts_of more
      ≡ counts_of index ++ (length (packages_of more) - length (packages_of index)) ∷ [])
  pub refused : (text : List ℕ) → left ≡ Some text →
      IfRefused answer (λ refusal. refusal_of (doc_of members) text ≡ Some refusal)
  pub fault : IfErr answer (λ fault. IsReadersFault fault IsRefusalOfDocument)

-- An index is of no file.
pub record IsOfNone (index : Index) : Type 0 where
  pub packages : packages_of index ≡ []
  pub spellings : spellings_of index ≡ []
  pub counts : counts_of index ≡ []

-- The files of some paths were opened in order and read into one index, which began as that of no
-- file; or memory was refused for that, and none was opened.
abbrev pub ReadsIndexes : {F R : Type 0} → Opener F R → Members → List (List ℕ) → F
    → Result Index PlaceFault → F → Type 0
ReadsIndexes by members paths files answer files_after =
    ((answer ≡ Err (record { place = 1; fault = Memory })) × (files_after ≡ files))
    ⊎ ((none : Index) × IsOfNone none
    × InOrder (ReadsMore by (AddsIndex members)) 1 paths files none answer files_after)

-- Each of the files is accepted, and the index has the packages of all of them, in order, with the
-- texts of their versions and how many each file has.
pub record HasFiles (members : Members) (texts : List (List ℕ)) (index : Index) : Type 0 where
  pub lists : ListsFiles members texts (packages_of index)
  pub spells : spellings_of index ≡ files_spellings members texts
  pub counts : CountsFiles members texts (counts_of index)

-- A refusal is that of the first of some files that is refused, and its place is told.
abbrev pub RefusesPlace : Doc → List (List ℕ) → PlaceFault → Type 0
RefusesPlace doc texts told =
    MatchFault told.fault (λ refusal. refusal_among doc texts ≡ Some (told.place, refusal))
    (Unit {0}) (Unit {0}) (Unit {0})

-- The files of some paths were read into this index.
pub record ReadsAll {F R : Type 0} (by : Opener F R) (members : Members) (paths : List (List ℕ))
    (index : Index) (files files_after : F) : Type 0 where
  pub in_order : ReadsIndexes by members paths files (Ok index) files_after
  pub has : (texts : List (List ℕ)) → AreTexts (by.text files) paths texts →
      HasFiles members texts index

-- One of them is refused, can't be opened or read, or takes too much memory, and none was opened
-- after it.
pub record FailsToRead {F R : Type 0} (by : Opener F R) (members : Members)
    (paths : List (List ℕ)) (told : PlaceFault) (files files_after : F) : Type 0 where
  pub in_order : ReadsIndexes by members paths files (Err told) files_after
  pub refused : (texts : List (List ℕ)) → AreTexts (by.text files) paths texts →
      RefusesPlace (doc_of members) texts told
  pub fault : IsReadersFault told.fault IsRefusalOfDocument

abbrev pub AnswersIndexes : {F R : Type 0} → Opener F R → Members → List (List ℕ) → F
    → Result Index PlaceFault → F → Type 0
AnswersIndexes by members paths files (Ok index) files_after =
    ReadsAll by members paths index files files_after
AnswersIndexes by members paths files (Err told) files_after =
    FailsToRead by members paths told files files_after

-- A job over indexes ends at one of them, whose role is `alone` if there is only one of so many:
-- nothing was written.
pub record FailsAtIndexes {F R W T : Type 0} (by : Opener F R) (members : Members) (alone : Role)
    (count : ℕ) (paths : List (List ℕ)) (files files_after : F) (out : WriterOfJob W)
    (answer : Result T FileFault) : Type 0 where
  pub told : PlaceFault
  pub is : answer ≡ Err (fault_at (role_among alone count told.place) told.fault)
  pub fails : FailsToRead by members paths told files files_after
  pub unwritten : out.new ≡ out.old

-- a refusal is told of its file, which is the second, and other faults tell nothing of the texts
refusals_told : (doc : Doc) (texts : List (List ℕ))
    → (RefusesPlace doc texts
    (record { place = 2; fault = Refused (record { code = NoColon; line = 1 }) })
    → refusal_among doc texts ≡ Some (2, record { code = NoColon; line = 1 }))
    × RefusesPlace doc texts (record { place = 2; fault = Memory })
    × RefusesPlace doc texts (record { place = 2; fault = Read })
refusals_told doc texts = (λ told. told, tt, tt)
