-- An index that a program in C reads once and asks often: what it holds, and what the calls return
-- of it. The statuses are this project's own.
use Rattle.std.specs.Prelude.{◌≡◌, ◌⊎◌, ◌-◌, ◌++◌, ℕ, Bool, List, [], ◌∷◌, None, Some, Result, Ok, Err, codes, length, refl}
use Rattle.std.specs.List.{concat}
use Rattle.deb_base.specs.declared.doc.Doc.TheVariants.{Packages}
use Rattle.deb_base.specs.declared.fault.Fault.{Fault}
use Rattle.deb_base.specs.declared.fault.Fault.TheVariants.{Refused, Memory, Read, Write}
use Rattle.deb_base.specs.declared.refusal.Refusal.{Refusal}
use Rattle.deb_control.specs.Documents.{refusal_of}
use Rattle.deb_version.specs.Canonical.{version_text}
use Rattle.deb_index.specs.Files.{ListsAfter, file_of}
use Rattle.deb_index.specs.FirstLines.{first_lines}
use Rattle.deb_index.specs.Indexes.{counts_of, lines_of, packages_of}
use Rattle.deb_index.specs.Listed.{Listed}
use Rattle.deb_index.specs.Named.{numbers_of, package_at}
use Rattle.deb_index.specs.Listing.{ListsAll}
use Rattle.deb_index.specs.Questions.{Question}
use Rattle.deb_index.specs.Without.{counts_left, left_beside, without}
use Rattle.deb_index.specs.declared.index.Index.{Index}
use Rattle.deb_index.specs.declared.members.Members.TheVariants.{All}
use Rattle.debctl_ffi.specs.Answers.{HasStatus, counting, plain, refusing}
use Rattle.debctl_ffi.specs.Buffers.{Buffer}
use Rattle.debctl_ffi.specs.Queries.{Kept, LoadedFails, QueryFails, Reports, ReportsLoaded, hello, kept_by}
use Rattle.debctl_ffi.specs.Replies.{Replies}
use Rattle.debctl_ffi.specs.Unmet.{Asker, ListsUnmet, UnmetFails}
use Rattle.debctl_ffi.specs.declared.answer.Answer.{Answer}
use Rattle.debctl_ffi.specs.declared.loaded.Loaded.{Loaded}
use Rattle.debctl_ffi.specs.declared.report.Detail.{Detail}

-- ---- what is loaded

-- It is the index that lists the packages of the file, and of no other; or there is none.
pub record HoldsIndex (text : List ℕ) (loaded : Loaded) : Type 0 where
  pub index : Index
  pub is : loaded.index ≡ Some index
  pub lists : ListsAll text (packages_of index)
  pub alone : counts_of index ≡ length (packages_of index) ∷ []

abbrev pub HoldsNone : Loaded → Type 0
HoldsNone loaded = loaded.index ≡ None

-- It has these packages.
pub record HasPackages (loaded : Loaded) (packages : List Listed) : Type 0 where
  pub index : Index
  pub is : loaded.index ≡ Some index
  pub packages_are : packages ≡ packages_of index

-- The paragraphs of its packages start at these lines.
pub record HasLines (loaded : Loaded) (lines : List ℕ) : Type 0 where
  pub index : Index
  pub is : loaded.index ≡ Some index
  pub lines_are : lines ≡ lines_of index

-- It keeps these packages, of files that have so many.
pub record HasFiles (loaded : Loaded) (kept : Kept) : Type 0 where
  pub index : Index
  pub is : loaded.index ≡ Some index
  pub kept_are : kept ≡ kept_by index

-- ---- reading it

-- The file is accepted as an index, whose packages are counted and loaded with the lines at which
-- their paragraphs start.
pub record LoadsIndex (text : List ℕ) (answer : Answer) (loaded : Loaded) : Type 0 where
  pub holds : HoldsIndex text loaded
  pub is : answer ≡ counting 0 (length (packages_of holds.index))
  pub lines : lines_of holds.index ≡ first_lines text

-- It is refused, and nothing is loaded.
pub record LoadsNone (text : List ℕ) (answer : Answer) (loaded : Loaded) : Type 0 where
  pub refusal : Refusal
  pub refused : refusal_of Packages text ≡ Some refusal
  pub is : answer ≡ refusing 2 refusal
  pub none : HoldsNone loaded

-- What is answered of an index that was made, or of why it wasn't, and what then lies there.
abbrev pub Keeps : Result Index Fault → Answer → Loaded → Type 0
Keeps (Ok index) answer loaded =
    (answer ≡ counting 0 (length (packages_of index))) × (loaded.index ≡ Some index)
Keeps (Err (Refused refusal)) answer loaded = (answer ≡ refusing 2 refusal) × HoldsNone loaded
Keeps (Err Memory) answer loaded = (answer ≡ plain 5) × HoldsNone loaded
Keeps (Err Read) answer loaded = (answer ≡ plain 5) × HoldsNone loaded
Keeps (Err Write) answer loaded = (answer ≡ plain 5) × HoldsNone loaded

-- What is answered, and what then lies in the memory.
pub record IsLoading (text : List ℕ) (answer : Answer) (loaded : Loaded) : Type 0 where
  pub accepted : answer.status ≡ 0 → LoadsIndex text answer loaded
  pub refused : answer.status ≡ 2 → LoadsNone text answer loaded
  pub no_memory : answer.status ≡ 5 → (answer ≡ plain 5) × HoldsNone loaded
  pub status : HasStatus answer.status (0 ∷ 2 ∷ 5 ∷ [])

-- ---- one more file, and packages that are left out

-- There was an index, and one more file is accepted: its packages follow, and all are counted.
pub record LoadsMore (text : List ℕ) (answer : Answer) (before loaded : Loaded) : Type 0 where
  pub old : Index
  pub was : before.index ≡ Some old
  pub index : Index
  pub is : loaded.index ≡ Some index
  pub lists : ListsAfter All text (packages_of old) (packages_of index)
  pub lines : lines_of index ≡ lines_of old ++ first_lines text
  pub counts : counts_of index
      ≡ counts_of old ++ (length (packages_of index) - length (packages_of old)) ∷ []
  pub told : answer ≡ counting 0 (length (packages_of index))

-- There was none, and is none.
pub record StaysNone (answer : Answer) (before loaded : Loaded) : Type 0 where
  pub none : HoldsNone before
  pub stays : HoldsNone loaded
  pub is : answer ≡ plain 7

-- After a refusal, or out of memory, nothing is loaded.
pub record IsLoadingMore (text : List ℕ) (answer : Answer) (before loaded : Loaded) : Type 0 where
  pub accepted : answer.status ≡ 0 → LoadsMore text answer before loaded
  pub refused : answer.status ≡ 2 → LoadsNone text answer loaded
  pub no_memory : answer.status ≡ 5 → (answer ≡ plain 5) × HoldsNone loaded
  pub no_index : answer.status ≡ 7 → StaysNone answer before loaded
  pub none_held : HoldsNone before → answer.status ≡ 7
  pub status : HasStatus answer.status (0 ∷ 2 ∷ 5 ∷ 7 ∷ [])

-- The packages that have one of these names are left out, and the others are counted.
pub record LeavesOut (names : List (List ℕ)) (answer : Answer) (before loaded : Loaded) : Type 0
  where
    pub old : Index
    pub was : before.index ≡ Some old
    pub index : Index
    pub is : loaded.index ≡ Some index
    pub packages : packages_of index ≡ without names (packages_of old)
    pub lines : lines_of index ≡ left_beside names (packages_of old) (lines_of old)
    pub counts : counts_of index ≡ counts_left names (counts_of old) (packages_of old)
    pub told : answer ≡ counting 0 (length (packages_of index))

pub record IsWithout (names : List (List ℕ)) (answer : Answer) (before loaded : Loaded) : Type 0
  where
    pub done : answer.status ≡ 0 → LeavesOut names answer before loaded
    pub no_memory : answer.status ≡ 5 → (answer ≡ plain 5) × HoldsNone loaded
    pub no_index : answer.status ≡ 7 → StaysNone answer before loaded
    pub none_held : HoldsNone before → answer.status ≡ 7
    pub status : HasStatus answer.status (0 ∷ 5 ∷ 7 ∷ [])

-- ---- a package by its number

-- `NAME VERSION ARCHITECTURE`
abbrev pub package_words : Listed → List ℕ
package_words p =
    concat (p.name ∷ codes " " ∷ version_text p.version ∷ codes " " ∷ p.architecture ∷ [])

-- There is a package with the number, and these are its words.
pub record HasWords (number : ℕ) (packages : List Listed) (bytes : List ℕ) : Type 0 where
  pub listed : Listed
  pub is : package_at number packages ≡ Some listed
  pub words : bytes ≡ package_words listed

worked-words : package_words hello ≡ codes "hello 1.0 all"
worked-words = refl

-- ---- asking it

-- Nothing is loaded.
abbrev pub IsNotLoaded : Loaded → Answer → Type 0
IsNotLoaded loaded answer = (answer ≡ plain 7) × HoldsNone loaded

-- What a call that asks returns, where this is found or it fails so, unless nothing is loaded.
abbrev pub RepliesLoaded : {T : Type 0} → Loaded → (Answer → List T → Type 0)
    → (Answer → Type 0) → Buffer T → Answer → Type 0
RepliesLoaded loaded Found Fails = Replies Found (λ told. Fails told ⊎ IsNotLoaded loaded told)

-- What is said of each file whose index is loaded; of its packages.
abbrev pub OfIndex : Loaded → (List ℕ → Type 0) → Type 0
OfIndex loaded Says = (text : List ℕ) → HoldsIndex text loaded → Says text

abbrev pub OfPackages : Loaded → (List Listed → Type 0) → Type 0
OfPackages loaded Says = (packages : List Listed) → HasPackages loaded packages → Says packages

-- What is said of what it keeps.
abbrev pub OfFiles : Loaded → (Kept → Type 0) → Type 0
OfFiles loaded Says = (kept : Kept) → HasFiles loaded kept → Says kept

-- A query of an index of any number of files.
abbrev pub AsksFiles : Detail → Question → Loaded → Buffer ℕ → Answer → Type 0
AsksFiles detail q loaded =
    RepliesLoaded loaded (ReportsLoaded detail q (OfFiles loaded)) (LoadedFails q)

-- A query of an index of one file; what a file has that is unmet.
abbrev pub AsksQuery : Detail → Question → Loaded → Buffer ℕ → Answer → Type 0
AsksQuery detail q loaded =
    RepliesLoaded loaded (Reports detail q (OfIndex loaded)) (QueryFails q (OfIndex loaded))

abbrev pub AsksUnmet : ℕ → Bool → (List ℕ → Asker) → List ℕ → Loaded → Buffer ℕ → Answer
    → Type 0
AsksUnmet kind recommends by file loaded =
    RepliesLoaded loaded (ListsUnmet kind recommends by (OfIndex loaded) file)
    (UnmetFails kind recommends by (OfIndex loaded) file)

-- The numbers of its packages that pass a test.
abbrev pub AsksNumbers : (Listed → Bool) → Loaded → Buffer ℕ → Answer → Type 0
AsksNumbers test loaded =
    RepliesLoaded loaded
    (λ told numbers. (told ≡ plain 0)
    × OfPackages loaded (λ packages. numbers ≡ numbers_of test packages))
    (λ told. ⊥)

-- A package by its number: its words are found; or there is none, or memory is out.
abbrev pub NoPackage : ℕ → Loaded → Answer → Type 0
NoPackage number loaded answer =
    ((answer ≡ plain 1) × OfPackages loaded (λ packages. package_at number packages ≡ None))
    ⊎ (answer ≡ plain 5)

abbrev pub AsksPackage : ℕ → Loaded → Buffer ℕ → Answer → Type 0
AsksPackage number loaded =
    RepliesLoaded loaded
    (λ told bytes. (told ≡ plain 0)
    × OfPackages loaded (λ packages. HasWords number packages bytes))
    (NoPackage number loaded)

-- The file of a package by its number; or there is no such package.
abbrev pub AsksFile : ℕ → Loaded → ℕ → Answer → Type 0
AsksFile number loaded file answer =
    ((answer ≡ plain 0) × OfFiles loaded (λ kept. file_of kept.counts number ≡ Some file))
    ⊎ ((file ≡ 0) × (((answer ≡ plain 1)
    × OfFiles loaded (λ kept. file_of kept.counts number ≡ None)) ⊎ IsNotLoaded loaded answer))
