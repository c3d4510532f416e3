-- Files that are opened by their paths and read one after another. That each is opened once, in the
-- order of the paths, and none after a fault, is this project's own.
use Rattle.std.proofs.Common.{arith, inl, inr}
use Rattle.std.specs.Prelude.{◌≡◌, ◌⊎◌, ℕ, ◌+◌, List, [], ◌∷◌, ◌++◌, Option, Some, None, Result, Ok, Err, ⊤}
use Rattle.std.specs.Prelude.{IfOk, codes, refl}
use Rattle.std.specs.Str.{is_utf8, chars}
use lib.Utf8.{encode}
use Rattle.deb_base.specs.Bodies.{file_limit, paragraph_limit}
use Rattle.deb_base.specs.Devices.{failures_after, read_failures_after}
use Rattle.deb_base.specs.declared.code.Code.TheVariants.{NoColon, NoParagraph}
use Rattle.deb_base.specs.declared.doc.Doc.{Doc}
use Rattle.deb_base.specs.declared.doc.Doc.TheVariants.{Binary, Packages}
use Rattle.deb_base.specs.declared.fault.Fault.{Fault}
use Rattle.deb_base.specs.declared.fault.Fault.TheVariants.{Read}
use Rattle.deb_base.specs.declared.refusal.Refusal.{Refusal}
use Rattle.deb_control.specs.Documents.{refusal_of}
use Rattle.deb_control.specs.Pairs.{Pairwise}
use Rattle.debctl_commands.specs.Taking.{TakesFile}
use Rattle.debctl_commands.specs.declared.file_fault.PlaceFault.{PlaceFault}
use Rattle.debctl_commands.specs.declared.unopened.Unopened.{Unopened}
use Rattle.debctl_commands.specs.declared.unopened.Unopened.TheVariants.{NotFound}

-- ---- one file

-- what is known of files that are opened by their paths: what opening a path may give, and the
-- files after it; the texts of the files; the count of failed openings; and of the reader of a file
-- the bytes that it has left and its count of failed calls
pub record Opener (F R : Type 0) : Type 1 where
  pub opens : F → List ℕ → Result R Unopened → F → Type 0
  pub text : F → List ℕ → Option (List ℕ)
  pub unopened : F → ℕ
  pub left : R → Option (List ℕ)
  pub failures : R → ℕ

abbrev pub opener : {F R : Type 0} → (F → List ℕ → Result R Unopened → F → Type 0)
    → (F → List ℕ → Option (List ℕ)) → (F → ℕ) → (R → Option (List ℕ)) → (R → ℕ) → Opener F R
opener opens text unopened left failures =
    record {
      opens = opens;
      text = text;
      unopened = unopened;
      left = left;
      failures = failures;
    }

-- A file that was opened was read, and `Reads` holds of its reader before and after; one couldn't
-- be opened, and `Unread` holds.
abbrev pub ReadsOpened : {R : Type 0} → (R → R → Type 0) → Type 0 → Result R Unopened
    → Result R Unopened → Type 0
ReadsOpened Reads Unread (Ok reader) (Ok rest) = Reads reader rest
ReadsOpened Reads Unread (Ok reader) (Err why) = ⊥
ReadsOpened Reads Unread (Err why) rest = (rest ≡ Err why) × Unread

-- The file of a path was opened once and read so. `opened` is what opening it gave, and `rest` the
-- same once it was read.
pub record OpensFile {F R : Type 0} (by : Opener F R) (path : List ℕ) (Reads : R → R → Type 0)
    (Unread : Type 0) (files files_after : F) : Type 0 where
  pub opened : Result R Unopened
  pub rest : Result R Unopened
  pub opens_once : by.opens files path opened files_after
  pub known : IfOk opened (λ reader. by.left reader ≡ by.text files path)
  pub unchanged : by.text files_after ≡ by.text files
  pub counts_unopened : by.unopened files_after ≡ failures_after (by.unopened files) opened
  pub reads : ReadsOpened Reads Unread opened rest

-- Of a reader no more was taken than a file may have, and one piece, and a read failed exactly if
-- the answer is a failed read.
abbrev pub TakesFor : {F R T : Type 0} → Opener F R → Result T Fault → R → R → Type 0
TakesFor by answer reader rest =
    TakesFile (by.left reader) (by.left rest)
    × (by.failures rest ≡ read_failures_after (by.failures reader) answer)

-- The file of a path was opened once and read, with this answer; one that can't be opened has that
-- of a failed read.
abbrev pub ReadsPath : {F R T : Type 0} → Opener F R → List ℕ → F → Result T Fault → F → Type 0
ReadsPath by path files answer files_after =
    OpensFile by path (TakesFor by answer) (answer ≡ Err Read) files files_after

-- A file was read so, and what was gathered before became this. `Adds` says what by the file's
-- text, where it is known.
pub record ReadsMore {F R S : Type 0} (by : Opener F R)
    (Adds : S → Option (List ℕ) → Result S Fault → Type 0) (path : List ℕ) (files : F) (state : S)
    (answer : Result S Fault) (files_after : F) : Type 0 where
  pub reads : ReadsPath by path files answer files_after
  pub adds : Adds state (by.text files path) answer

-- ---- several files

-- A step was taken for each path in turn, which brings the files, and what was gathered, to where
-- the next one begins; or one failed, whose place is told, and none was taken after it. `place` is
-- that of the first path.
abbrev pub InOrder : {F S : Type 0} → (List ℕ → F → S → Result S Fault → F → Type 0) → ℕ
    → List (List ℕ) → F → S → Result S PlaceFault → F → Type 0
InOrder step place [] files state (Ok last) files_after =
    (last ≡ state) × (files_after ≡ files)
InOrder step place [] files state (Err told) files_after = ⊥
InOrder {F} {S} step place (path ∷ paths) files state (Ok last) files_after =
    (between : F) × (next : S) × step path files state (Ok next) between
    × InOrder step (place + 1) paths between next (Ok last) files_after
InOrder {F} {S} step place (path ∷ paths) files state (Err told) files_after =
    (step path files state (Err told.fault) files_after × (told.place ≡ place))
    ⊎ ((between : F) × (next : S) × step path files state (Ok next) between
    × InOrder step (place + 1) paths between next (Err told) files_after)

-- These are the texts of the files of these paths.
abbrev pub AreTexts : (List ℕ → Option (List ℕ)) → List (List ℕ) → List (List ℕ) → Type 0
AreTexts text paths texts = Pairwise (λ path known. text path ≡ Some known) paths texts

-- The first refusal of the first of some texts that is refused, and the place of that text, where
-- the first one has this place.
abbrev pub refusal_after : ℕ → Option Refusal → Option (ℕ × Refusal) → Option (ℕ × Refusal)
refusal_after place (Some refusal) later = Some (place, refusal)
refusal_after place None later = later

abbrev pub refusal_from : Doc → ℕ → List (List ℕ) → Option (ℕ × Refusal)
refusal_from doc place [] = None
refusal_from doc place (text ∷ texts) =
    refusal_after place (refusal_of doc text) (refusal_from doc (place + 1) texts)

abbrev pub refusal_among : Doc → List (List ℕ) → Option (ℕ × Refusal)
refusal_among doc texts = refusal_from doc 1 texts

-- ---- worked cases

-- for the worked cases: files that list the paths that were opened, and whose readers are the bytes
-- that they have left, which are their path; there is no file of an empty path
abbrev opened_at : List ℕ → Result (List ℕ) Unopened
opened_at [] = Err NotFound
opened_at (byte ∷ more) = Ok (byte ∷ more)

abbrev unopened_in : List (List ℕ) → ℕ
unopened_in [] = 0
unopened_in ([] ∷ files) = unopened_in files + 1
unopened_in ((byte ∷ more) ∷ files) = unopened_in files

abbrev listed : Opener (List (List ℕ)) (List ℕ)
listed =
    opener (λ files path opened after. (opened ≡ opened_at path) × (after ≡ files ++ path ∷ []))
    (λ files path. Some path) unopened_in Some (λ reader. 3)

-- a step that adds a path to those that were gathered, and fails where it is empty
abbrev add : List ℕ → List ℕ → Result (List ℕ) Fault
add state [] = Err Read
add state (byte ∷ more) = Ok (state ++ byte ∷ more)

abbrev adds : List ℕ → List (List ℕ) → List ℕ → Result (List ℕ) Fault → List (List ℕ) → Type 0
adds path files state answer after = (answer ≡ add state path) × (after ≡ files ++ path ∷ [])

steps_in_order : InOrder adds 1 (codes "ab" ∷ codes "c" ∷ []) [] (codes "x") (Ok (codes "xabc"))
    (codes "ab" ∷ codes "c" ∷ [])
steps_in_order = (
  codes "ab" ∷ [],
  codes "xab",
  (refl, refl),
  (codes "ab" ∷ codes "c" ∷ [], codes "xabc", (refl, refl), (refl, refl)),
)

-- the second step fails, and the path after it isn't opened
step_that_fails : InOrder adds 1 (codes "ab" ∷ [] ∷ codes "c" ∷ []) [] (codes "x")
    (Err (record { place = 2; fault = Read })) (codes "ab" ∷ [] ∷ [])
step_that_fails =
    inr (codes "ab" ∷ [], codes "xab", (refl, refl), inl ((refl, refl), refl))

-- without a path no step is taken, and none fails
no_step : InOrder adds 1 [] [] (codes "x") (Ok (codes "x")) []
    × (InOrder adds 1 [] [] (codes "x") (Err (record { place = 1; fault = Read })) [] ≡ ⊥)
no_step = ((refl, refl), refl)

-- a file that can't be opened is not read, and one that was opened is
unopened_is_unread : ReadsOpened {R = ℕ} (λ reader rest. ⊥) ⊤ (Err NotFound) (Err NotFound)
    × ReadsOpened {R = ℕ} (λ reader rest. ⊤) ⊥ (Ok 1) (Ok 2)
    × (ReadsOpened {R = ℕ} (λ reader rest. ⊤) ⊤ (Ok 1) (Err NotFound) ≡ ⊥)
unopened_is_unread = ((refl, tt), tt, refl)

-- the first file, which is there, was read without a failure, and there is no file of an empty path
read_paths : ReadsPath {T = ℕ} listed (codes "a") [] (Ok 5) (codes "a" ∷ [])
    × ReadsPath {T = ℕ} listed [] [] (Err Read) ([] ∷ [])
read_paths = (
  record {
    opened = Ok (codes "a");
    rest = Ok (codes "a");
    opens_once = (refl, refl);
    known = refl;
    unchanged = refl;
    counts_unopened = refl;
    reads = (λ text known. record { rest = text; told = known; few = omega arith }, refl);
  },
  record {
    opened = Err NotFound;
    rest = Err NotFound;
    opens_once = (refl, refl);
    known = tt;
    unchanged = refl;
    counts_unopened = refl;
    reads = (refl, refl);
  },
)

texts_of_paths : AreTexts (listed.text []) (codes "a" ∷ codes "b" ∷ []) (codes "a" ∷ codes "b" ∷ [])
    × (AreTexts (listed.text []) (codes "a" ∷ []) [] ≡ ⊥)
texts_of_paths = ((refl, (refl, tt)), refl)

-- the first file that is refused is named, also after an accepted one, and none where all are
-- accepted; a place counts from that of the first file
refusals_of_files : (refusal_among Packages ([] ∷ codes "Package aa" ∷ codes "\nPackage aa" ∷ [])
    ≡ Some (2, record { code = NoColon; line = 1 }))
    × (refusal_among Binary ([] ∷ []) ≡ Some (1, record { code = NoParagraph; line = 1 }))
    × (refusal_among Packages ([] ∷ [] ∷ []) ≡ None) × (refusal_among Packages [] ≡ None)
    × (refusal_from Packages 4 ([] ∷ codes "\nPackage aa" ∷ [])
    ≡ Some (5, record { code = NoColon; line = 2 }))
unfolding file_limit paragraph_limit is_utf8 chars encode
refusals_of_files = (refl, refl, refl, refl, refl)
