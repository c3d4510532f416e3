-- What is answered to a program in C of the latest versions over several files. Debian Policy 5.3,
-- 5.4 and 5.6.12; the numbers are this project's own.
use Rattle.std.specs.Prelude.{◌≡◌, ◌⊎◌, ℕ, ◌+◌, ◌==◌, ◌++◌, cond, length, List, [], ◌∷◌, map, Option, None, Some, codes, refl}
use Rattle.std.specs.Option.{option_map}
use Rattle.deb_base.specs.declared.refusal.Refusal.{Refusal}
use Rattle.deb_control.specs.Documents.{Meaning, refusal_of}
use Rattle.deb_version.specs.Grammar.{SpellsVersion}
use Rattle.deb_version.specs.Parts.{Meaning as VersionMeaning}
use Rattle.deb_version.specs.Version.{meaning_of}
use Rattle.deb_version.specs.declared.version.Version.{Version}
use Rattle.deb_latest.specs.Entries.{doc_of}
use Rattle.deb_latest.specs.Files.{FilesMean, latest_text}
use Rattle.deb_latest.specs.Reads.{HasRead}
use Rattle.deb_latest.specs.Requests.{Asked, latest_of}
use Rattle.deb_latest.specs.declared.kind.Kind.{Kind}
use Rattle.deb_latest.specs.declared.kind.Kind.TheVariants.{Packages, Sources}
use Rattle.deb_latest.specs.declared.latest.Latest.{Latest}
use Rattle.deb_latest.specs.declared.request.By.{By}
use Rattle.deb_latest.specs.declared.request.By.TheVariants.{Name, NameAndArchitecture}
use Rattle.debctl_ffi.specs.Answers.{counting, plain, refusing, refusing_some}
use Rattle.debctl_ffi.specs.Buffers.{Buffer}
use Rattle.debctl_ffi.specs.Replies.{Replies}
use Rattle.debctl_ffi.specs.Versions.{IsNoVersion, bad_version}
use Rattle.debctl_ffi.specs.declared.answer.Answer.{Answer}

-- ---- what is asked

-- the kind of files of a number, and which paragraphs are of one package
abbrev pub kind_by : ℕ → Option Kind
kind_by number = cond (number == 1) (Some Packages) (cond (number == 3) (Some Sources) None)

abbrev pub by_number : ℕ → Option By
by_number number =
    cond (number == 0) (Some Name) (cond (number == 1) (Some NameAndArchitecture) None)

-- The version before which all are that are considered: none for an empty text.
abbrev pub IsLimit : List ℕ → Option VersionMeaning → Type 0
IsLimit [] limit = limit ≡ None
IsLimit (b ∷ bs) limit =
    (version : VersionMeaning) × ((limit ≡ Some version) × SpellsVersion (b ∷ bs) version)

abbrev pub has_limit : List ℕ → Option Version → Type 0
has_limit before limit = IsLimit before (option_map meaning_of limit)

-- The text is neither empty nor a version.
abbrev pub IsNoLimit : List ℕ → Answer → Type 0
IsNoLimit [] told = ⊥
IsNoLimit (b ∷ bs) told = IsNoVersion (b ∷ bs) × (told ≡ refusing 2 bad_version)

-- The numbers and the limit are of this.
pub record IsAskedLatest (kind by : ℕ) (before : List ℕ) (asked : Asked) : Type 0 where
  pub kind_is : kind_by kind ≡ Some asked.kind
  pub by_is : by_number by ≡ Some asked.by
  pub limit_is : IsLimit before asked.limit

-- ---- the files

-- All files were read.
pub record HasReadAll (asked : Asked) (texts : List (List ℕ)) (latest : Latest) : Type 0 where
  pub meaning : Meaning
  pub means : FilesMean asked.kind texts meaning
  pub has : HasRead asked meaning latest

-- All files are accepted, and this is the text of the paragraphs with the latest versions, and how
-- many there are.
pub record HasLatest (asked : Asked) (texts : List (List ℕ)) (count : ℕ) (bytes : List ℕ) : Type 0
  where
    pub meaning : Meaning
    pub means : FilesMean asked.kind texts meaning
    pub text_is : bytes ≡ latest_text asked meaning texts
    pub counted : count ≡ length (latest_of asked meaning)

-- The file is refused, which is the one at this place; or memory is out.
pub record RefusesText (kind : Kind) (text : List ℕ) (place : ℕ) (told : Answer) : Type 0 where
  pub refusal : Refusal
  pub refused : refusal_of (doc_of kind) text ≡ Some refusal
  pub is : told ≡ refusing_some refusal place

abbrev pub StopsAt : Kind → List ℕ → ℕ → Answer → Type 0
StopsAt kind text place told = RefusesText kind text place told ⊎ (told ≡ plain 5)

-- The files before one are accepted, and it is refused; or memory is out.
pub record RefusesOne (kind : Kind) (texts : List (List ℕ)) (told : Answer) : Type 0 where
  pub earlier : List (List ℕ)
  pub text : List ℕ
  pub later : List (List ℕ)
  pub whole : texts ≡ earlier ++ text ∷ later
  pub meaning : Meaning
  pub means : FilesMean kind earlier meaning
  pub refuses : RefusesText kind text (length earlier + 1) told

abbrev pub StopsReading : Kind → List (List ℕ) → Answer → Type 0
StopsReading kind texts told = RefusesOne kind texts told ⊎ (told ≡ plain 5)

-- ---- answers

pub record FindsLatest (kind by : ℕ) (before : List ℕ) (texts : List (List ℕ)) (told : Answer)
    (bytes : List ℕ) : Type 0 where
  pub asked : Asked
  pub is_asked : IsAskedLatest kind by before asked
  pub count : ℕ
  pub has : HasLatest asked texts count bytes
  pub is : told ≡ counting 0 count

-- The limit isn't a version; or it is one or empty, and a file is refused, or memory is out.
pub record StopsAsked (kind by : ℕ) (before : List ℕ) (texts : List (List ℕ)) (told : Answer)
    : Type 0 where
  pub asked : Asked
  pub is_asked : IsAskedLatest kind by before asked
  pub stops : StopsReading asked.kind texts told

-- Nothing has these numbers.
abbrev pub AsksNoLatest : ℕ → ℕ → Type 0
AsksNoLatest kind by = (kind_by kind ≡ None) ⊎ (by_number by ≡ None)

abbrev pub LatestFails : ℕ → ℕ → List ℕ → List (List ℕ) → Answer → Type 0
LatestFails kind by before texts told =
    IsNoLimit before told
    ⊎ StopsAsked kind by before texts told
    ⊎ ((told ≡ plain 6) × AsksNoLatest kind by)

abbrev pub AnswersLatest : ℕ → ℕ → List ℕ → List (List ℕ) → Buffer ℕ → Answer → Type 0
AnswersLatest kind by before texts =
    Replies (FindsLatest kind by before texts) (LatestFails kind by before texts)

-- ---- worked cases

worked-numbers : (map kind_by (0 ∷ 1 ∷ 2 ∷ 3 ∷ 4 ∷ [])
    ≡ None ∷ Some Packages ∷ None ∷ Some Sources ∷ None ∷ [])
    × (map by_number (0 ∷ 1 ∷ 2 ∷ []) ≡ Some Name ∷ Some NameAndArchitecture ∷ None ∷ [])
worked-numbers = (refl, refl)

-- the second of two files is refused
worked-place : (refusal : Refusal) → refusal_of (doc_of Packages) (codes "x") ≡ Some refusal
    → (meaning : Meaning) → FilesMean Packages ([] ∷ []) meaning
    → RefusesOne Packages ([] ∷ codes "x" ∷ []) (refusing_some refusal 2)
worked-place refusal refused meaning means = record {
  earlier = [] ∷ [];
  text = codes "x";
  later = [];
  whole = refl;
  meaning = meaning;
  means = means;
  refuses = record { refusal = refusal; refused = refused; is = refl };
}
