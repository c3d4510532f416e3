-- What is answered of files to a program in C: Debian Policy 5.1 and 5.3 to 5.6. The numbers of the
-- kinds are this project's own.
use Rattle.std.specs.Prelude.{◌≡◌, ℕ, ◌≤◌, ◌⊎◌, List, [], ◌∷◌, true, false, length, map, Some, refl}
use Rattle.deb_base.specs.Faults.{RefusedOrMemory}
use Rattle.deb_base.specs.declared.refusal.Refusal.{Refusal}
use Rattle.deb_base.specs.declared.doc.Doc.{Doc}
use Rattle.deb_base.specs.declared.doc.Doc.TheVariants.{Binary, Packages, Source, Sources, Status, Any}
use Rattle.deb_control.specs.Calls.{HasParagraphs}
use Rattle.deb_control.specs.Comparing.{RefusesSecond, AnswersSame}
use Rattle.deb_control.specs.Documents.{Accepted, Meaning, canonical_text, refusal_of}
use Rattle.deb_control.specs.declared.side.Side.{Side}
use Rattle.deb_control.specs.declared.side.Side.TheVariants.{First, Second}
use Rattle.deb_control.specs.declared.side.SideFault.{SideFault}
use Rattle.debctl_ffi.specs.Answers.{counting, plain, refusing}
use Rattle.debctl_ffi.specs.declared.answer.Answer.{Answer}

-- ---- kinds

-- the number of a kind
abbrev pub kind_number : Doc → ℕ
kind_number Binary = 0
kind_number Packages = 1
kind_number Source = 2
kind_number Sources = 3
kind_number Any = 4
kind_number Status = 5

-- The number is one of a kind; it is none.
abbrev pub IsKind : ℕ → Type 0
IsKind number = (doc : Doc) × (number ≡ kind_number doc)

abbrev pub IsNoKind : ℕ → Type 0
IsNoKind number = 6 ≤ number

numbers_of_kinds : map kind_number (Binary ∷ Packages ∷ Source ∷ Sources ∷ Any ∷ Status ∷ [])
    ≡ 0 ∷ 1 ∷ 2 ∷ 3 ∷ 4 ∷ 5 ∷ []
numbers_of_kinds = refl

other_numbers : (IsNoKind 5 ≡ (6 ≤ 5)) × (IsNoKind 6 ≡ (6 ≤ 6))
other_numbers = (refl, refl)

-- The number is that of a kind, of which this holds.
pub record OfKind (kind : ℕ) (Says : Doc → Type 0) : Type 0 where
  pub doc : Doc
  pub is_kind : kind ≡ kind_number doc
  pub says : Says doc

-- ---- files in memory

-- The file is accepted, and this is the answer with the number of its paragraphs; or it is refused,
-- and this is the answer with its refusal.
pub record IsAcceptedFile (doc : Doc) (text : List ℕ) (answer : Answer) : Type 0 where
  pub has : HasParagraphs doc text answer.count
  pub is : answer ≡ counting 0 answer.count

pub record IsRefusedFile (doc : Doc) (text : List ℕ) (answer : Answer) : Type 0 where
  pub refusal : Refusal
  pub refused : refusal_of doc text ≡ Some refusal
  pub is : answer ≡ refusing 2 refusal

-- The file is accepted with so many paragraphs, and this is its canonical text.
pub record HasCanonical (doc : Doc) (text : List ℕ) (n : ℕ) (bytes : List ℕ) : Type 0 where
  pub meaning : Meaning
  pub accepted : Accepted doc text meaning
  pub count : n ≡ length meaning
  pub is : bytes ≡ canonical_text meaning

-- The first file is refused, or the second where the first is accepted; or memory was wanting.
abbrev pub RefusesSide : Side → Doc → List ℕ → List ℕ → Refusal → Type 0
RefusesSide First doc text other refusal = refusal_of doc text ≡ Some refusal
RefusesSide Second doc text other refusal = RefusesSecond doc text other refusal

abbrev pub IsSideFault : Doc → List ℕ → List ℕ → SideFault → Type 0
IsSideFault doc text other side_fault =
    RefusedOrMemory side_fault.fault (RefusesSide side_fault.side doc text other)

-- ---- answers

-- Memory is out, or there is no such kind; or the file is refused, and this is its refusal.
abbrev pub KindFails : ℕ → Answer → Type 0
KindFails kind answer =
    ((answer ≡ plain 5) × IsKind kind) ⊎ ((answer ≡ plain 6) × IsNoKind kind)

abbrev pub IsRefused : ℕ → List ℕ → Answer → Type 0
IsRefused kind text answer = OfKind kind (λ doc. IsRefusedFile doc text answer)

abbrev pub FileFails : ℕ → List ℕ → Answer → Type 0
FileFails kind text answer = IsRefused kind text answer ⊎ KindFails kind answer

-- The file is accepted, and this is the number of its paragraphs; or it isn't.
abbrev pub ChecksFile : ℕ → List ℕ → Answer → Type 0
ChecksFile kind text answer =
    OfKind kind (λ doc. IsAcceptedFile doc text answer) ⊎ FileFails kind text answer

-- The file is accepted, and these are its answer and its canonical text.
abbrev pub Normalises : ℕ → List ℕ → Answer → List ℕ → Type 0
Normalises kind text told bytes =
    OfKind kind (λ doc. HasCanonical doc text told.count bytes × (told ≡ counting 0 told.count))

-- Both files are accepted, and mean the same, or don't; or the first is refused; or it is accepted
-- and the second is refused, and this is its refusal.
pub record IsRefusedOther (doc : Doc) (text other : List ℕ) (answer : Answer) : Type 0 where
  pub refusal : Refusal
  pub refused : RefusesSecond doc text other refusal
  pub is : answer ≡ refusing 3 refusal

abbrev pub ComparesFiles : ℕ → List ℕ → List ℕ → Answer → Type 0
ComparesFiles kind text other answer =
    ((answer ≡ plain 0) × OfKind kind (λ doc. AnswersSame doc text other true))
    ⊎ ((answer ≡ plain 1) × OfKind kind (λ doc. AnswersSame doc text other false))
    ⊎ IsRefused kind text answer
    ⊎ OfKind kind (λ doc. IsRefusedOther doc text other answer)
    ⊎ KindFails kind answer
