-- What is answered to a program in C of what changed between two files. The lines and the numbers
-- of the details are this project's own.
use Rattle.std.specs.Prelude.{◌≡◌, ◌⊎◌, ◌↔◌, ℕ, ◌≤◌, Bool, true, false, IsTrue, List, [], ◌∷◌, map, refl}
use Rattle.deb_base.specs.Faults.{MatchFault}
use Rattle.deb_control.specs.Documents.{Accepted, Meaning}
use Rattle.deb_control.specs.declared.side.SideFault.{SideFault}
use Rattle.deb_base.specs.declared.doc.Doc.{Doc}
use Rattle.deb_diff.specs.Kinds.{doc_of}
use Rattle.deb_base.specs.declared.version_text.VersionText.TheVariants.{Canonical}
use Rattle.deb_diff.specs.Lines.{diff_text, form_of}
use Rattle.deb_diff.specs.declared.detail.Detail.{Detail}
use Rattle.deb_diff.specs.declared.detail.Detail.TheVariants.{Fields, Values}
use Rattle.deb_diff.specs.declared.kind.Kind.{Kind}
use Rattle.debctl_ffi.specs.Answers.{plain}
use Rattle.debctl_ffi.specs.Documents.{IsRefusedFile, IsRefusedOther, RefusesSide, kind_number}
use Rattle.debctl_ffi.specs.declared.answer.Answer.{Answer}

-- ---- what is asked

-- the number of a detail
abbrev pub detail_number : Detail → ℕ
detail_number Fields = 0
detail_number Values = 1

numbers_of_details : map detail_number (Fields ∷ Values ∷ []) ≡ 0 ∷ 1 ∷ []
numbers_of_details = refl

-- The number is that of other control data, or of no kind.
abbrev pub IsNotCompared : ℕ → Type 0
IsNotCompared kind = (kind ≡ 4) ⊎ (6 ≤ kind)

-- The numbers ask this; or they ask nothing, since there is no such kind, or no such detail.
pub record IsComparing (kind detail : ℕ) (of : Kind) (how : Detail) : Type 0 where
  pub kind_is : kind ≡ kind_number (doc_of of)
  pub detail_is : detail ≡ detail_number how

abbrev pub ComparesNothing : ℕ → ℕ → Type 0
ComparesNothing kind detail = IsNotCompared kind ⊎ (2 ≤ detail)

nothing_compared : ComparesNothing 3 1 ≡ ((◌≡◌ {A = ℕ} 3 4 ⊎ (6 ≤ 3)) ⊎ (2 ≤ 1))
nothing_compared = refl

-- ---- the lines

-- Both files are accepted, and these are the lines that say what changed between them; and this is
-- whether there is none.
pub record HasDiff (of : Kind) (how : Detail) (text other : List ℕ) (is_empty : Bool)
    (bytes : List ℕ) : Type 0 where
  pub old_meaning : Meaning
  pub new_meaning : Meaning
  pub accepted : Accepted (doc_of of) text old_meaning
  pub other_accepted : Accepted (doc_of of) other new_meaning
  pub is : bytes ≡ diff_text of (form_of how Canonical) text other old_meaning new_meaning
  pub no_line : IsTrue is_empty
      ↔ (diff_text of (form_of how Canonical) text other old_meaning new_meaning ≡ [])

-- A refusal is that of the file of the side.
abbrev pub IsDiffRefusal : Doc → List ℕ → List ℕ → SideFault → Type 0
IsDiffRefusal doc text other failed =
    MatchFault failed.fault (RefusesSide failed.side doc text other) (Unit {0}) (Unit {0})
    (Unit {0})

-- ---- answers

-- The numbers ask for a comparison, of which this holds.
pub record OfCompared (kind detail : ℕ) (Says : Kind → Detail → Type 0) : Type 0 where
  pub of : Kind
  pub how : Detail
  pub asked : IsComparing kind detail of how
  pub says : Says of how

-- These are the answer and the lines, of which there is none, or is one.
abbrev pub Differs : ℕ → ℕ → List ℕ → List ℕ → Answer → List ℕ → Type 0
Differs kind detail text other told bytes =
    ((told ≡ plain 0)
    × OfCompared kind detail (λ of how. HasDiff of how text other true bytes))
    ⊎ ((told ≡ plain 1)
    × OfCompared kind detail (λ of how. HasDiff of how text other false bytes))

-- The old file is refused; or it is accepted, and the new one is refused; or memory is out; or the
-- numbers ask for no comparison.
abbrev pub DiffFails : ℕ → ℕ → List ℕ → List ℕ → Answer → Type 0
DiffFails kind detail text other answer =
    OfCompared kind detail (λ of how. IsRefusedFile (doc_of of) text answer)
    ⊎ OfCompared kind detail (λ of how. IsRefusedOther (doc_of of) text other answer)
    ⊎ (answer ≡ plain 5)
    ⊎ ((answer ≡ plain 6) × ComparesNothing kind detail)
