-- What is answered to a program in C of the package of a loaded index with a number: what the index
-- keeps of it, and the line at which its paragraph starts. The status is this project's own.
use Rattle.std.specs.Prelude.{◌≡◌, ℕ, List, Some, refl}
use Rattle.deb_index.specs.FirstLines.{line_at}
use Rattle.deb_index.specs.KeptTexts.{kept_text}
use Rattle.deb_index.specs.Listed.{Listed}
use Rattle.deb_index.specs.Named.{package_at}
use Rattle.debctl_ffi.specs.Buffers.{Buffer}
use Rattle.debctl_ffi.specs.Loads.{HasLines, NoPackage, OfPackages, RepliesLoaded}
use Rattle.debctl_ffi.specs.declared.answer.Answer.{Answer}
use Rattle.debctl_ffi.specs.declared.loaded.Loaded.{Loaded}

-- the status 0 with a line of the file
abbrev pub at_line : ℕ → Answer
at_line line = record { status = 0; code = 0; line = line; count = 0 }

-- There is a package with the number, this is what is kept of it, and the answer has the line of
-- its paragraph.
pub record HasDetails (number : ℕ) (packages : List Listed) (lines : List ℕ) (told : Answer)
    (bytes : List ℕ) : Type 0 where
  pub listed : Listed
  pub line : ℕ
  pub is : package_at number packages ≡ Some listed
  pub starts : line_at number lines ≡ Some line
  pub answer_is : told ≡ at_line line
  pub kept : bytes ≡ kept_text listed

-- This is found; or there is no such package, or memory is out.
abbrev pub AsksDetails : ℕ → Loaded → Buffer ℕ → Answer → Type 0
AsksDetails number loaded =
    RepliesLoaded loaded
    (λ told bytes. (told.status ≡ 0)
    × OfPackages loaded (λ packages. (lines : List ℕ) → HasLines loaded lines
    → HasDetails number packages lines told bytes))
    (NoPackage number loaded)

worked-line : at_line 7 ≡ record { status = 0; code = 0; line = 7; count = 0 }
worked-line = refl
