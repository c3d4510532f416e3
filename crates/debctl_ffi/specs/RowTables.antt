-- What is answered to a program in C of the rows of a text that this library wrote. The numbers of
-- the forms are this project's own.
use Rattle.std.specs.Prelude.{◌≡◌, ◌⊎◌, ℕ, ◌≤◌, List, [], ◌∷◌, map, refl}
use Rattle.deb_rows.specs.Calls.{IsOther, LacksRoom, Reads}
use Rattle.deb_rows.specs.declared.form.Form.{Form}
use Rattle.deb_rows.specs.declared.form.Form.TheVariants.{DiffLines, Explanation, HealthLines, InstallableLines, Report, UnmetLines}
use Rattle.deb_rows.specs.declared.row.Row.{Row}
use Rattle.debctl_ffi.specs.Answers.{plain}
use Rattle.debctl_ffi.specs.Buffers.{Buffer, GivesNothing}
use Rattle.debctl_ffi.specs.declared.answer.Answer.{Answer}

-- ---- forms

-- the number of a form
abbrev pub form_number : Form → ℕ
form_number Report = 0
form_number UnmetLines = 1
form_number DiffLines = 2
form_number Explanation = 3
form_number HealthLines = 4
form_number InstallableLines = 5

-- The number is that of no form.
abbrev pub IsNoForm : ℕ → Type 0
IsNoForm number = 6 ≤ number

numbers_of_forms : map form_number
    (Report ∷ UnmetLines ∷ DiffLines ∷ Explanation ∷ HealthLines ∷ InstallableLines ∷ [])
    ≡ 0 ∷ 1 ∷ 2 ∷ 3 ∷ 4 ∷ 5 ∷ []
numbers_of_forms = refl

other_numbers : (IsNoForm 5 ≡ (6 ≤ 5)) × (IsNoForm 6 ≡ (6 ≤ 6))
other_numbers = (refl, refl)

-- ---- answers

-- The number is that of a form, of which this holds.
pub record OfForm (number : ℕ) (Says : Form → Type 0) : Type 0 where
  pub form : Form
  pub is_form : number ≡ form_number form
  pub says : Says form

-- The rows of the text are given; or it has no rows of this form; or there is no room for them; or
-- there is no such form.
abbrev pub ReadsRows : ℕ → List ℕ → Buffer Row → Answer → Type 0
ReadsRows number text into answer =
    ((answer ≡ plain 0)
    × OfForm number (λ form. Reads form text into.before into.after into.len))
    ⊎ ((answer ≡ plain 1)
    × OfForm number (λ form. IsOther form text into.before into.after into.len))
    ⊎ ((answer ≡ plain 4)
    × OfForm number (λ form. LacksRoom form text into.before into.after into.len))
    ⊎ ((answer ≡ plain 6) × IsNoForm number × GivesNothing into)
