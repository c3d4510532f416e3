-- What is answered to a program in C. The statuses are this project's own: 0 done or yes, 1 no, 2
-- refused, 3 the second of two is refused, 4 no room, 5 no memory, 6 no kind.
use Rattle.std.specs.Prelude.{◌≡◌, ℕ, List, [], ◌∷◌, IsTrue, false, nat_eq, refl}
use Rattle.std.specs.List.{list_any}
use Rattle.deb_base.specs.Codes.{number_of}
use Rattle.deb_base.specs.declared.code.Code.TheVariants.{NotUtf8, BadEnvironment}
use Rattle.deb_base.specs.declared.refusal.Refusal.{Refusal}
use Rattle.debctl_ffi.specs.declared.answer.Answer.{Answer}

-- a status alone; one with a number of paragraphs; one with the refusal of a text
abbrev pub plain : ℕ → Answer
plain status = record { status = status; code = 0; line = 0; count = 0 }

abbrev pub counting : ℕ → ℕ → Answer
counting status count = record { status = status; code = 0; line = 0; count = count }

abbrev pub refusing : ℕ → Refusal → Answer
refusing status refusal =
    record { status = status; code = number_of refusal.code; line = refusal.line; count = 0 }

-- the same with the number of paragraphs that pass
abbrev pub refusing_some : Refusal → ℕ → Answer
refusing_some refusal count =
    record { status = 2; code = number_of refusal.code; line = refusal.line; count = count }

-- The status is one of these.
abbrev pub HasStatus : ℕ → List ℕ → Type 0
HasStatus status statuses = IsTrue (list_any (λ one. nat_eq one status) statuses)

-- Worked cases.

statuses : (plain 0 ≡ record { status = 0; code = 0; line = 0; count = 0 })
    × (plain 4 ≡ record { status = 4; code = 0; line = 0; count = 0 })
statuses = (refl, refl)

counts : (counting 0 0 ≡ record { status = 0; code = 0; line = 0; count = 0 })
    × (counting 0 3 ≡ record { status = 0; code = 0; line = 0; count = 3 })
counts = (refl, refl)

refusals : (refusing 2 (record { code = NotUtf8; line = 7 })
    ≡ record { status = 2; code = 1; line = 7; count = 0 })
    × (refusing 3 (record { code = BadEnvironment; line = 0 })
    ≡ record { status = 3; code = 23; line = 0; count = 0 })
refusals = (refl, refl)

some_refused : refusing_some (record { code = NotUtf8; line = 7 }) 3
    ≡ record { status = 2; code = 1; line = 7; count = 3 }
some_refused = refl

one_of_them : HasStatus 2 (0 ∷ 2 ∷ [])
one_of_them = refl

none_of_them : HasStatus 1 (0 ∷ 2 ∷ []) ≡ IsTrue false
none_of_them = refl
